-- The plain bytes, a cipher byte at a time, and back from what was enciphered.
use Rattle.std.proofs.Common.{◌≡◌, ℕ, ◌+◌, ◌/◌, ◌<◌, ◌≤◌, ◌++◌, List, [], ◌∷◌, length, take, get_or, map, refl, ap, sym, ◌∙◌, append_assoc, append-nil, length-append, arith}
use Rattle.std.specs.Int.Bits.{bit_xor, xor_assoc, xor_self, xor_zero_r}
use Rattle.std.specs.List.{range_with_len}
use Rattle.std.proofs.Math.Seq.{get_or-append_seam, take-append_seam}
use Rattle.std.proofs.lemmas.List.{get_or_append_left, take-append-le}
use Rattle.std.proofs.lemmas.List.FromFn.{map-range_with_len_more, length-map-range_with_len, get_or-map-range_with_len, fill_by_all}
use Rattle.t1_seal.specs.Cipher.{state_after, plain_byte, decrypted}
use Rattle.t1_seal.specs.Laws.Cipher.{next_state, encrypted, DeciphersTheEnciphered}
use Rattle.t1_seal.proofs.States.{starts_at_the_start, state_runs_along}

-- Lists made from one function of the index are equal where it is.
map_same : (n : ℕ) (f g : ℕ → ℕ) → ((k : ℕ) → k < n → f k ≡ g k) → map f (range_with_len 0 n) ≡ map g (range_with_len 0 n)
map_same n f g same =
    fill_by_all g (map f (range_with_len 0 n)) n 0 (length-map-range_with_len f 0 n)
    (λ k h. get_or-map-range_with_len f 0 n k k 0 h (omega arith) ∙ same k h)

-- One more cipher byte makes one more plain byte.
pub decrypted-push : (start : ℕ) (front : List ℕ) (c : ℕ) → decrypted start (front ++ c ∷ []) ≡ decrypted start front ++ plain_byte start front c ∷ []
unfolding decrypted
decrypted-push start front c =
    let n : ℕ = length front in
    let f : ℕ → ℕ = λ i. plain_byte start (take i front) (get_or front i 0) in
    let g : ℕ → ℕ = λ i. plain_byte start (take i (front ++ c ∷ [])) (get_or (front ++ c ∷ []) i 0) in
    let len : length (front ++ c ∷ []) ≡ n + 1 = length-append front (c ∷ []) in
    let same : (k : ℕ) → k < n → g k ≡ f k = λ k h.
    let below : k ≤ n = omega arith in
    rw (take-append-le k front (c ∷ []) below, get_or_append_left front (c ∷ []) 0 k h) refl in
    let last : g n ≡ plain_byte start front c = rw (take-append_seam front (c ∷ []), get_or-append_seam front c [] 0) refl in
    ap (λ m. map g (range_with_len 0 m)) len ∙ map-range_with_len_more g 0 n n (omega arith)
    ∙ ap (λ l. l ++ g n ∷ []) (map_same n g f same) ∙ ap (λ p. map f (range_with_len 0 n) ++ p ∷ []) last

-- There are as many plain bytes as cipher bytes.
pub length-decrypted : (start : ℕ) (cipher : List ℕ) → length (decrypted start cipher) ≡ length cipher
unfolding decrypted
length-decrypted start cipher = length-map-range_with_len (λ i. plain_byte start (take i cipher) (get_or cipher i 0)) 0 (length cipher)

-- The same xor twice is none.
xor_twice : (p k : ℕ) → bit_xor (bit_xor p k) k ≡ p
xor_twice p k = xor_assoc p k k ∙ ap (bit_xor p) (xor_self k) ∙ xor_zero_r p

-- The rest of a text, enciphered from the state after a prefix, deciphers after that prefix.
deciphers_after : (start : ℕ) (front plain : List ℕ) → decrypted start (front ++ encrypted (state_after start front) plain) ≡ decrypted start front ++ plain
deciphers_after start front [] = rw (append-nil front, append-nil (decrypted start front)) refl
deciphers_after start front (p ∷ plain) =
    let key : ℕ = state_after start front / 256 in
    let c : ℕ = bit_xor p key in
    ap (decrypted start) (sym (append_assoc front (c ∷ []) (encrypted (next_state (state_after start front) c) plain)))
    ∙ ap (λ r. decrypted start ((front ++ c ∷ []) ++ encrypted r plain)) (sym (state_runs_along start front c))
    ∙ deciphers_after start (front ++ c ∷ []) plain
    ∙ ap (λ l. l ++ plain) (decrypted-push start front c)
    ∙ ap (λ q. (decrypted start front ++ q ∷ []) ++ plain) (xor_twice p key)
    ∙ append_assoc (decrypted start front) (p ∷ []) plain

-- What was enciphered is deciphered to the same bytes.
pub deciphers_the_enciphered : DeciphersTheEnciphered
unfolding decrypted
deciphers_the_enciphered start plain small =
    ap (λ r. decrypted start (encrypted r plain)) (sym (starts_at_the_start start small)) ∙ deciphers_after start [] plain
