-- The closed sum of the cipher, taken a byte at a time.
use Rattle.std.proofs.Common.{◌≡◌, ℕ, ◌<◌, ◌++◌, List, [], ◌∷◌, None, Some, refl, ap, sym, ◌∙◌, append_assoc, append-nil}
use Rattle.t1_seal.specs.Cipher.{decrypted, plain_byte, state_after}
use Rattle.t1_seal.proofs.States.{starts_at_the_start, state_runs_along}
use Rattle.t1_seal.proofs.Deciphering.{decrypted-push}
use Rattle.t1_char.specs.Private.Cursors.{deciphered}

deciphered_behind : (start : ℕ) (front rest : List ℕ) → decrypted start (front ++ rest) ≡ decrypted start front ++ deciphered
    (Some (state_after start front)) rest
unfolding deciphered
deciphered_behind start front [] = ap (decrypted start) (append-nil front) ∙ sym (append-nil (decrypted start front))
deciphered_behind start front (c ∷ rest) =
    ap (decrypted start) (sym (append_assoc front (c ∷ []) rest))
    ∙ deciphered_behind start (front ++ c ∷ []) rest
    ∙ ap (λ l. l ++ deciphered (Some (state_after start (front ++ c ∷ []))) rest) (decrypted-push start front c)
    ∙ append_assoc (decrypted start front) (plain_byte start front c ∷ []) (deciphered (Some (state_after start (front ++ c ∷ []))) rest)
    ∙ ap (λ r. decrypted start front ++ plain_byte start front c ∷ deciphered (Some r) rest) (state_runs_along start front c)

pub decrypted_is : (start : ℕ) (code : List ℕ) → start < 65536 → decrypted start code ≡ deciphered (Some start) code
unfolding decrypted
decrypted_is start code small =
    deciphered_behind start [] code ∙ ap (λ r. deciphered (Some r) code) (starts_at_the_start start small)

-- Without a cipher the bytes stay as they are.
pub deciphered_plain : (code : List ℕ) → deciphered None code ≡ code
unfolding deciphered
deciphered_plain [] = refl
deciphered_plain (c ∷ rest) = ap (λ l. c ∷ l) (deciphered_plain rest)
