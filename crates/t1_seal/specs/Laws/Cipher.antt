-- Laws of the cipher's definition, by the formulas of Type 1 Font Format 1.1, chapter 7 (Encryption).
use Rattle.std.specs.Prelude.{◌≡◌, ℕ, ◌+◌, ◌*◌, ◌/◌, ◌%◌, ◌<◌, ◌++◌, bit_xor, List, [], ◌∷◌}
use Rattle.t1_seal.specs.Cipher.{multiplier, addend, state_after, decrypted}

-- The state after the cipher byte c, where it was r.
abbrev pub next_state : ℕ → ℕ → ℕ
next_state r c = ((c + r) * multiplier + addend) % 65536

-- Enciphering: a plain byte p has the cipher byte p xor (r / 256), and the state runs on by that byte.
abbrev pub encrypted : ℕ → List ℕ → List ℕ
encrypted r [] = []
encrypted r (p ∷ rest) = bit_xor p (r / 256) ∷ encrypted (next_state r (bit_xor p (r / 256))) rest

-- Before any byte the state is the start.
abbrev pub StartsAtTheStart : Type 0
StartsAtTheStart = (start : ℕ) → start < 65536 → state_after start [] ≡ start

-- The sum over the bytes before and one more byte is the state that runs along.
abbrev pub StateRunsAlong : Type 0
StateRunsAlong =
    (start : ℕ) (front : List ℕ) (c : ℕ)
    → state_after start (front ++ c ∷ []) ≡ next_state (state_after start front) c

-- What was enciphered is deciphered to the same bytes.
abbrev pub DeciphersTheEnciphered : Type 0
DeciphersTheEnciphered =
    (start : ℕ) (plain : List ℕ) → start < 65536 → decrypted start (encrypted start plain) ≡ plain
