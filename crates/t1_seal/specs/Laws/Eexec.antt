-- Laws of the encrypted section's definition: how cipher bytes are written after the word `eexec`, in
-- hexadecimal or as they are, and that they open. Type 1 Font Format 1.1, chapter 7 (Encryption).
use Rattle.std.specs.Prelude.{◌≡◌, ℕ, ◌/◌, ◌%◌, ◌<◌, ◌≤◌, ◌++◌, true, false, List, [], ◌∷◌, length, drop, take, Some, Ok, Err}
use Rattle.std.specs.List.{AllPass}
use Rattle.hex.specs.Hex.{hex_digit_value}
use Rattle.t1_seal.specs.declared.errors.SealError.TheVariants.{TooShort}
use Rattle.t1_seal.specs.Cipher.{eexec_start, decrypted}
use Rattle.t1_seal.specs.Eexec.{is_leading, is_blank, is_digit, is_hexadecimal, private_text_of}

-- The digits write the bytes: two digits a byte, the high one first, in either case. An odd digit may be at the end.
pub data AreWritten : List ℕ → List ℕ → Type 0 where
  no_digits : AreWritten [] []
  odd_digit : (digit : ℕ) → is_digit digit ≡ true → AreWritten [] (digit ∷ [])
  two_digits : (byte high low : ℕ) (bytes digits : List ℕ) → hex_digit_value high ≡ Some (byte / 16)
      → hex_digit_value low ≡ Some (byte % 16) → AreWritten bytes digits
      → AreWritten (byte ∷ bytes) (high ∷ low ∷ digits)

-- The text is the digits, with blanks anywhere among them.
pub data AreSpaced : List ℕ → List ℕ → Type 0 where
  nothing_left : AreSpaced [] []
  digit : (c : ℕ) (digits text : List ℕ) → AreSpaced digits text → AreSpaced (c ∷ digits) (c ∷ text)
  blank : (c : ℕ) (digits text : List ℕ) → is_blank c ≡ true → AreSpaced digits text
      → AreSpaced digits (c ∷ text)

-- The digits have ended here: nothing follows, or a byte that is neither a digit nor a blank.
abbrev pub EndsDigits : List ℕ → Type 0
EndsDigits [] = Unit {0}
EndsDigits (c ∷ rest) = (is_digit c ≡ false) × (is_blank c ≡ false)

-- Cipher bytes that are written in hexadecimal: four digits, then the others with blanks among them,
-- and what follows the digits.
pub record IsHexadecimal (bytes cipher : List ℕ) : Type 0 where
  pub leading : List ℕ
  pub digits : List ℕ
  pub spaced : List ℕ
  pub tail : List ℕ
  pub leads : AllPass is_leading leading
  pub written : AreWritten cipher digits
  pub four : 4 ≤ length digits
  pub blanks : AreSpaced (drop 4 digits) spaced
  pub ends : EndsDigits tail
  pub is : bytes ≡ leading ++ (take 4 digits ++ (spaced ++ tail))

-- The first byte is none that may be between the word and the section.
abbrev pub BeginsSection : List ℕ → Type 0
BeginsSection [] = Unit {0}
BeginsSection (c ∷ rest) = is_leading c ≡ false

-- Cipher bytes as they are.
pub record IsBinary (bytes cipher : List ℕ) : Type 0 where
  pub leading : List ℕ
  pub leads : AllPass is_leading leading
  pub begins : BeginsSection cipher
  pub no_digits_first : is_hexadecimal cipher ≡ false
  pub is : bytes ≡ leading ++ cipher

-- The bytes open to the cipher bytes deciphered without the first four, and to nothing where there are
-- fewer.
pub record Opens (bytes cipher : List ℕ) : Type 0 where
  pub short : length cipher < 4 → private_text_of bytes ≡ Err TooShort
  pub long : 4 ≤ length cipher → private_text_of bytes ≡ Ok (drop 4 (decrypted eexec_start cipher))

-- What is written in hexadecimal opens, and so does what is binary.
abbrev pub OpensHexadecimal : Type 0
OpensHexadecimal = (bytes cipher : List ℕ) → IsHexadecimal bytes cipher → Opens bytes cipher

abbrev pub OpensBinary : Type 0
OpensBinary = (bytes cipher : List ℕ) → IsBinary bytes cipher → Opens bytes cipher
