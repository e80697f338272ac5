-- The encrypted section of a font program, which follows the word `eexec`. Type 1 Font Format 1.1,
-- chapter 7 (Encryption), eexec encryption.
use Rattle.std.specs.Prelude.{ℕ, ◌+◌, ◌*◌, ◌==◌, ◌&&◌, ◌||◌, nat_lt, if◌then◌else◌, Bool, false, List, [], ◌∷◌, length, drop, unwrap_or, Result, Ok, Err}
use Rattle.std.specs.List.{filter, prefix_len, take_while}
use Rattle.hex.specs.Hex.{hex_digit_value, is_hex_digit}
use Rattle.t1_seal.specs.declared.errors.SealError.{SealError}
use Rattle.t1_seal.specs.declared.errors.SealError.TheVariants.{TooShort}
use Rattle.t1_seal.specs.Cipher.{eexec_start, decrypted}

-- What may be between the word and the section: blank, tab, carriage return, line feed.
unfoldable pub is_leading : ℕ → Bool
is_leading c = c == 32 || c == 9 || c == 13 || c == 10

-- The blanks that may be among the digits of a hexadecimal section. They are those of font text: 0, tab,
-- line feed, form feed, carriage return and blank.
unfoldable pub is_blank : ℕ → Bool
is_blank c = c == 0 || c == 9 || c == 10 || c == 12 || c == 13 || c == 32

-- The section, without what is between it and the word.
abbrev pub section_of : List ℕ → List ℕ
section_of bytes = drop (prefix_len is_leading bytes) bytes

-- A hexadecimal digit, in either case, and its value.
unfoldable pub is_digit : ℕ → Bool
is_digit c = is_hex_digit c

unfoldable pub digit_value : ℕ → ℕ
digit_value c = unwrap_or (hex_digit_value c) 0

-- A section is hexadecimal where its first four bytes are digits.
abbrev pub is_hexadecimal : List ℕ → Bool
is_hexadecimal (a ∷ b ∷ c ∷ d ∷ rest) = is_digit a && is_digit b && is_digit c && is_digit d
is_hexadecimal _ = false

abbrev pub is_digit_or_blank : ℕ → Bool
is_digit_or_blank c = is_digit c || is_blank c

-- The digits of the longest prefix of digits and blanks.
abbrev pub digits_of : List ℕ → List ℕ
digits_of section = filter is_digit (take_while is_digit_or_blank section)

-- The bytes that pairs of digits write; an odd last digit is omitted.
abbrev pub bytes_of_digits : List ℕ → List ℕ
bytes_of_digits (high ∷ low ∷ rest) = (digit_value high * 16 + digit_value low) ∷ bytes_of_digits rest
bytes_of_digits _ = []

-- The cipher bytes of a section.
abbrev pub cipher_bytes : List ℕ → List ℕ
cipher_bytes section = if is_hexadecimal section then bytes_of_digits (digits_of section) else section

-- What cipher bytes open to: the plain bytes without the first four.
unfoldable pub opened : List ℕ → Result (List ℕ) SealError
opened cipher = if nat_lt (length cipher) 4 then Err TooShort else Ok (drop 4 (decrypted eexec_start cipher))

-- The private text, from the bytes after the word `eexec`.
unfoldable pub private_text_of : List ℕ → Result (List ℕ) SealError
private_text_of bytes = opened (cipher_bytes (section_of bytes))
