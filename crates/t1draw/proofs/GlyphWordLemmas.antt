-- The name that a word is, byte by byte: 92 is `\`, and 120 is `x`.
use Rattle.std.proofs.Common.{◌≡◌, ◌<◌, ◌+◌, ℕ, List, [], ◌∷◌, ◌++◌, Option, None, Some, length, option_map, take, drop, slice_index, refl, sym, ap, ◌∙◌, arith}
use Rattle.std.proofs.lemmas.List.{append-nil}
use Rattle.std.proofs.lemmas.Bool.Decides.{nat_tests}
use Rattle.std.specs.Option.{option_map_or}
use Rattle.std.specs.Prelude.{◌≢◌, option_and_then}
use Rattle.std.specs.Result.{result_ok}
use Rattle.hex.specs.Hex.{decode_pairs, decode_sized, hex_digit_value}
use Rattle.t1_forms.specs.NameWords.{name_behind, name_of_word, with_byte}
use Rattle.t1_forms.specs.NameWords.Begun.{backslash, backslash_x}

-- ---- a word

-- it begins with a backslash
pub starts_escape : (bytes rest : List ℕ) (byte : ℕ) → bytes ≡ byte ∷ rest → byte ≡ 92 → name_of_word bytes ≡ name_behind backslash rest
unfolding name_behind
starts_escape bytes rest byte at is = rw (at, is) refl

-- it begins with another byte
pub starts_plain : (bytes rest : List ℕ) (byte : ℕ) → bytes ≡ byte ∷ rest → byte ≢ 92 → name_of_word bytes ≡ with_byte byte (name_of_word rest)
unfolding name_behind
starts_plain bytes rest byte at other = rw at (grind (arith, nat_tests))

-- ---- after a backslash

-- nothing, and so no name
pub no_escape : (bytes : List ℕ) → length bytes ≡ 0 → name_behind backslash bytes ≡ None
unfolding name_behind
no_escape [] none = refl
no_escape (byte ∷ rest) none = absurd (omega arith)

pub escaped_backslash : (bytes rest : List ℕ) (byte : ℕ) → bytes ≡ byte ∷ rest → byte ≡ 92
    → name_behind backslash bytes ≡ with_byte 92 (name_of_word rest)
unfolding name_behind
escaped_backslash bytes rest byte at is = rw (at, is) refl

pub escaped_x : (bytes rest : List ℕ) (byte : ℕ) → bytes ≡ byte ∷ rest → byte ≡ 120 → name_behind backslash bytes ≡ name_behind backslash_x rest
unfolding name_behind
escaped_x bytes rest byte at is = rw (at, is) refl

-- another byte, and so no name
pub other_escape : (bytes rest : List ℕ) (byte : ℕ) → bytes ≡ byte ∷ rest → byte ≢ 92 → byte ≢ 120 → name_behind backslash bytes ≡ None
unfolding name_behind
other_escape bytes rest byte at no_backslash no_x = rw at (grind (arith, nat_tests))

-- ---- after `\x`

-- where no value gives a name, an optional one gives none
none_by : (f : ℕ → Option (List ℕ)) (value : Option ℕ) → ((v : ℕ) → f v ≡ None) → option_map_or f value None ≡ None
none_by f None each = refl
none_by f (Some v) each = each v

-- fewer than two bytes are no name
pub too_few_digits : (bytes : List ℕ) → length bytes < 2 → name_behind backslash_x bytes ≡ None
unfolding name_behind
too_few_digits [] few = refl
too_few_digits (high ∷ []) few = none_by _ (hex_digit_value high) (λ v. refl)
too_few_digits (high ∷ low ∷ rest) few = absurd (omega arith)

-- the byte of two digits and then a name, where the digits are decoded
abbrev decoded : List ℕ → List ℕ → Option (List ℕ)
decoded digits rest = option_and_then (λ bytes. with_byte (slice_index bytes 0) (name_of_word rest)) (result_ok (decode_sized digits 1))

-- two bytes, by the values that they have as digits
of_values : (high low : ℕ) (rest : List ℕ) (h l : Option ℕ) → hex_digit_value high ≡ h → hex_digit_value low ≡ l
    → name_behind backslash_x (high ∷ low ∷ rest) ≡ decoded (high ∷ low ∷ []) rest
unfolding name_behind decode_pairs
of_values high low rest None l is_high is_low = rw is_high refl
of_values high low rest (Some h) None is_high is_low = rw (is_high, is_low) refl
of_values high low rest (Some h) (Some l) is_high is_low = rw (is_high, is_low) refl

-- a name's rest is what follows two bytes, cut off as digits
by_digits : (bytes digits rest : List ℕ) → digits ≡ take 2 bytes → rest ≡ drop 2 bytes → length rest + 2 ≡ length bytes
    → name_behind backslash_x bytes ≡ decoded digits rest
by_digits [] digits rest front back two = absurd (omega arith)
by_digits (high ∷ []) digits rest front back two = absurd (omega arith)
by_digits (high ∷ low ∷ more) digits rest front back two = rw (front, back) (of_values high low more _ _ refl refl)

-- two bytes that aren't digits are no name
pub no_digits : (bytes digits rest : List ℕ) → digits ≡ take 2 bytes → rest ≡ drop 2 bytes → length rest + 2 ≡ length bytes
    → None ≡ result_ok (decode_sized digits 1) → name_behind backslash_x bytes ≡ None
no_digits bytes digits rest front back two undecoded = by_digits bytes digits rest front back two ∙ rw (← undecoded) refl

-- two bytes that are digits mean their byte
pub digits_decoded : (bytes digits rest byte : List ℕ) → digits ≡ take 2 bytes → rest ≡ drop 2 bytes → length rest + 2 ≡ length bytes
    → Some byte ≡ result_ok (decode_sized digits 1) → name_behind backslash_x bytes ≡ with_byte (slice_index byte 0) (name_of_word rest)
digits_decoded bytes digits rest byte front back two is = by_digits bytes digits rest front back two ∙ rw (← is) refl

-- ---- the end of a word

-- what was read is the name where nothing is left
pub at_end : (name rest word : List ℕ) → length rest ≡ 0 → option_map (λ more. name ++ more) (name_of_word rest) ≡ name_of_word word
    → Some name ≡ name_of_word word
unfolding name_behind
at_end name [] word none read = ap Some (sym (append-nil name)) ∙ read
at_end name (byte ∷ rest) word none read = absurd (omega arith)
