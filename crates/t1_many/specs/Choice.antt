-- Which rules are reported of many fonts.
use Rattle.std.specs.Prelude.{ℕ, ◌&&◌, ◌||◌, Bool, true, not, List, [], ◌∷◌, map, string_bytes, if◌then◌else◌}
use Rattle.std.specs.List.{list_all, list_any}
use Rattle.std.specs.Str.{bytes_eq}
use Rattle.t1_many.specs.declared.choice.Choice.{Choice as Words}
use Rattle.t1_scan.specs.Bytes.{is_decimal_digit}

-- A code without the digits at its end: `H` of `H02`, `GE` of `GE01`.
abbrev pub letters_of : List ℕ → List ℕ
letters_of [] = []
letters_of (byte ∷ bytes) = if list_all is_decimal_digit (byte ∷ bytes) then [] else byte ∷ letters_of bytes

-- The rule of a code is picked by that code, and by its letters.
abbrev pub picks : List ℕ → List ℕ → Bool
picks code word = bytes_eq word code || bytes_eq word (letters_of code)

-- The words of `--only` and of `--except`.
pub record Choice : Type 0 where
  pub only : List (List ℕ)
  pub except : List (List ℕ)

abbrev pub choice_of : Words → Choice
choice_of words = record { only = map string_bytes words.only.now; except = map string_bytes words.except.now }

-- Without a word of `--only` each rule is one of them.
abbrev pub is_only : List (List ℕ) → List ℕ → Bool
is_only [] code = true
is_only (word ∷ words) code = list_any (picks code) (word ∷ words)

-- The rule of this code is reported.
abbrev pub is_told : Choice → List ℕ → Bool
is_told choice code = is_only choice.only code && not (list_any (picks code) choice.except)
