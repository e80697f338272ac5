-- The first token of a text (Type 1 Font Format, chapters 2 and 10). What is one token is our
-- choice where the standard is silent.
use Rattle.std.specs.Prelude.{ℕ, ℤ, false, Option, Some, None, Result, Ok, Err, List, [], ◌∷◌, ◌==◌, if◌then◌else◌, take, drop, slice_index}
use Rattle.t1_scan.specs.declared.error.ScanError.{ScanError}
use Rattle.t1_scan.specs.declared.error.ScanError.TheVariants.{Unclosed}
use Rattle.t1_scan.specs.declared.token.Kind.{Kind}
use Rattle.t1_scan.specs.declared.token.Kind.TheVariants.{Number, Name, Word, Text, Proc, Array}
use Rattle.t1_scan.specs.Lengths.{blank_len, token_len}
use Rattle.t1_scan.specs.Numbers.{number_of}

-- a token, and what follows it
pub record Found : Type 0 where
  pub kind : Kind
  pub text : List ℕ
  pub rest : List ℕ

-- a run of regular bytes that spells no number is a word
abbrev pub number_or_word : Option ℤ → Kind
number_or_word None = Word
number_or_word (Some v) = Number v

-- what a token is, by its text
unfoldable pub kind_of : List ℕ → Kind
kind_of [] = Word
kind_of (b ∷ s) =
    if b == 47 then Name
    else (if b == 40 then Text
    else (if b == 60 then (if slice_index s 0 == 60 then Word else Text)
    else (if b == 123 then Proc
    else (if b == 91 then Array
    else number_or_word (number_of (b ∷ s))))))

-- a token of the first so many bytes
abbrev pub cut : List ℕ → Option ℕ → Result (Option Found) ScanError
cut s None = Err Unclosed
cut s (Some n) = Ok (Some (record { kind = kind_of (take n s); text = take n s; rest = drop n s }))

-- the token with which a text begins
abbrev pub first_of : List ℕ → Result (Option Found) ScanError
first_of [] = Ok None
first_of (b ∷ s) = cut (b ∷ s) (token_len b s)

-- the first token, after blanks and comments
abbrev pub token_of : List ℕ → Result (Option Found) ScanError
token_of s = first_of (drop (blank_len false s) s)
