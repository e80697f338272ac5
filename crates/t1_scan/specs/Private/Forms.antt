-- How a token begins, and how many bytes it then takes.
use Rattle.std.specs.Prelude.{ℕ, Bool, true, false, Option, Some, None, Result, Ok, Err, List, [], ◌∷◌, ◌≡◌, ◌==◌, ◌||◌, drop, take}
use Rattle.std.specs.List.{list_all}
use Rattle.std.specs.Str.Parse.{digits_value}
use Rattle.t1_scan.specs.declared.error.ScanError.{ScanError}
use Rattle.t1_scan.specs.declared.error.ScanError.TheVariants.{Unclosed}
use Rattle.t1_scan.specs.declared.token.Kind.{Kind}
use Rattle.t1_scan.specs.Bytes.{is_decimal_digit}
use Rattle.t1_scan.specs.Lengths.{run_len}
use Rattle.t1_scan.specs.Tokens.{Found}

-- how many bytes the first token takes and what it is, as what was read; None where it isn't closed
abbrev pub begun : List ℕ → Option (ℕ × Kind) → Result (Option Found) ScanError
begun s None = Err Unclosed
begun s (Some p) = Ok (Some (record { kind = p.1; text = take p.0 s; rest = drop p.0 s }))

-- a text begins with a run of so many decimal digits and nothing else, which spell this
pub record AreDigits (s : List ℕ) (n value : ℕ) : Type 0 where
  pub run : n ≡ run_len s
  pub digits : list_all is_decimal_digit (take n s) ≡ true
  pub spelled : value ≡ digits_value 10 (take n s)

-- a number begins with a digit, a sign or a point
abbrev pub begins_number : ℕ → Bool
begins_number b = is_decimal_digit b || b == 43 || b == 45 || b == 46

-- digits with a point begin with a digit or a point
abbrev pub begins_digits : List ℕ → Bool
begins_digits [] = false
begins_digits (b ∷ s) = is_decimal_digit b || b == 46
