-- What a scanner returns.
use Rattle.std.specs.Prelude.{ℕ, Bool, Option, Some, None, Result, Ok, Err, List, ◌≡◌, ◌<◌, ◌≤◌, ◌+◌, if◌then◌else◌, length, drop, slice_range}
use Rattle.t1_scan.specs.declared.error.ScanError.{ScanError}
use Rattle.t1_scan.specs.declared.error.ScanError.TheVariants.{Unclosed}
use Rattle.t1_scan.specs.declared.token.Token.{Token}
use Rattle.t1_scan.specs.Tokens.{Found, token_of}

-- what a scanner reads next, by its flag and what is left of its text
abbrev pub reading : Bool → List ℕ → Result (Option Found) ScanError
reading failed left = if failed then Err Unclosed else token_of left

-- a result, over this text, as what was read
abbrev pub seen : List ℕ → Result (Option Token) ScanError → Result (Option Found) ScanError
seen text (Err e) = Err e
seen text (Ok None) = Ok None
seen text (Ok (Some t)) =
    Ok (Some (record { kind = t.kind; text = t.text.now; rest = drop t.to text }))

-- t is a slice of the text, at or after the place
pub record IsSlice (text : List ℕ) (place : ℕ) (t : Token) : Type 0 where
  pub bytes : t.text.now ≡ slice_range text t.from t.to
  pub behind : place ≤ t.from
  pub rising : t.from < t.to
  pub within : t.to ≤ length text

-- the place after a call
abbrev pub Moves : List ℕ → ℕ → ℕ → Result (Option Token) ScanError → Type 0
Moves text old new (Err e) = new ≡ old
Moves text old new (Ok None) = new ≡ length text
Moves text old new (Ok (Some t)) = IsSlice text old t × (new ≡ t.to)

-- the bytes that were passed raw: one is omitted, and then so many
pub record PassesRaw (text : List ℕ) (old new len : ℕ) (bytes : List ℕ) : Type 0 where
  pub enough : old + 1 + len ≤ length text
  pub passed : bytes ≡ slice_range text (old + 1) (old + 1 + len)
  pub place : new ≡ old + 1 + len
