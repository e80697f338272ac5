-- What the readers of tokens return.
use Rattle.std.specs.Prelude.{◌≡◌, Option, Some, None, Result, Ok, Err, List, ℕ}
use Rattle.std.specs.Borrow.{Bor}
use Rattle.t1_scan.specs.declared.error.ScanError.{ScanError}
use Rattle.t1_scan.specs.declared.token.Token.{Token}
use Rattle.t1_scan.specs.Tokens.{Found}
use Rattle.t1_font.specs.Tokens.{token_at}

-- A token before a rest.
abbrev pub found_of : Token → List ℕ → Found
found_of t rest = record { kind = t.kind; text = t.text.now; rest = rest }

-- What was returned is the first token of a text, and what follows it.
abbrev pub IsFirst : List ℕ → Result (Option (Token × Bor (List ℕ))) ScanError → Type 0
IsFirst s (Ok (Some p)) = token_at s ≡ Ok (Some (found_of p.0 p.1.now))
IsFirst s (Ok None) = token_at s ≡ Ok None
IsFirst s (Err e) = token_at s ≡ Err e

-- What was looked at, seen by view, is what there was.
abbrev pub Sees : {X Y : Type 0} → (X → Y) → Option X → Option Y → Type 0
Sees view (Some x) there = there ≡ Some (view x)
Sees view None there = there ≡ None
