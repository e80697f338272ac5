-- What a new scanner over a text returns of the text's first token.
use Rattle.std.proofs.Common.{◌≡◌, ℕ, Bool, false, Option, Some, None, Result, Ok, Err, List, drop}
use Rattle.t1_scan.specs.declared.error.ScanError.{ScanError}
use Rattle.t1_scan.specs.declared.token.Token.{Token}
use Rattle.t1_scan.specs.Reading.{reading, seen}
use Rattle.t1_font.specs.Tokens.{token_at}
use Rattle.t1_font.specs.Private.Tokens.{found_of}

module _ (text over : List ℕ) (failed : Bool) (place : ℕ) (same : over ≡ text) (live : failed ≡ false) (start : place ≡ 0) where
  first_read : (answer : Result (Option Token) ScanError) → reading failed (drop place over) ≡ seen over answer → token_at text ≡ seen text answer
  unfolding token_at
  first_read answer read = rw (same, live, start) at read

  pub first_some : (t : Token) (rest : List ℕ) → rest ≡ drop t.to text → reading failed (drop place over) ≡ seen over (Ok (Some t))
      → token_at text ≡ Ok (Some (found_of t rest))
  first_some t rest behind read = rw behind (first_read (Ok (Some t)) read)

  pub first_none : reading failed (drop place over) ≡ seen over (Ok None) → token_at text ≡ Ok None
  first_none read = first_read (Ok None) read

  pub first_err : (e : ScanError) → reading failed (drop place over) ≡ seen over (Err e) → token_at text ≡ Err e
  first_err e read = first_read (Err e) read
