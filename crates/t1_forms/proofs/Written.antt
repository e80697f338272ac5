-- What was written of a line into a text that was empty.
use Rattle.std.proofs.Common.{◌≡◌, ◌-◌, ◌++◌, ◌∷◌, ℕ, false, List, [], Option, None, Some, Ok, Err, Result, length, length-append, take, arith, ap, subst, sym, ◌∙◌}
use Rattle.std.proofs.Math.Seq.{take-append_seam}
use Rattle.std.specs.Io.KnownBytes.{Appends}
use Rattle.std.specs.Result.{is_err}
use Rattle.t1_io.specs.declared.broken.Broken.{Broken}
use Rattle.t1_io.specs.Devices.{SinkState, Writes}
use Rattle.t1_lines.proofs.Cuts.{some_same}

after_none : (new : Option (List ℕ)) (text : List ℕ) → Appends (Some []) new text → new ≡ Some text
after_none None text none = absurd none
after_none (Some bytes) text is = ap Some is

pub all_written : (r : Result (Unit {0}) Broken) (old new : SinkState) (text : List ℕ) → Writes old new text r → is_err r ≡ false
    → old.written ≡ Some [] → new.written ≡ Some text
all_written (Ok done) old new text wrote well start =
    after_none new.written text (subst (λ (o : Option (List ℕ)). Appends o new.written text) start wrote.bytes)
all_written (Err broken) old new text wrote well start = cc

pub written : (r : Result (Unit {0}) Broken) (old new : SinkState) (text bytes : List ℕ) → Writes old new text r → is_err r ≡ false
    → old.written ≡ Some [] → new.written ≡ Some bytes → bytes ≡ text
written r old new text bytes wrote well start end = some_same bytes text (sym end ∙ all_written r old new text wrote well start)

-- A text without its last byte.
pub shorter : (items rest text : List ℕ) (last n : ℕ) → n ≡ length items → items ≡ text ++ last ∷ [] → rest ≡ take (n - 1) items → rest ≡ text
shorter items rest text last n len is cut =
    let long = length-append text (last ∷ []) in
    let whole = len ∙ ap length is in
    let less : n - 1 ≡ length text = omega (arith, whole, long) in
    cut ∙ ap (λ l. take (n - 1) l) is ∙ ap (λ k. take k (text ++ last ∷ [])) less ∙ take-append_seam text (last ∷ [])
