-- Bytes that were read one part after another.
use Rattle.std.proofs.Common.{◌≡◌, Bool, ℕ, ◌+◌, ◌≤◌, List, ◌++◌, ◌||◌, Option, Result, Ok, Err, false, if◌then◌else◌, length, take, ap, ◌∙◌, subst, sym, arith, length-append}
use Rattle.std.proofs.lemmas.List.{take-append-le}
use Rattle.std.specs.Result.{is_ok, is_err}
use Rattle.std.specs.Io.KnownBytes.{Consumes, Keeps}
use Rattle.std.proofs.KnownBytes.{Consumes-kept, Consumes-trans}
use Rattle.t1_io.specs.Devices.{SourceState, is_over, late_takes_behind, one_more}
use Rattle.t1_run.specs.Input.{TakesAtMost}

-- a read more, behind those that brought a byte or more each
pub one_read : (most turn : ℕ) (a b c : SourceState) (bytes more : List ℕ) → Consumes a.left b.left bytes → Consumes b.left c.left more
    → length bytes + length more ≤ most → b.takes ≤ a.takes + turn → turn ≤ length bytes → c.takes ≡ one_more b.takes → TakesAtMost most a c
one_read most turn a b c bytes more first second few before long one = record {
  bytes = bytes ++ more;
  consumed = Consumes-trans a.left b.left c.left bytes more first second;
  few = omega (arith, length-append bytes more, few);
  needed = omega (arith, length-append bytes more, before, long, one);
}

-- a read that brought none
pub none_read : (most turn : ℕ) (a b c : SourceState) (bytes : List ℕ) → Consumes a.left b.left bytes → Keeps b.left c.left
    → length bytes ≤ most → b.takes ≤ a.takes + turn → turn ≤ length bytes → c.takes ≡ one_more b.takes → TakesAtMost most a c
none_read most turn a b c bytes first kept few before long one = record {
  bytes = bytes;
  consumed = Consumes-kept a.left b.left c.left bytes first kept;
  few = few;
  needed = omega (arith, before, long, one);
}

pub Consumes-more : (a b c : Option (List ℕ)) (bytes more all : List ℕ) → Consumes a b bytes → Consumes b c more → all ≡ bytes ++ more → Consumes a c all
Consumes-more a b c bytes more all first second e = subst (Consumes a c) (sym e) (Consumes-trans a b c bytes more first second)

-- a call of take that follows neither a failed one nor the end isn't late
pub not_late : (old new : SourceState) → new.late_takes ≡ late_takes_behind old → is_over old ≡ false
    → new.late_takes ≡ old.late_takes
not_late old new is sound =
    is ∙ ap (λ (over : Bool). if over then one_more old.late_takes else old.late_takes) sound

-- what goes on as before
pub over_kept : (old new : SourceState) → new.failed ≡ old.failed → new.ended ≡ old.ended → is_over new ≡ is_over old
over_kept old new failed ended = ap (λ (is : Bool). is || new.ended) failed ∙ ap (λ (is : Bool). old.failed || is) ended

-- a vector that took the first bytes of a buffer, whose beginning was written
pub items-extended : {E : Type 0} (r : Result (Unit {0}) E) (old new front rest : List ℕ) (count : ℕ) → false ≡ is_err r
    → new ≡ (if is_ok r then old ++ take count (front ++ rest) else old) → count ≤ length front → new ≡ old ++ take count front
items-extended (Ok u) old new front rest count went items within = items ∙ ap (λ l. old ++ l) (take-append-le count front rest within)
items-extended (Err e) old new front rest count went items within = cc
