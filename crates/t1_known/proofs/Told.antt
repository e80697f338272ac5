-- A text that is written part by part.
use Rattle.std.proofs.Common.{◌≡◌, ℕ, List, [], ◌++◌, sym, ap, subst, ◌∙◌, Result, Ok, Err, append_assoc, append-nil}
use Rattle.std.specs.Result.{IsErrAnd}
use Rattle.t1_io.proofs.SinkLemmas.{PutFailed-first, PutFailed-second, Wrote-trans}
use Rattle.t1_io.specs.Devices.{PutFailed, SinkState, Wrote}
use Rattle.t1_known.specs.Writes.{WritesAll}
use Rattle.t1_many.specs.declared.policy.Lost.{Lost}
use Rattle.t1_many.specs.declared.policy.Lost.TheVariants.{Device}

-- What was written up to here, and what is still to be written, are the whole text.
pub record HasTold (old now : SinkState) (all rest : List ℕ) : Type 0 where
  pub so_far : List ℕ
  pub wrote : Wrote old now so_far
  pub split : so_far ++ rest ≡ all

module _ (old now : SinkState) (all rest part more : List ℕ) (told : HasTold old now all rest) (rest_is : rest ≡ part ++ more) where
  split_more : (told.so_far ++ part) ++ more ≡ all
  split_more = append_assoc told.so_far part more ∙ ap (λ t. told.so_far ++ t) (sym rest_is) ∙ told.split

  pub told_more : (new : SinkState) → Wrote now new part → HasTold old new all more
  told_more new wrote = record {
    so_far = told.so_far ++ part;
    wrote = Wrote-trans old now new told.so_far part told.wrote wrote;
    split = split_more;
  }

  pub told_failed : (new : SinkState) → PutFailed now new part → PutFailed old new all
  told_failed new failed =
      subst (PutFailed old new) split_more
      (PutFailed-first old new (told.so_far ++ part) more (PutFailed-second old now new told.so_far part told.wrote failed))

pub told_all : (old now : SinkState) (all rest : List ℕ) → rest ≡ [] → HasTold old now all rest → Wrote old now all
told_all old now all rest end told =
    subst (Wrote old now) (sym (append-nil told.so_far) ∙ ap (λ r. told.so_far ++ r) (sym end) ∙ told.split) told.wrote

-- the exit of a `?` at a put that failed
pub all_failed : (a b : SinkState) (text : List ℕ) (result : Result (Unit {0}) Lost) → IsErrAnd result (λ lost. lost ≡ Device) → PutFailed a b text
    → WritesAll a b text result
all_failed a b text (Ok done) is failed = absurd is
all_failed a b text (Err lost) is failed = subst (λ (l : Lost). WritesAll a b text (Err l)) (sym is) failed
