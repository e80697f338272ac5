-- The listed steps of a glyph, one by one.
use Rattle.std.proofs.Common.{◌≡◌, ℕ, ◌+◌, ◌≤◌, Option, Some, List, [], ◌∷◌, ◌++◌, length, take, slice_get, sym, ap, subst, ◌∙◌, arith}
use Rattle.std.proofs.lemmas.List.{length-take-le, take_more}
use Rattle.std.proofs.lemmas.Option.{slice_get_within, get_or_from_slice_get}
use Rattle.t1_char.specs.declared.edition.Edition.{Edition}
use Rattle.t1_char.specs.Editions.{limit_of}
use Rattle.t1_char.specs.declared.step.Step.{Step}
use Rattle.t1_char.specs.Steps.{StepView}
use Rattle.t1_char.specs.StepValues.{step_view}
use Rattle.t1_drawing.specs.declared.font_box.FontBox.{FontBox}
use Rattle.t1_drawing.specs.declared.glyph.DrawingWatcher.{DrawingWatcher}
use Rattle.t1_rules.specs.declared.watches.Watches.{Watches}
use Rattle.t1_report.specs.Private.Reporting.{HaveDrawn, HaveSeen, IsNextStep}

-- The step at a place of the glyph's steps, and no place is past the limit.
pub record IsListed (limit : ℕ) (all : List StepView) (place : ℕ) (step : Step) : Type 0 where
  pub number : step.number ≡ place + 1
  pub there : slice_get all place ≡ Some (step_view step)
  pub few : place ≤ limit

-- One step more of a list.
pub take_next : (all : List StepView) (i : ℕ) (s : StepView) → slice_get all i ≡ Some s → take (i + 1) all ≡ take i all ++ s ∷ []
take_next all i s at =
    take_more all i s (slice_get_within all i s at) ∙ ap (λ (t : StepView). take i all ++ t ∷ []) (get_or_from_slice_get all i s s at)

pub length-before : (all : List StepView) (i : ℕ) (s : StepView) → slice_get all i ≡ Some s → length (take i all) ≡ i
length-before all i s at = let within = slice_get_within all i s at in length-take-le i all (omega arith)

-- The step at a place is the next one for watchers that have seen those before it.
pub is_next : (edition : Edition) (box : Option FontBox) (all : List StepView) (watches : Watches) (drawing : DrawingWatcher) (place : ℕ) (step : Step)
    → IsListed (limit_of edition) all place step → HaveSeen edition watches (take place all) → HaveDrawn edition box drawing (take place all)
    → IsNextStep edition box watches drawing (take place all) step
is_next edition box all watches drawing place step is seen drawn =
    let before = length-before all place (step_view step) is.there in
    record {
      seen = seen (omega (arith, before, is.few));
      drawn = drawn (omega (arith, before, is.few));
      number = is.number ∙ ap (λ (n : ℕ). n + 1) (sym before);
      few = omega (arith, before, is.few);
    }

-- The same by another name of the edition.
pub is_next_by : (named edition : Edition) → named ≡ edition → (box : Option FontBox) (all : List StepView) (watches : Watches) (drawing : DrawingWatcher)
    (place : ℕ) (step : Step) → IsListed (limit_of edition) all place step → HaveSeen edition watches (take place all)
    → HaveDrawn edition box drawing (take place all) → IsNextStep named box watches drawing (take place all) step
is_next_by named edition same box all watches drawing place step is seen drawn =
    subst (λ e. IsNextStep e box watches drawing (take place all) step) (sym same) (is_next edition box all watches drawing place step is seen drawn)
