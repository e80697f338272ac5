-- A glyph that is executed, with what its steps draw.
use Rattle.std.specs.Prelude.{◌≡◌, ℕ, ◌+◌, ◌-◌, ◌≤◌, ◌<◌, Some, List, [], ◌∷◌, ◌++◌, drop, length, slice_get, take}
use Rattle.t1_char.specs.Editions.{limit_of}
use Rattle.t1_char.specs.Steps.{StepView, steps_of}
use Rattle.t1_char.specs.Turns.{MachineView, step_of_number}
use Rattle.t1_outline.specs.declared.pen.DrawnStep.{DrawnStep}
use Rattle.t1_outline.specs.Outlines.{drawn}
use Rattle.t1_outline.specs.Private.Outlining.{steps_in}
use Rattle.t1_picture.specs.declared.run.Next.{Next}
use Rattle.t1_picture.specs.declared.run.Next.TheVariants.{Step, Ended, Limit}
use Rattle.t1_rules.specs.StepRules.Paths.{leaves_open}

-- The steps that were executed, up to the limit.
abbrev pub seen_steps : MachineView → List StepView
seen_steps m = take m.counted (steps_in m)

-- It executes the same glyph.
pub record IsOfSameGlyph (old new : MachineView) : Type 0 where
  pub font : new.font ≡ old.font
  pub glyph : new.glyph ≡ old.glyph
  pub edition : new.edition ≡ old.edition

-- The step in hand is the one that was executed last.
abbrev pub IsInHand : MachineView → Type 0
IsInHand m =
    (step : StepView) → 0 < m.counted → slice_get (steps_in m) (m.counted - 1) ≡ Some step
    → m.step ≡ step_of_number m.counted step

-- The next step was executed, and this is what it draws.
pub record IsDrawnNext (old new : MachineView) (next : DrawnStep) : Type 0 where
  pub seen : seen_steps new ≡ seen_steps old ++ new.step.step ∷ []
  pub ahead : drop old.counted (steps_in old) ≡ new.step.step ∷ drop new.counted (steps_in new)
  pub within : old.counted < length (steps_in old)
  pub counted : new.counted ≡ old.counted + 1
  pub number : new.step.number ≡ old.counted + 1
  pub segments : next.segments.items ≡ drawn (seen_steps old) new.step.step
  pub leaves_open : next.leaves_open ≡ leaves_open (seen_steps old) new.step.step

-- All steps were executed, up to the limit.
pub record AreAllSeen (old new : MachineView) : Type 0 where
  pub all : length (steps_in old) ≤ old.counted
  pub more : old.counted ≤ new.counted
  pub most : new.counted ≤ old.counted + 1
  pub past : length (steps_in old) < new.counted

abbrev pub GivesNext : MachineView → MachineView → Next → Type 0
GivesNext old new (Step next) = IsDrawnNext old new next
GivesNext old new Ended = AreAllSeen old new × (length (steps_of old.font old.glyph) ≤ limit_of old.edition)
GivesNext old new Limit = AreAllSeen old new × (limit_of old.edition < length (steps_of old.font old.glyph))

-- So many steps are executed then, or all where there are fewer.
pub record GoesTo (old new : MachineView) (count : ℕ) : Type 0 where
  pub seen : seen_steps new ≡ take count (steps_in new)
  pub counted : count ≤ length (steps_in new) → new.counted ≡ count
  pub most : new.counted ≤ count
