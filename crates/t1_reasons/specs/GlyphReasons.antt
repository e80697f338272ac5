-- Why a glyph breaks a rule at a step.
use Rattle.std.specs.Prelude.{◌≡◌, ℕ, zero, suc, ◌+◌, ◌-◌, ◌<◌, ◌≤◌, ◌==◌, ◌&&◌, nat_lt, if◌then◌else◌, Bool, true, false, Option, Some, None, List, length, option_map, slice_get, take}
use Rattle.t1_char.specs.declared.edition.Edition.{Edition}
use Rattle.t1_char.specs.declared.machine.Answer.{Answer}
use Rattle.t1_char.specs.declared.machine.Answer.TheVariants.{Step, Ended, Limit}
use Rattle.t1_char.specs.Editions.{has_latest_rules, limit_of}
use Rattle.t1_char.specs.Steps.{StepView, steps_of}
use Rattle.t1_char.specs.Turns.{MachineView, step_of_number}
use Rattle.t1_drawing.specs.declared.glyph.DrawingWatcher.{DrawingWatcher}
use Rattle.t1_drawing.specs.declared.segments.TracedSegment.{TracedSegment}
use Rattle.t1_drawing.specs.Drawings.{traced}
use Rattle.t1_drawing.specs.DrawingRules.{box_of, breaks_own}
use Rattle.t1_drawing.specs.Private.Standing.{LatestDrawingStandsFor}
use Rattle.t1_drawing.specs.Strokes.{segments_of}
use Rattle.t1_font.specs.Fonts.{FontValue}
use Rattle.t1_outline.specs.Outlines.{drawn as drawn_by}
use Rattle.t1_rules.specs.declared.mask.Mask.{Mask}
use Rattle.t1_rules.specs.declared.rule.Rule.{Rule}
use Rattle.t1_rules.specs.declared.rule.Rule.TheVariants.{C01, L01}
use Rattle.t1_rules.specs.declared.sidebearings.Component.{Component}
use Rattle.t1_rules.specs.declared.watches.Watches.{Watches}
use Rattle.t1_rules.specs.Components.{components_of}
use Rattle.t1_rules.specs.Private.Standing.{WatchesStandFor}
use Rattle.t1_rules.specs.Book.{last_number_of_third, number_of}
use Rattle.t1_rules.specs.Mask.{has}
use Rattle.t1_reasons.specs.declared.reason.Reason.{Reason}
use Rattle.t1_reasons.specs.declared.reason.Reason.TheVariants.{Limit as PastLimit}
use Rattle.t1_reasons.specs.declared.steps_before.StepsBefore.{StepsBefore}
use Rattle.t1_reasons.specs.CharstringReasons.{IsShorter, told_of_step}
use Rattle.t1_reasons.specs.DrawingReasons.{drawing_reason}
use Rattle.t1_reasons.specs.Standing.{StepsStandFor}
use Rattle.t1_reasons.specs.StepReasons.{step_reason}

-- Of a step of a glyph, given those before it, with what its charstring tells.
abbrev pub told_reason : FontValue → ℕ → Edition → List Component → Rule → List StepView → StepView → Option Reason
told_reason font glyph edition components rule before step =
    if nat_lt last_number_of_third (number_of rule) then drawing_reason edition (box_of font) rule before step
    else option_map (told_of_step font glyph rule step) (step_reason edition components rule before step)

-- Of the step at a place of a list; none where there is no step.
abbrev pub next_reason : FontValue → ℕ → Edition → List Component → Rule → List StepView → Option StepView → Option Reason
next_reason font glyph edition components rule before None = None
next_reason font glyph edition components rule before (Some step) = told_reason font glyph edition components rule before step

abbrev pub reason_at_place : FontValue → ℕ → Edition → List Component → Rule → List StepView → ℕ → Option Reason
reason_at_place font glyph edition components rule steps place =
    next_reason font glyph edition components rule (take place steps) (slice_get steps place)

-- The first step past the limit breaks the rule on that, and no other.
abbrev pub limit_reason : ℕ → Rule → Option Reason
limit_reason limit L01 = Some (PastLimit limit)
limit_reason limit _ = None

abbrev pub reason_among : ℕ → FontValue → ℕ → Edition → List Component → Rule → List StepView → ℕ → Option Reason
reason_among limit font glyph edition components rule steps place =
    if nat_lt place limit then reason_at_place font glyph edition components rule steps place
    else (if place == limit && nat_lt place (length steps) then limit_reason limit rule else None)

-- Of a step of a glyph, by its number from 1.
abbrev pub glyph_reason : FontValue → Edition → ℕ → Rule → ℕ → Option Reason
glyph_reason font edition glyph rule zero = None
glyph_reason font edition glyph rule (suc place) =
    reason_among (limit_of edition) font glyph edition (components_of (limit_of edition) font) rule (steps_of font glyph) place

-- A charstring of which C01 tells is shorter than it should be.
abbrev pub ShortCharstringsAreShorter : Type 0
ShortCharstringsAreShorter =
    (font : FontValue) (edition : Edition) (glyph number : ℕ) (reason : Reason) → glyph_reason font edition glyph C01 number ≡ Some reason → IsShorter reason

abbrev pub reason_at : MachineView → Rule → ℕ → Option Reason
reason_at m rule number = glyph_reason m.font m.edition m.glyph rule number

-- The steps of a machine's glyph, up to the limit.
abbrev pub steps_in : MachineView → List StepView
steps_in m = take (limit_of m.edition) (steps_of m.font m.glyph)

-- The step in hand is the one that the machine answered last.
abbrev pub IsInHand : MachineView → Type 0
IsInHand m =
    (step : StepView) → 0 < m.counted → slice_get (steps_in m) (m.counted - 1) ≡ Some step → m.step ≡ step_of_number m.counted step

-- What the machine answered last: a step, or that there is none, or none up to the limit.
abbrev pub IsAnswer : Answer → MachineView → Type 0
IsAnswer Step m = m.counted ≤ length (steps_in m)
IsAnswer Ended m = (m.counted ≡ length (steps_in m) + 1) × (length (steps_of m.font m.glyph) ≤ limit_of m.edition)
IsAnswer Limit m = (m.counted ≡ length (steps_in m) + 1) × (limit_of m.edition < length (steps_of m.font m.glyph))

-- What is kept is that of the steps before the step in hand; the set has what this breaks of the rules on its glyph's own steps and of
-- those on the drawing, and the segments are what it draws, in the editions that have rules on that.
pub record IsWatched (m : MachineView) (steps : StepsBefore) (watchers : Watches) (drawing : DrawingWatcher) (mask : Mask) (drawn_here : List TracedSegment) (last : Answer) : Type 0 where
  pub in_hand : IsInHand m
  pub kept : StepsStandFor m.edition steps (take (m.counted - 1) (steps_in m))
  pub watches : WatchesStandFor m.edition watchers (take m.counted (steps_in m))
  pub drawn : LatestDrawingStandsFor m.edition (box_of m.font) drawing (take m.counted (steps_in m))
  pub broken : 0 < m.counted → m.counted ≤ length (steps_in m)
      → (n : ℕ) → has mask n ≡ breaks_own m.edition (box_of m.font) n (take (m.counted - 1) (steps_in m)) m.step.step
  pub segments : has_latest_rules m.edition ≡ true → 0 < m.counted → m.counted ≤ length (steps_in m)
      → drawn_here ≡ traced (box_of m.font) (segments_of (take (m.counted - 1) (steps_in m))) (drawn_by (take (m.counted - 1) (steps_in m)) m.step.step)
  pub answer : IsAnswer last m

-- The machine executes this glyph of the font by this edition, and the font has that glyph.
pub record IsBegun (m : MachineView) (font : FontValue) (glyph : ℕ) (edition : Edition) : Type 0 where
  pub font_is : m.font ≡ font
  pub glyph_is : m.glyph ≡ glyph
  pub edition_is : m.edition ≡ edition
  pub there : glyph < length m.font.glyphs

-- It executes the same glyph.
pub record IsOfSameGlyph (old new : MachineView) : Type 0 where
  pub font : new.font ≡ old.font
  pub glyph : new.glyph ≡ old.glyph
  pub edition : new.edition ≡ old.edition

-- It is at the step of this number, where there is one, or just past the steps where the number is their count and one.
pub record GoesTo (old new : MachineView) (number : ℕ) : Type 0 where
  pub same : IsOfSameGlyph old new
  pub counted : number ≤ length (steps_in old) + 1 → new.counted ≡ number

abbrev pub is_step : Answer → Bool
is_step Step = true
is_step _ = false
