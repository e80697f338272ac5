-- Laws of the reasons of rules on the drawing.
use Rattle.std.specs.Prelude.{◌≡◌, ℤ, pos, ◌≤◌, int_lt, Bool, true, false, Option, Some, is_some, List}
use Rattle.std.specs.List.{All, Contains}
use Rattle.t1_char.specs.declared.edition.Edition.{Edition}
use Rattle.t1_char.specs.Steps.{StepView}
use Rattle.t1_drawing.specs.declared.font_box.FontBox.{FontBox}
use Rattle.t1_drawing.specs.declared.touching.UntouchedStem.{UntouchedStem}
use Rattle.t1_drawing.specs.Curves.{is_flat_from}
use Rattle.t1_drawing.specs.FontBoxes.{is_outside}
use Rattle.t1_drawing.specs.Lines.{has_no_length_from, leads_back, leads_on, two_lines}
use Rattle.t1_drawing.specs.Touching.{first_untouched}
use Rattle.t1_outline.specs.declared.segment.Segment.{Segment}
use Rattle.t1_rules.specs.declared.rule.Rule.{Rule}
use Rattle.t1_rules.specs.declared.rule.Rule.TheVariants.{P04, P05, P06, P07, P08, P09, P10, H09, H10}
use Rattle.t1_rules.specs.declared.step_rules.flex.Point.{Point}
use Rattle.t1_reasons.specs.declared.reason.Reason.{Reason}
use Rattle.t1_reasons.specs.declared.reason.Reason.TheVariants.{Area, Outside, Stroke}
use Rattle.t1_reasons.specs.declared.step_reasons.PairFlaw.TheVariants.{SharedEdge}
use Rattle.t1_reasons.specs.declared.step_reasons.StemFlaw.TheVariants.{Negative}
use Rattle.t1_reasons.specs.DrawingReasons.{are_beyond, drawing_reason}
use Rattle.t1_reasons.specs.StemSearches.{distance, later_ends, nearest_end, set_first}
use Rattle.t1_reasons.specs.StepReasons.{is_flawed, is_flawed_pair}

-- The point is outside the box that is named with it.
abbrev pub names_outside : Reason → Bool
names_outside (Outside p box) = is_outside box p
names_outside _ = false

abbrev pub is_below_zero : Reason → Bool
is_below_zero (Area twentyfold turns) = int_lt twentyfold (pos 0)
is_below_zero _ = false

-- The line or the curve is such, by the points that are named: where the line before it begins, and where it begins itself.
abbrev pub is_stroke_where : (Option Point → Option Point → Segment → Bool) → Reason → Bool
is_stroke_where test (Stroke line_start start segment) = test line_start start segment
is_stroke_where test _ = false

-- What a rule on the drawing asks of the numbers of its reason. P11 and H08 compare none.
abbrev pub is_against_drawing : Rule → Reason → Bool
is_against_drawing P04 reason = names_outside reason
is_against_drawing P05 reason = is_below_zero reason
is_against_drawing P06 reason = is_stroke_where (λ line_start start s. has_no_length_from start s) reason
is_against_drawing P07 reason = is_stroke_where (two_lines leads_back) reason
is_against_drawing P08 reason = is_stroke_where (two_lines leads_on) reason
is_against_drawing P09 reason = is_stroke_where (λ line_start start s. is_flat_from start s) reason
is_against_drawing P10 reason = are_beyond reason
is_against_drawing H09 reason = is_flawed_pair SharedEdge reason
is_against_drawing H10 reason = is_flawed Negative reason
is_against_drawing _ reason = true

abbrev pub DrawingReasonsAreAgainstTheirRules : Type 0
DrawingReasonsAreAgainstTheirRules =
    (edition : Edition) (box : Option FontBox) (rule : Rule) (before : List StepView) (step : StepView) (reason : Reason) →
    drawing_reason edition box rule before step ≡ Some reason → is_against_drawing rule reason ≡ true

-- The end that H08 names is one of those that are drawn after the stem was set, and none of these is nearer.
pub record IsNearestEnd (stem : UntouchedStem) (steps : List StepView) (place : ℤ) : Type 0 where
  pub there : Contains (later_ends stem steps) place
  pub nearest : All (λ other. distance stem place ≤ distance stem other) (later_ends stem steps)

abbrev pub NearestEndsAreNearest : Type 0
NearestEndsAreNearest =
    (stem : UntouchedStem) (steps : List StepView) (place : ℤ) → nearest_end stem steps ≡ Some place → IsNearestEnd stem steps place

-- A stem that nothing touches is set at a step.
abbrev pub LeftStemsAreSet : Type 0
LeftStemsAreSet = (steps : List StepView) (stem : UntouchedStem) → first_untouched steps ≡ Some stem → is_some (set_first stem steps) ≡ true
