-- Short forms of moves, lines and curves draw what the full ones do.
use Rattle.std.proofs.Common.{◌≡◌, ℤ, pos, if◌then◌else◌, not, List, [], ◌∷◌, ◌++◌, refl, sym, ap, ◌∙◌}
use Rattle.t1_char.specs.declared.command.Command.TheVariants.{Hmoveto, Rmoveto, Vmoveto}
use Rattle.t1_char.specs.Steps.{StepView}
use Rattle.t1_outline.specs.declared.segment.Segment.TheVariants.{Move}
use Rattle.t1_outline.specs.Laws.ShortForms.{ShortFormsDrawAlike, ShortStepsDrawAlike, with_command}
use Rattle.t1_rules.specs.declared.step_rules.flex.Point.{Point}
use Rattle.t1_rules.specs.StepRules.Flex.{current_point}
use Rattle.t1_rules.specs.StepRules.Paths.{in_flex}
use Rattle.t1_rules.proofs.Lemmas.Flex.{point_goes_on}

pub short_forms_draw_alike : ShortFormsDrawAlike
short_forms_draw_alike start a b c d = record { hlineto = refl; vlineto = refl; vhcurveto = refl; hvcurveto = refl }

-- Where moves lead.
across : (before : List StepView) (step : StepView) (a : ℤ)
    → current_point (before ++ with_command step Hmoveto (a ∷ []) ∷ []) ≡ current_point (before ++ with_command step Rmoveto (a ∷ pos 0 ∷ []) ∷ [])
across before step a =
    point_goes_on before (with_command step Hmoveto (a ∷ [])) ∙ sym (point_goes_on before (with_command step Rmoveto (a ∷ pos 0 ∷ [])))

upwards : (before : List StepView) (step : StepView) (a : ℤ)
    → current_point (before ++ with_command step Vmoveto (a ∷ []) ∷ []) ≡ current_point (before ++ with_command step Rmoveto (pos 0 ∷ a ∷ []) ∷ [])
upwards before step a =
    point_goes_on before (with_command step Vmoveto (a ∷ [])) ∙ sym (point_goes_on before (with_command step Rmoveto (pos 0 ∷ a ∷ [])))

pub short_steps_draw_alike : ShortStepsDrawAlike
short_steps_draw_alike before step a b c d = record {
  hmoveto = ap (λ (p : Point). if not (in_flex before) then Move p ∷ [] else []) (across before step a);
  vmoveto = ap (λ (p : Point). if not (in_flex before) then Move p ∷ [] else []) (upwards before step a);
  hlineto = refl;
  vlineto = refl;
  vhcurveto = refl;
  hvcurveto = refl;
}
