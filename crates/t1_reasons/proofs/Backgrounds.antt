-- The background of a step, one step further.
use Rattle.std.proofs.Common.{◌≡◌, ◌+◌, None, List, [], ◌∷◌, ◌++◌, append-nil, append_assoc, length, refl, ap, ◌∙◌}
use Rattle.t1_char.specs.Steps.{StepView}
use Rattle.t1_char.proofs.LookingBack.{since_goes_on}
use Rattle.t1_rules.specs.StepRules.Flex.{current_point, origin}
use Rattle.t1_rules.specs.StepRules.Paths.{closing_step, drawing, flex_end, flex_start, in_flex, outer_move}
use Rattle.t1_rules.specs.StepRules.Seac.{makes_outline}
use Rattle.t1_rules.specs.StepRules.Triples.{is_hstem, is_hstem3, is_vstem, is_vstem3}
use Rattle.t1_reasons.specs.Backgrounds.{background_after, background_of, counted_step, end_on, ends_path, first_stem, outer_point_on, set_three, start_on, told_step, width_step}
use Rattle.t1_reasons.specs.Carried.{carried_from, carried_over, last_on, last_told_on}

carried_more : {A : Type 0} (next : A → List StepView → StepView → A) (carried : A) (before ss : List StepView) (t : StepView)
    → carried_from next carried before (ss ++ t ∷ []) ≡ next (carried_from next carried before ss) (before ++ ss) t
carried_more next carried before [] t = rw (append-nil before) refl
carried_more next carried before (s ∷ ss) t =
    carried_more next (next carried before s) (before ++ s ∷ []) ss t
    ∙ ap (λ steps. next (carried_from next (next carried before s) (before ++ s ∷ []) ss) steps t) (append_assoc before (s ∷ []) ss)

pub carried_on : {A : Type 0} (next : A → List StepView → StepView → A) (start : A) (before : List StepView) (t : StepView)
    → carried_over next start (before ++ t ∷ []) ≡ next (carried_over next start before) before t
carried_on next start before t = carried_more next start [] before t

pub background_goes_on : (before : List StepView) (t : StepView)
    → background_of (before ++ t ∷ [])
    ≡ background_after (background_of before) (in_flex before) (length before + 1) (current_point (before ++ t ∷ [])) t
background_goes_on before t =
    rw (
      carried_on start_on origin before t,
      carried_on end_on origin before t,
      carried_on outer_point_on origin before t,
      since_goes_on flex_start flex_end before t,
      since_goes_on drawing ends_path before t,
      carried_on (last_on closing_step) None before t,
      carried_on (last_on outer_move) None before t,
      carried_on (last_on drawing) None before t,
      carried_on (last_on flex_start) None before t,
      carried_on (last_on width_step) None before t,
      carried_on (last_on makes_outline) None before t,
      carried_on (last_on told_step) None before t,
      carried_on (last_on counted_step) None before t,
      carried_on (last_told_on is_hstem first_stem) None before t,
      carried_on (last_told_on is_hstem3 set_three) None before t,
      carried_on (last_told_on is_vstem first_stem) None before t,
      carried_on (last_told_on is_vstem3 set_three) None before t,
    ) refl
