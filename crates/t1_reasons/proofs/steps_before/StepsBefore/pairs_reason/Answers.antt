use Rattle.std.proofs.Common.{◌&&◌, false, true, sym, ◌∙◌}
use Rattle.std.proofs.lemmas.List.Folds.{find-append}
use Rattle.t1_char.specs.StepValues.{step_view}
use Rattle.t1_char.specs.Arguments.{is_flex_end, is_flex_point}
use Rattle.t1_rules.specs.StepRules.Flex.{flex_moves, flex_points}
use Rattle.t1_rules.specs.StepRules.Paths.{in_flex}
use Rattle.t1_reasons.specs.StepReasons.{are_no_pairs, only_where}
use Rattle.t1_reasons.specs.declared.reason.Reason.TheVariants.{Pairs}
use Rattle.t1_reasons.proofs.steps_before.StepsBefore.pairs_reason.Goals as goal

pub returns : goal.returns
returns c = λ edition before st.
    let t = step_view c.args.step.now in
    c.or.ensures
    ∙ rw (
      c.no_pairs_where-at_point.ensures,
      c.no_pairs_where-at_end.ensures,
      c.gives_flex_point.ensures,
      c.ends_flex.ensures,
      c.is_in_flex-in_flex.ensures before st.flex,
      c.moves-moves.ensures before st.flex,
      c.points-points.ensures before st.flex,
    )
    (sym (find-append are_no_pairs (only_where (is_flex_point t && in_flex before) (Pairs (flex_moves before) (flex_points before) false))
    (only_where (is_flex_end t && in_flex before) (Pairs (flex_moves before) (flex_points before) true))))
