use Rattle.std.proofs.Common.{rules, w64, FitsSigned, ◌≤◌, length, ◌∙◌, arith}
use Rattle.std.proofs.lemmas.Int.{to_z-of_z}
use Rattle.t1_char.specs.StepValues.{step_view}
use Rattle.t1_rules.proofs.Lemmas.Othersubrs.{of_call}
use Rattle.t1_rules.proofs.step_rules.othersubrs.call_faults.Goals as goal

pub returns : goal.returns
returns c = λ before n.
    let there : 2 ≤ length c.args.step.now.stack = grind (arith, c.if-len-lt2.false, c.len.ensures.len) in
    let fits : FitsSigned w64 c.from_top.result = search rules in
    c.number_faults.ensures n
    ∙ of_call _ _ _ n before (step_view c.args.step.now) c.requires.token there c.has_good_count.ensures c.is_effective.ensures
    (to_z-of_z w64 c.from_top.result fits ∙ c.from_top.ensures)
