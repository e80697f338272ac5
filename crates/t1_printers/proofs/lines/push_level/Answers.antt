use Rattle.std.proofs.Common.{arith}
use Rattle.t1_printers.proofs.Steps.{each_line}
use Rattle.t1_printers.proofs.lines.push_level.Goals as goal
use Rattle.t1_printers.specs.GroupLines.{group_line}
use Rattle.t1_printers.specs.Held.{level_line}
use Rattle.t1_printers.specs.RuleGroups.{group_values}
use Rattle.t1_rules.specs.Book.{rules}

pub returns : goal.returns
returns g c =
    let line = level_line (group_line ((g.T.GroupForm.writing c.args.form.now).line c.args.name.now) (group_values c.args.groups.now)) c.args.level in
    each_line c.args.text.now.items c.loop-rule.text.items line c.all_rules-rules.result.now rules c.loop-rule.rule-index c.loop-rule.invariant
    c.all_rules-rules.ensures (omega (arith, c.loop-rule-test.false))
