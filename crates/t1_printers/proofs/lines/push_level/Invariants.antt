use Rattle.std.proofs.Common.{◌≡◌, ◌++◌, flat_map, take}
use Rattle.t1_printers.proofs.lines.push_level.Given as goal
use Rattle.t1_printers.specs.GroupLines.{group_line}
use Rattle.t1_printers.specs.Held.{level_line}
use Rattle.t1_printers.specs.RuleGroups.{group_values}

abbrev pub invariant-loop-rule : goal.invariant-loop-rule
invariant-loop-rule g l =
    l.text.items ≡ l.fn.text.items
    ++ flat_map (level_line (group_line ((g.T.GroupForm.writing l.form).line l.name) (group_values l.groups)) l.level) (take l.rule-index l.rules)
