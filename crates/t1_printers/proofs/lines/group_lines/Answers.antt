use Rattle.t1_printers.proofs.Steps.{three_texts}
use Rattle.t1_printers.proofs.lines.group_lines.Goals as goal
use Rattle.t1_printers.specs.GroupLines.{group_line}
use Rattle.t1_printers.specs.Held.{of_level}
use Rattle.t1_printers.specs.RuleGroups.{group_values}
use Rattle.t1_rules.specs.declared.level.Level.TheVariants.{Must, Should, Tidy}

pub returns : goal.returns
returns g c =
    let line = group_line ((g.T.GroupForm.writing c.args.form.now).line c.args.name.now) (group_values c.args.groups.now) in
    three_texts c.new-text.result.items c.push_level.new.text.items c.push_level-2.new.text.items c.push_level-3.new.text.items (of_level line Must)
    (of_level line Should) (of_level line Tidy) c.new-text.ensures.items c.in_ok-push_level.ensures c.in_ok-push_level-2.ensures
    c.in_ok-push_level-3.ensures
