use Rattle.std.proofs.Common.{ap, ◌∙◌}
use Rattle.t1_printers.proofs.grouped.GroupedPrinter.failure.Goals as goal
use Rattle.t1_printers.specs.RuleGroups.{values_of}

pub returns-in-Unchecked : goal.returns-in-Unchecked
returns-in-Unchecked g c =
    rw c.in-Unchecked.is
    (c.unchecked.ensures.form, (rw (c.as_str.ensures.value ∙ c.text.ensures) at c.unchecked.ensures.told, ap (values_of (g.T.GroupForm.writing c.args.self.now.form).room) c.unchecked.ensures.groups))
