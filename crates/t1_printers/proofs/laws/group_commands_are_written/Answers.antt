use Rattle.std.proofs.Common.{[], ap, subst, sym}
use Rattle.t1_printers.proofs.HeldGroups.{AreGroups, none_held}
use Rattle.t1_printers.proofs.Written.{commands_worded, seen, written}
use Rattle.t1_printers.proofs.laws.group_commands_are_written.Goals as goal
use Rattle.t1_printers.specs.Commands.{command_writing, message_room}
use Rattle.t1_printers.specs.Printing.{grouping_by}
use Rattle.t1_printers.specs.RuleGroups.{values_of}
use Rattle.t1_printers.specs.Writings.{command_wording}

pub returns : goal.returns
returns g c old new handed lost none hands =
    let reasons = old.form.reasons in
    written (command_writing reasons) (command_wording reasons) (commands_worded reasons) []
    (grouping_by g.W.Sink.state g.E.Sink.state message_room old) (grouping_by g.W.Sink.state g.E.Sink.state message_room new) handed lost
    (subst (AreGroups message_room []) (sym (ap (values_of message_room) none)) (none_held message_room))
    (seen (λ f. f.form) (λ t. command_writing t.reasons) (λ w. grouping_by g.W.Sink.state g.E.Sink.state w.room) old new handed lost hands)
