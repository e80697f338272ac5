use Rattle.std.proofs.Common.{[], ap, subst, sym}
use Rattle.t1_printers.proofs.HeldGroups.{AreGroups, none_held}
use Rattle.t1_printers.proofs.Written.{seen, terminal_worded, written}
use Rattle.t1_printers.proofs.laws.terminal_lines_are_written.Goals as goal
use Rattle.t1_printers.specs.Printing.{grouping_by}
use Rattle.t1_printers.specs.RuleGroups.{values_of}
use Rattle.t1_printers.specs.Terminals.{terminal_writing}
use Rattle.t1_printers.specs.Writings.{terminal_wording}

pub returns : goal.returns
returns g c old new handed lost none hands =
    let width = old.form.width in
    let has_colours = old.form.has_colours in
    let reasons = old.form.reasons in
    written (terminal_writing width has_colours reasons) (terminal_wording width has_colours reasons) (terminal_worded width has_colours reasons) []
    (grouping_by g.W.Sink.state g.E.Sink.state width old) (grouping_by g.W.Sink.state g.E.Sink.state width new) handed lost
    (subst (AreGroups width []) (sym (ap (values_of width) none)) (none_held width))
    (seen (λ f. f.form) (λ t. terminal_writing t.width t.has_colours t.reasons)
    (λ w. grouping_by g.W.Sink.state g.E.Sink.state w.room) old new handed lost hands)
