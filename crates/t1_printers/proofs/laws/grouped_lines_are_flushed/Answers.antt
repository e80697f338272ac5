use Rattle.std.proofs.Common.{[], ◌∷◌, ◌++◌, None}
use Rattle.t1_printers.proofs.Written.{flushed, seen}
use Rattle.t1_printers.proofs.laws.grouped_lines_are_flushed.Goals as goal
use Rattle.t1_printers.specs.Printing.{grouping_by}
use Rattle.t1_many.specs.Handing.{done}

pub returns : goal.returns
returns g c old new handed name found hands =
    let room = (g.T.GroupForm.writing old.form).room in
    flushed (g.T.GroupForm.writing old.form)
    (grouping_by g.W.Sink.state g.E.Sink.state room old) (grouping_by g.W.Sink.state g.E.Sink.state room new) handed name found
    (seen (λ f. f.form) g.T.GroupForm.writing (λ w. grouping_by g.W.Sink.state g.E.Sink.state w.room) old new (handed ++ done name found ∷ []) None hands)
