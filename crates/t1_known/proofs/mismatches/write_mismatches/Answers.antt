use Rattle.std.proofs.Common.{◌∙◌, List, ℕ, ap, subst}
use Rattle.std.specs.List.{flat_map}
use Rattle.t1_io.specs.Devices.{PutFailed, Wrote}
use Rattle.t1_known.proofs.MismatchedRows.{rows_same}
use Rattle.t1_known.proofs.Told.{all_failed}
use Rattle.t1_many.specs.Choice.{choice_of}
use Rattle.t1_many.specs.KnownFaults.{mismatch}
use Rattle.t1_known.proofs.mismatches.write_mismatches.Goals as goal

pub returns-in_err-tell_rows : goal.returns-in_err-tell_rows
returns-in_err-tell_rows g c = λ all are.
    let choice = choice_of c.args.choice in
    let same = rows_same choice c.args.readings.now c.in-Ok.fonts.entries c.in-Ok.ensures all are c.known.inside.rows.entries
    ∙ ap (flat_map (mismatch choice all)) c.known.view_is in
    all_failed _ _ _ c.from_residual.result c.from_residual.ensures.1
    (subst (λ (text : List ℕ). PutFailed (g.W.Sink.state c.args.sink.now) (g.W.Sink.state c.tell_rows.new.sink) text) same c.in_err-tell_rows.ensures)

pub returns : goal.returns
returns g c = λ all are.
    let choice = choice_of c.args.choice in
    let same = rows_same choice c.args.readings.now c.in-Ok.fonts.entries c.in-Ok.ensures all are c.known.inside.rows.entries
    ∙ ap (flat_map (mismatch choice all)) c.known.view_is in
    subst (λ (text : List ℕ). Wrote (g.W.Sink.state c.args.sink.now) (g.W.Sink.state c.tell_rows.new.sink) text) same c.in_ok-tell_rows.ensures
