use Rattle.std.proofs.Common.{◌≡◌, ◌++◌, ◌∙◌, ℕ, List, [], codes, ap, subst}
use Rattle.std.specs.List.{flat_map}
use Rattle.t1_io.proofs.SinkLemmas.{PutFailed-first, PutFailed-second, Wrote-trans}
use Rattle.t1_io.specs.Devices.{PutFailed, Wrote}
use Rattle.t1_known.proofs.PutRows.{last_failed, last_put, updated_same}
use Rattle.t1_known.proofs.Told.{all_failed}
use Rattle.t1_known.specs.Private.Kept.{rows_now}
use Rattle.t1_known.specs.Private.Updates.{behind_text, updated_text}
use Rattle.t1_many.specs.Choice.{choice_of}
use Rattle.t1_many.specs.KnownFaults.{RowValue, file_text, row_text, updated}
use Rattle.t1_known.proofs.updating.write_updated.Goals as goal

pub returns-in_err-put_all : goal.returns-in_err-put_all
returns-in_err-put_all g c = λ all are.
    let choice = choice_of c.args.choice in
    let header : List ℕ = codes "# Known faults: count, rule, unit, font.\n" in
    all_failed _ _ _ c.from_residual.result c.from_residual.ensures.1
    (PutFailed-first _ _ header (flat_map row_text (updated choice all c.args.known.now)) c.in_err-put_all.ensures)

pub returns-in_err-put_rows : goal.returns-in_err-put_rows
returns-in_err-put_rows g c = λ all are.
    let choice = choice_of c.args.choice in
    let header : List ℕ = codes "# Known faults: count, rule, unit, font.\n" in
    let rows = rows_now c.known.inside.rows.entries in
    let whole = updated_text choice c.args.readings.now [] rows in
    let same : header ++ whole ≡ file_text (updated choice all c.args.known.now) =
    ap (λ t. header ++ t) (updated_same choice c.args.readings.now all are rows
    ∙ ap (λ (rs : List RowValue). flat_map row_text (updated choice all rs)) c.known.view_is) in
    all_failed _ _ _ c.from_residual-in_err-put_rows.result c.from_residual-in_err-put_rows.ensures.1
    (subst (PutFailed (g.W.Sink.state c.args.sink.now) (g.W.Sink.state c.put_rows.new.sink)) same
    (PutFailed-second _ (g.W.Sink.state c.put_all.new.sink) _ header whole c.in_ok-put_all.ensures (c.in_err-put_rows.ensures c.args.readings.now c.in-Ok.ensures)))

pub returns-in_err-put_others : goal.returns-in_err-put_others
returns-in_err-put_others g c = λ all are.
    let choice = choice_of c.args.choice in
    let header : List ℕ = codes "# Known faults: count, rule, unit, font.\n" in
    let rows = rows_now c.known.inside.rows.entries in
    let whole = updated_text choice c.args.readings.now [] rows in
    let same : header ++ whole ≡ file_text (updated choice all c.args.known.now) =
    ap (λ t. header ++ t) (updated_same choice c.args.readings.now all are rows
    ∙ ap (λ (rs : List RowValue). flat_map row_text (updated choice all rs)) c.known.view_is) in
    let have = c.in_ok-put_rows.ensures c.args.readings.now c.in-Ok.ensures in
    all_failed _ _ _ c.from_residual-in_err-put_others.result c.from_residual-in_err-put_others.ensures.1
    (subst (PutFailed (g.W.Sink.state c.args.sink.now) (g.W.Sink.state c.put_others.new.sink)) same
    (PutFailed-second _ (g.W.Sink.state c.put_all.new.sink) _ header whole c.in_ok-put_all.ensures
    (last_failed c.args.readings.now whole (λ done. behind_text c.args.readings.now done c.args.readings.now) _ _ _ c.put_rows.new.left.entries have
    (c.in_err-put_others.ensures have.done have.left_is))))

pub returns : goal.returns
returns g c = λ all are.
    let choice = choice_of c.args.choice in
    let header : List ℕ = codes "# Known faults: count, rule, unit, font.\n" in
    let rows = rows_now c.known.inside.rows.entries in
    let whole = updated_text choice c.args.readings.now [] rows in
    let same : header ++ whole ≡ file_text (updated choice all c.args.known.now) =
    ap (λ t. header ++ t) (updated_same choice c.args.readings.now all are rows
    ∙ ap (λ (rs : List RowValue). flat_map row_text (updated choice all rs)) c.known.view_is) in
    let have = c.in_ok-put_rows.ensures c.args.readings.now c.in-Ok.ensures in
    subst (Wrote (g.W.Sink.state c.args.sink.now) (g.W.Sink.state c.put_others.new.sink)) same
    (Wrote-trans _ (g.W.Sink.state c.put_all.new.sink) _ header whole c.in_ok-put_all.ensures
    (last_put c.args.readings.now whole (λ done. behind_text c.args.readings.now done c.args.readings.now) _ _ _ c.put_rows.new.left.entries have
    (c.in_ok-put_others.ensures have.done have.left_is)))
