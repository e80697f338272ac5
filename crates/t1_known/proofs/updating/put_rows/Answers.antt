use Rattle.std.proofs.Common.{◌≡◌, ◌∷◌, ◌++◌, ◌∙◌, List, [], map, ap, sym, subst, rules}
use Rattle.std.proofs.Math.Logic.{∥∥₁_elim}
use Rattle.std.proofs.lemmas.Map.Iter.{rest_all, rest_more, rest_so_far}
use Rattle.std.specs.Map.Iter.{deref_pair}
use denote.Struct.Props.{props}
use Rattle.t1_io.specs.Devices.{Wrote}
use Rattle.t1_known.proofs.KeptRows.{kept_at}
use Rattle.t1_known.proofs.PutRows.{none_put, one_put, put_failed, row_next, rows_failed}
use Rattle.t1_known.specs.Private.Kept.{Entry, rows_now}
use Rattle.t1_known.specs.Private.Updates.{HavePut, updated_text}
use Rattle.t1_many.specs.Choice.{choice_of}
use Rattle.t1_many.specs.RowValues.{row_value}
use Rattle.t1_known.proofs.updating.put_rows.Goals as goal

pub loop-key-init : goal.loop-key-init
loop-key-init g c = λ all is.
    let start : c.into_iter-key-iterator.result ≡ c.args.rows.now.entries =
    c.into_iter-key-iterator.ensures.into_iter_gives ∙ c.iter-key-items.ensures.rest in
    let choice = choice_of c.args.choice in
    let nothing : Wrote (g.W.Sink.state c.args.sink.now) (g.W.Sink.state c.args.sink.now) [] = search rules in
    subst (λ (rest : List Entry). HavePut all (updated_text choice all [] (rows_now c.args.rows.now.entries))
    (λ done. updated_text choice all done (rows_now rest)) (g.W.Sink.state c.args.sink.now) (g.W.Sink.state c.args.sink.now)
    c.args.left.now.entries) (sym start)
    (none_put all [] (λ done. updated_text choice all done (rows_now c.args.rows.now.entries)) (g.W.Sink.state c.args.sink.now)
    c.args.left.now.entries is nothing)

pub put_row-requires : goal.put_row-requires
put_row-requires g c =
    let entry : Entry = (c.in-Some.key.now, c.in-Some.row.now) in
    let next : c.loop-key.key-iterator ≡ entry ∷ c.next.new.self =
    rest_more deref_pair c.loop-key.key-iterator c.next.new.self c.next.result (c.in-Some.key, c.in-Some.row) c.in-Some.is c.next.ensures.steps in
    let split : c.args.rows.now.entries ≡ map deref_pair c.loop-key.yielded ++ entry ∷ c.next.new.self =
    sym (c.into_iter-key-iterator.ensures.into_iter_gives ∙ c.iter-key-items.ensures.rest)
    ∙ rest_so_far deref_pair c.loop-key.yielded c.into_iter-key-iterator.result c.loop-key.key-iterator c.loop-key.yielded_by
    ∙ ap (λ (rest : List Entry). map deref_pair c.loop-key.yielded ++ rest) next in
    ∥∥₁_elim c.requires (search props)
    (λ kept. (kept_at c.args.rows.now.entries (map deref_pair c.loop-key.yielded) entry c.next.new.self split kept).1)

pub loop-key-preserved : goal.loop-key-preserved
loop-key-preserved g c = λ all is.
    let choice = choice_of c.args.choice in
    let entry : Entry = (c.in-Some.key.now, c.in-Some.row.now) in
    let next : c.loop-key.key-iterator ≡ entry ∷ c.next.new.self =
    rest_more deref_pair c.loop-key.key-iterator c.next.new.self c.next.result (c.in-Some.key, c.in-Some.row) c.in-Some.is c.next.ensures.steps in
    let have : HavePut all (updated_text choice all [] (rows_now c.args.rows.now.entries))
    (λ done. updated_text choice all done (row_value c.in-Some.row.now ∷ rows_now c.next.new.self))
    (g.W.Sink.state c.args.sink.now) (g.W.Sink.state c.loop-key.sink) c.loop-key.left.entries =
    subst (λ (rest : List Entry). HavePut all (updated_text choice all [] (rows_now c.args.rows.now.entries))
    (λ done. updated_text choice all done (rows_now rest)) (g.W.Sink.state c.args.sink.now) (g.W.Sink.state c.loop-key.sink)
    c.loop-key.left.entries) next (c.loop-key.invariant all is) in
    let step = row_next choice all have.done c.loop-key.left.entries c.put_row.new.left.entries have.left_is (row_value c.in-Some.row.now)
    (rows_now c.next.new.self) c.in_ok-put_row.ensures.left in
    one_put all _ _ _ _ _ _ _ have _ (λ done. updated_text choice all done (rows_now c.next.new.self)) step c.in_ok-put_row.ensures.put

pub returns-in_err-put_row : goal.returns-in_err-put_row
returns-in_err-put_row g c =
    rows_failed _ (choice_of c.args.choice) (rows_now c.args.rows.now.entries) _ _ _ _ c.from_residual.result c.from_residual.ensures.1
    (λ all is.
    let choice = choice_of c.args.choice in
    let entry : Entry = (c.in-Some.key.now, c.in-Some.row.now) in
    let next : c.loop-key.key-iterator ≡ entry ∷ c.next.new.self =
    rest_more deref_pair c.loop-key.key-iterator c.next.new.self c.next.result (c.in-Some.key, c.in-Some.row) c.in-Some.is c.next.ensures.steps in
    let have : HavePut all (updated_text choice all [] (rows_now c.args.rows.now.entries))
    (λ done. updated_text choice all done (row_value c.in-Some.row.now ∷ rows_now c.next.new.self))
    (g.W.Sink.state c.args.sink.now) (g.W.Sink.state c.loop-key.sink) c.loop-key.left.entries =
    subst (λ (rest : List Entry). HavePut all (updated_text choice all [] (rows_now c.args.rows.now.entries))
    (λ done. updated_text choice all done (rows_now rest)) (g.W.Sink.state c.args.sink.now) (g.W.Sink.state c.loop-key.sink)
    c.loop-key.left.entries) next (c.loop-key.invariant all is) in
    let step = row_next choice all have.done c.loop-key.left.entries c.put_row.new.left.entries have.left_is (row_value c.in-Some.row.now)
    (rows_now c.next.new.self) c.in_err-put_row.ensures.left in
    put_failed all _ _ _ _ _ _ _ have _ (λ done. updated_text choice all done (rows_now c.next.new.self)) step c.in_err-put_row.ensures.put)

pub returns : goal.returns
returns g c = λ all is.
    let choice = choice_of c.args.choice in
    subst (λ (rest : List Entry). HavePut all (updated_text choice all [] (rows_now c.args.rows.now.entries))
    (λ done. updated_text choice all done (rows_now rest)) (g.W.Sink.state c.args.sink.now) (g.W.Sink.state c.loop-key.sink)
    c.loop-key.left.entries) (rest_all deref_pair c.loop-key.key-iterator c.next.new.self c.next.result c.in-None.is c.next.ensures.steps)
    (c.loop-key.invariant all is)
