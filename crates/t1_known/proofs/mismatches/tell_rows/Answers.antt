use Rattle.std.proofs.Common.{◌≡◌, ◌∷◌, ◌++◌, ◌∙◌, List, map, ap, sym}
use Rattle.std.proofs.Math.Logic.{∥∥₁_elim}
use Rattle.std.proofs.lemmas.Map.Iter.{rest_all, rest_more, rest_so_far}
use Rattle.std.specs.List.{flat_map}
use Rattle.std.specs.Map.Iter.{deref_pair}
use denote.Struct.Props.{props}
use Rattle.t1_io.proofs.SinkLemmas.{Writes-failed}
use Rattle.t1_known.proofs.KeptRows.{kept_at}
use Rattle.t1_known.proofs.Told.{told_all, told_failed, told_more}
use Rattle.t1_known.specs.Private.Kept.{Entry}
use Rattle.t1_known.specs.Private.Mismatches.{told_of}
use Rattle.t1_many.specs.Choice.{choice_of}
use Rattle.t1_known.proofs.mismatches.tell_rows.Goals as goal

pub tell_row-requires : goal.tell_row-requires
tell_row-requires g c =
    let entry : Entry = (c.in-Some._key.now, c.in-Some.row.now) in
    let next : c.loop-key._key-iterator ≡ entry ∷ c.next.new.self =
    rest_more deref_pair c.loop-key._key-iterator c.next.new.self c.next.result (c.in-Some._key, c.in-Some.row) c.in-Some.is c.next.ensures.steps in
    let split : c.args.rows.now.entries ≡ map deref_pair c.loop-key.yielded ++ entry ∷ c.next.new.self =
    sym (c.into_iter-key-iterator.ensures.into_iter_gives ∙ c.iter-key-items.ensures.rest)
    ∙ rest_so_far deref_pair c.loop-key.yielded c.into_iter-key-iterator.result c.loop-key._key-iterator c.loop-key.yielded_by
    ∙ ap (λ (rest : List Entry). map deref_pair c.loop-key.yielded ++ rest) next in
    ∥∥₁_elim c.requires (search props)
    (λ kept. (kept_at c.args.rows.now.entries (map deref_pair c.loop-key.yielded) entry c.next.new.self split kept).0.count)

pub loop-key-preserved : goal.loop-key-preserved
loop-key-preserved g c =
    let f = told_of (choice_of c.args.choice) c.args.fonts.now.entries in
    let entry : Entry = (c.in-Some._key.now, c.in-Some.row.now) in
    let next : c.loop-key._key-iterator ≡ entry ∷ c.next.new.self =
    rest_more deref_pair c.loop-key._key-iterator c.next.new.self c.next.result (c.in-Some._key, c.in-Some.row) c.in-Some.is c.next.ensures.steps in
    told_more (g.W.Sink.state c.args.sink.now) (g.W.Sink.state c.loop-key.sink) (flat_map f c.args.rows.now.entries) (flat_map f c.loop-key._key-iterator)
    (f entry) (flat_map f c.next.new.self) c.loop-key.invariant (ap (flat_map f) next) (g.W.Sink.state c.tell_row.new.sink) c.in_ok-tell_row.ensures

pub returns-in_err-tell_row : goal.returns-in_err-tell_row
returns-in_err-tell_row g c =
    let f = told_of (choice_of c.args.choice) c.args.fonts.now.entries in
    let entry : Entry = (c.in-Some._key.now, c.in-Some.row.now) in
    let next : c.loop-key._key-iterator ≡ entry ∷ c.next.new.self =
    rest_more deref_pair c.loop-key._key-iterator c.next.new.self c.next.result (c.in-Some._key, c.in-Some.row) c.in-Some.is c.next.ensures.steps in
    Writes-failed _ _ _ _ _ c.from_residual.ensures.1
    (told_failed (g.W.Sink.state c.args.sink.now) (g.W.Sink.state c.loop-key.sink) (flat_map f c.args.rows.now.entries)
    (flat_map f c.loop-key._key-iterator) (f entry) (flat_map f c.next.new.self) c.loop-key.invariant (ap (flat_map f) next) (g.W.Sink.state c.tell_row.new.sink) c.in_err-tell_row.ensures)

pub returns : goal.returns
returns g c =
    let f = told_of (choice_of c.args.choice) c.args.fonts.now.entries in
    told_all (g.W.Sink.state c.args.sink.now) (g.W.Sink.state c.loop-key.sink) (flat_map f c.args.rows.now.entries) (flat_map f c.loop-key._key-iterator)
    (ap (flat_map f) (rest_all deref_pair c.loop-key._key-iterator c.next.new.self c.next.result c.in-None.is c.next.ensures.steps))
    c.loop-key.invariant
