use Rattle.std.proofs.Common.{◌≡◌, ◌∷◌, List, ℕ, ap, subst}
use Rattle.std.proofs.lemmas.Map.Iter.{rest_all, rest_more}
use Rattle.std.specs.Global.{Global}
use Rattle.std.specs.List.{flat_map}
use Rattle.std.specs.Map.Iter.{deref_pair}
use Rattle.std.specs.declared.vec.Vec.{Vec}
use Rattle.t1_io.proofs.SinkLemmas.{Writes-failed}
use Rattle.t1_io.specs.Devices.{PutFailed, Wrote}
use Rattle.t1_many.specs.KnownFaults.{row_text}
use Rattle.t1_known.proofs.Told.{told_all, told_failed, told_more}
use Rattle.t1_known.specs.Private.Fonts.{count_text, row_of}
use Rattle.t1_known.proofs.updating.put_counts.Goals as goal

pub loop-kind-preserved : goal.loop-kind-preserved
loop-kind-preserved g c =
    let f = count_text c.args.font.now in
    let entry : Vec ℕ Global × ℕ = (c.in-Some.kind.now, c.in-Some.count.now) in
    let next : c.loop-kind.kind-iterator ≡ entry ∷ c.next.new.self =
    rest_more deref_pair c.loop-kind.kind-iterator c.next.new.self c.next.result (c.in-Some.kind, c.in-Some.count) c.in-Some.is c.next.ensures.steps in
    told_more (g.W.Sink.state c.args.sink.now) (g.W.Sink.state c.loop-kind.sink) (flat_map f c.args.counts.now.entries) (flat_map f c.loop-kind.kind-iterator)
    (f entry) (flat_map f c.next.new.self) c.loop-kind.invariant (ap (flat_map f) next) (g.W.Sink.state c.put_count.new.sink)
    (subst (λ (k : List ℕ). Wrote (g.W.Sink.state c.loop-kind.sink) (g.W.Sink.state c.put_count.new.sink) (row_text (row_of c.args.font.now k c.in-Some.count.now)))
    c.as_slice.ensures.value c.in_ok-put_count.ensures)

pub returns-in_err-put_count : goal.returns-in_err-put_count
returns-in_err-put_count g c =
    let f = count_text c.args.font.now in
    let entry : Vec ℕ Global × ℕ = (c.in-Some.kind.now, c.in-Some.count.now) in
    let next : c.loop-kind.kind-iterator ≡ entry ∷ c.next.new.self =
    rest_more deref_pair c.loop-kind.kind-iterator c.next.new.self c.next.result (c.in-Some.kind, c.in-Some.count) c.in-Some.is c.next.ensures.steps in
    Writes-failed _ _ _ _ _ c.from_residual.ensures.1
    (told_failed (g.W.Sink.state c.args.sink.now) (g.W.Sink.state c.loop-kind.sink) (flat_map f c.args.counts.now.entries)
    (flat_map f c.loop-kind.kind-iterator) (f entry) (flat_map f c.next.new.self) c.loop-kind.invariant (ap (flat_map f) next) (g.W.Sink.state c.put_count.new.sink)
    (subst (λ (k : List ℕ). PutFailed (g.W.Sink.state c.loop-kind.sink) (g.W.Sink.state c.put_count.new.sink) (row_text (row_of c.args.font.now k c.in-Some.count.now)))
    c.as_slice.ensures.value c.in_err-put_count.ensures))

pub returns : goal.returns
returns g c =
    let f = count_text c.args.font.now in
    told_all (g.W.Sink.state c.args.sink.now) (g.W.Sink.state c.loop-kind.sink) (flat_map f c.args.counts.now.entries) (flat_map f c.loop-kind.kind-iterator)
    (ap (flat_map f) (rest_all deref_pair c.loop-kind.kind-iterator c.next.new.self c.next.result c.in-None.is c.next.ensures.steps))
    c.loop-kind.invariant
