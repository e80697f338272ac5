use Rattle.std.proofs.Common.{◌≤◌, ◌∷◌, ◌++◌, [], List, ℕ, true≢false, ap, sym, subst, ◌∙◌, length, arith}
use Rattle.std.proofs.lemmas.List.{length-map, take_all}
use Rattle.t1_many.proofs.KindMaps.{insert_now}
use Rattle.t1_many.proofs.KnownCounts.{one_known}
use Rattle.t1_many.proofs.ReadKinds.{at_map}
use Rattle.t1_many.proofs.known.known_counts.Goals as goal
use Rattle.t1_many.proofs.known.known_counts.Goals.{else-loop-place-test, then-loop-place-test+in_default}
use Rattle.t1_many.specs.Counts.{kind_counts}
use Rattle.t1_many.specs.Kinds.{KindValue, kind_text, kind_value}
use Rattle.t1_many.specs.Private.Counts.{AreKnown}
use Rattle.t1_many.specs.declared.kinds.Kind.{Kind}

pub loop-place-preserved : goal.loop-place-preserved
loop-place-preserved g c =
    subst (AreKnown (g.K.Known.counts c.args.known.now) c.args.name.now _)
    (sym (ap kind_counts c.in_ok-insert.ensures.entries ∙ insert_now c.loop-place.counts.entries c.in-Some.kind.now c.count_of.result))
    (one_known (g.K.Known.counts c.args.known.now) c.args.name.now (kind_counts c.args.found.now.entries) c.loop-place.place
    (kind_value c.in-Some.kind.now) _
    (at_map (λ (e : Kind × ℕ). (kind_value e.0, e.1)) c.args.found.now.entries c.loop-place.place _ (sym c.in-Some.ensures.entry))
    (kind_counts c.loop-place.counts.entries) c.count_of.result
    (c.count_of.ensures
    ∙ ap (g.K.Known.counts c.args.known.now)
    (c.as_slice.ensures.value ∙ c.in_ok-push_two.ensures
    ∙ ap (λ (kind : List ℕ). kind ++ (32 ∷ (c.as_bytes.result.now ++ [])))
    (c.in_ok-push_kind.ensures ∙ ap (λ (t : List ℕ). t ++ kind_text (kind_value c.in-Some.kind.now)) c.clear.ensures.items)
    ∙ ap (λ (n : List ℕ). kind_text (kind_value c.in-Some.kind.now) ++ (32 ∷ (n ++ []))) c.as_bytes.ensures.value))
    c.loop-place.invariant)

pub returns : goal.returns
returns g c =
    let all = length-map {B = KindValue × ℕ} c.args.found.now.entries (λ (e : Kind × ℕ). (kind_value e.0, e.1)) in
    let last : length (kind_counts c.args.found.now.entries) ≤ c.loop-place.place = elim c.loop-place-test.branch [
      | else-loop-place-test w ↦
          let past = w.loop-place-test.false in
          let len = c.len-place-end.ensures.len in
          omega (arith, past, len, all)
      | then-loop-place-test+in_default w ↦
          let more = w.loop-place-test.true in
          let len = c.len-place-end.ensures.len in
          absurd (true≢false (sym (w.in_default.ensures.found.1 (omega (arith, more, len)))))
    ] in
    subst (λ (found : List (KindValue × ℕ)). AreKnown (g.K.Known.counts c.args.known.now) c.args.name.now found (kind_counts c.loop-place.counts.entries))
    (take_all c.loop-place.place (kind_counts c.args.found.now.entries) last) c.loop-place.invariant
