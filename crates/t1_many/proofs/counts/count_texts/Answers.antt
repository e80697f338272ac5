use Rattle.std.proofs.Common.{◌≡◌, ◌≤◌, ◌++◌, List, ℕ, Some, slice_get, true≢false, ap, sym, subst, ◌∙◌, length, arith}
use Rattle.std.proofs.lemmas.List.{length-map, take_all}
use Rattle.t1_many.proofs.ReadKinds.{at_map, one_read}
use Rattle.t1_many.proofs.counts.count_texts.Goals as goal
use Rattle.t1_many.proofs.counts.count_texts.Goals.{else-loop-place-test, then-loop-place-test+in_default}
use Rattle.t1_many.specs.Counts.{kind_counts}
use Rattle.t1_many.specs.Kinds.{KindValue, kind_text, kind_value}
use Rattle.t1_many.specs.KnownFaults.{counts_of}
use Rattle.t1_many.specs.Readings.{counts_in}
use Rattle.t1_many.specs.declared.kinds.Kind.{Kind}

pub loop-place-init : goal.loop-place-init
loop-place-init c kinds are = ap counts_in c.new-counts.ensures.empty

pub loop-place-preserved : goal.loop-place-preserved
loop-place-preserved c kinds are =
    one_read kinds c.loop-place.place (kind_text (kind_value c.in-Some.kind.now)) c.in-Some.count.now
    (subst (λ (cs : List (List ℕ × ℕ)). slice_get cs c.loop-place.place ≡ Some (kind_text (kind_value c.in-Some.kind.now), c.in-Some.count.now)) are
    (at_map (λ (e : KindValue × ℕ). (kind_text e.0, e.1)) (kind_counts c.args.found.now.entries) c.loop-place.place _
    (at_map (λ (e : Kind × ℕ). (kind_value e.0, e.1)) c.args.found.now.entries c.loop-place.place _ (sym c.in-Some.ensures.entry))))
    c.loop-place.counts c.insert.new.self.entries c.push_kind.new.text
    (c.in_ok-push_kind.ensures ∙ ap (λ (t : List ℕ). t ++ kind_text (kind_value c.in-Some.kind.now)) c.new-text.ensures.items)
    (c.loop-place.invariant kinds are) c.in_ok-insert.ensures.entries

pub returns : goal.returns
returns c kinds are =
    let all : length (counts_of kinds) ≡ length c.args.found.now.entries =
    ap length (sym are) ∙ length-map {B = List ℕ × ℕ} (kind_counts c.args.found.now.entries) _ ∙ length-map {B = KindValue × ℕ} c.args.found.now.entries _ in
    let last : length (counts_of kinds) ≤ c.loop-place.place = elim c.loop-place-test.branch [
      | else-loop-place-test w ↦
          let past = w.loop-place-test.false in
          let len = c.len-place-end.ensures.len in
          omega (arith, past, len, all)
      | then-loop-place-test+in_default w ↦
          let more = w.loop-place-test.true in
          let len = c.len-place-end.ensures.len in
          absurd (true≢false (sym (w.in_default.ensures.found.1 (omega (arith, more, len)))))
    ] in
    c.loop-place.invariant kinds are ∙ take_all c.loop-place.place (counts_of kinds) last
