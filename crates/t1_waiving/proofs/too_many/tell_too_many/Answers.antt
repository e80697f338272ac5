use Rattle.std.proofs.Common.{◌∙◌, ◌++◌, ap, append-nil, arith, not, false, true, subst, sym, take}
use Rattle.std.proofs.lemmas.List.{take_all}
use Rattle.std.specs.List.{flat_map}
use Rattle.t1_io.proofs.SinkLemmas.{PutFailed-part, Writes-failed, Wrote-trans}
use Rattle.t1_io.specs.Devices.{PutFailed, Wrote}
use Rattle.t1_waiving.proofs.TooManyTold.{line_is, line_told, lines_are, lines_next, no_line, none_is, status_failed, status_is, status_same, status_told}
use Rattle.t1_waiving.proofs.too_many.tell_too_many.Goals as goal
use Rattle.t1_waiving.proofs.too_many.tell_too_many.Goals.{then-is_none+in_ok-put_parts, else-is_none}
use Rattle.t1_waiving.specs.TooMany.{status_of_texts, too_many_line}

pub returns-in_err-put_parts-clause-told : goal.returns-in_err-put_parts-clause-told
returns-in_err-put_parts-clause-told g c =
    let fonts = c.fonts-fonts.result.now in
    let font = c.font-item.result in
    let broke : PutFailed (g.W.Sink.state c.loop-font.errors) (g.W.Sink.state c.put_parts.new.sink) (line_told font) =
    subst (PutFailed (g.W.Sink.state c.loop-font.errors) (g.W.Sink.state c.put_parts.new.sink))
    (sym (line_is font (none_is font.text true (c.is_none.ensures ∙ ap not c.if-is_none.true)))) (rw c.as_bytes.ensures.value at c.in_err-put_parts.ensures) in
    Writes-failed _ _ _ _ _ c.from_residual.ensures.1
    (subst (PutFailed (g.W.Sink.state c.args.errors.now) (g.W.Sink.state c.put_parts.new.sink))
    (sym (lines_are fonts) ∙ ap (flat_map too_many_line) c.fonts-fonts.ensures)
    (PutFailed-part line_told fonts c.loop-font.font-index font _ _ _ c.loop-font-test.true c.loop-font.invariant.wrote
    (subst (λ f. PutFailed (g.W.Sink.state c.loop-font.errors) (g.W.Sink.state c.put_parts.new.sink) (line_told f)) c.font-item.is broke)))

pub loop-font-preserved : goal.loop-font-preserved
loop-font-preserved g c =
    let fonts = c.fonts-fonts.result.now in
    let font = c.font-item.result in
    let next = lines_next fonts c.loop-font.font-index font c.loop-font-test.true c.font-item.is in
    elim c.if-is_none.branch [
      | then-is_none+in_ok-put_parts w ↦
          let none = none_is font.text true (c.is_none.ensures ∙ ap not w.if-is_none.true) in
          record {
            wrote = subst (Wrote (g.W.Sink.state c.args.errors.now) (g.W.Sink.state c.if-is_none.errors)) (sym next)
                (rw w.errors-is (Wrote-trans _ _ _ _ _ c.loop-font.invariant.wrote
                (subst (Wrote (g.W.Sink.state c.loop-font.errors) (g.W.Sink.state w.put_parts.new.sink)) (sym (line_is font none))
                (rw w.as_bytes.ensures.value at w.in_ok-put_parts.ensures))));
            status_is = w.status-is ∙ status_failed fonts c.loop-font.font-index font c.loop-font-test.true c.font-item.is none;
          }
      | else-is_none w ↦
          let some = none_is font.text false (c.is_none.ensures ∙ ap not w.if-is_none.false) in
          record {
            wrote = subst (Wrote (g.W.Sink.state c.args.errors.now) (g.W.Sink.state c.if-is_none.errors))
                (sym (next ∙ ap (λ l. flat_map line_told (take c.loop-font.font-index fonts) ++ l) (no_line font some)
                ∙ append-nil (flat_map line_told (take c.loop-font.font-index fonts))))
                (rw w.errors-is c.loop-font.invariant.wrote);
            status_is = w.status-is ∙ c.loop-font.invariant.status_is
                ∙ status_same fonts c.loop-font.font-index font c.loop-font-test.true c.font-item.is some;
          }
    ]

pub returns-clause-told : goal.returns-clause-told
returns-clause-told g c =
    let fonts = c.fonts-fonts.result.now in
    subst (Wrote (g.W.Sink.state c.args.errors.now) (g.W.Sink.state c.loop-font.errors))
    (ap (flat_map line_told) (take_all c.loop-font.font-index fonts (omega (arith, c.loop-font-test.false))) ∙ sym (lines_are fonts)
    ∙ ap (flat_map too_many_line) c.fonts-fonts.ensures)
    c.loop-font.invariant.wrote

pub returns-clause-status : goal.returns-clause-status
returns-clause-status g c =
    let fonts = c.fonts-fonts.result.now in
    c.loop-font.invariant.status_is ∙ ap status_told (take_all c.loop-font.font-index fonts (omega (arith, c.loop-font-test.false)))
    ∙ sym (status_is fonts) ∙ ap status_of_texts c.fonts-fonts.ensures
