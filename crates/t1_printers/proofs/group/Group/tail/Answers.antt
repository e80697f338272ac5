use Rattle.std.proofs.Common.{◌≡◌, ◌++◌, ◌-◌, ◌∙◌, ap, arith, refl, sym}
use Rattle.std.proofs.lemmas.List.{length-map}
use Rattle.std.specs.String.{string_bytes}
use Rattle.t1_printers.proofs.Greatest.{greatest_below, greatest_here, text_fits, text_is_wide}
use Rattle.t1_printers.proofs.group.Group.tail.Goals as goal
use Rattle.t1_printers.proofs.group.Group.tail.Goals.{then-loop-shown-test+else-width-room, else-loop-shown-test}
use Rattle.t1_printers.specs.Groups.{group_value, tail_at, tail_fits}
use Rattle.t1_printers.specs.Tails.{greatest}
use Rattle.t1_printers.specs.Widths.{width_of}

pub loop-shown-preserved : goal.loop-shown-preserved
loop-shown-preserved c =
    let g = group_value c.args.self.now in
    let width = c.width.ensures ∙ ap (λ t. width_of t) c.as_slice.ensures.value in
    record {
      few = omega (arith, c.loop-shown.invariant.few);
      text = c.in_ok-push_tail-2.ensures ∙ ap (λ t. t ++ tail_at g (c.loop-shown.shown - 1)) c.clear.ensures.items;
      greatest = c.loop-shown.invariant.greatest
          ∙ greatest_below (tail_fits c.args.room g) c.loop-shown.shown c.loop-shown-test.true
          (text_is_wide _ _ c.args.room c.width.result c.loop-shown.invariant.text width c.if-width-room.true);
    }

pub returns : goal.returns
returns c =
    let g = group_value c.args.self.now in
    let all = ap (greatest (tail_fits c.args.room g)) (length-map c.args.self.now.names.items string_bytes) ∙ c.loop-shown.invariant.greatest in
    c.loop-shown.invariant.text
    ∙ ap (tail_at g) (sym (all ∙ (elim c.loop-shown-test.branch [
      | then-loop-shown-test+else-width-room w ↦
          greatest_here (tail_fits c.args.room g) c.loop-shown.shown
          (text_fits _ _ c.args.room w.width.result c.loop-shown.invariant.text (w.width.ensures ∙ ap (λ t. width_of t) w.as_slice.ensures.value)
          w.if-width-room.false)
      | else-loop-shown-test w ↦ (let none : c.loop-shown.shown ≡ 0 = omega (arith, w.loop-shown-test.false) in rw none refl)
    ])))
