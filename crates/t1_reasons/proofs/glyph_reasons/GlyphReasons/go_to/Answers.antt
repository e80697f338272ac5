use Rattle.std.proofs.Common.{◌≡◌, ◌+◌, ◌≤◌, arith, length}
use Rattle.t1_reasons.specs.GlyphReasons.{steps_in}
use Rattle.t1_reasons.proofs.Walking.{same_of_same, same_steps}
use Rattle.t1_reasons.proofs.glyph_reasons.GlyphReasons.go_to.Goals as goal

pub returns-then-not-next : goal.returns-then-not-next
returns-then-not-next c =
    let here = c.loop-step.self in
    let steps : steps_in here ≡ steps_in c.args.self.now = same_steps c.args.self.now here c.loop-step.invariant.same in
    let over : c.next.new.self.counted ≡ length (steps_in here) + 1 = c.next.ensures.over c.if-not-next.true in
    let all : length (steps_in here) ≤ here.counted = c.next.ensures.all c.if-not-next.true in
    record {
      same = same_of_same c.args.self.now here c.next.new.self c.loop-step.invariant.same c.next.ensures.same;
      counted = λ within.
          let few : c.args.number ≤ length (steps_in here) + 1 = rw steps within in
          omega (arith, over, all, few, c.loop-step.invariant.counted, c.loop-step-test.true);
    }
