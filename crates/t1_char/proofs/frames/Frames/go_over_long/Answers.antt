use Rattle.std.proofs.Common.{rules, SFits, w32, w64, ◌<◌, length, ap, ◌∙◌, arith}
use Rattle.std.proofs.lemmas.Int.{to_z-of_z}
use Rattle.t1_char.specs.Stacks.{most_numbers, put}
use Rattle.t1_char.proofs.TakenNumbers.{passed_more, put_more}
use Rattle.t1_char.proofs.frames.Frames.go_over_long.Goals as goal

pub loop-token-preserved : goal.loop-token-preserved
loop-token-preserved c =
    let stack = c.loop-token.self.step.stack in
    let room : length stack < most_numbers = search rules in
    let more = ap length c.put.ensures ∙ put_more stack _ room in
    let given : SFits w32 c.in-Number.number = search rules in
    let fits : SFits w64 c.units.result = search rules in
    record {
      passes = λ before at.
          passed_more c.loop-token.passed before c.loop-token.self.current c.next_token-token.new.self _ stack c.put.new.self c.loop-token.token
          c.next_token-token.result c.in-Number.number (c.loop-token.invariant.passes before at) c.in-Number.is room
          ((simp to_z-of_z at c.put.ensures) ∙ ap (put stack) (simp to_z-of_z at c.units.ensures)) c.next_token-token.ensures;
      kept = search rules;
      more = omega (arith, more, c.loop-token.invariant.more);
      near = omega (arith, room, c.loop-token.invariant.more);
    }
