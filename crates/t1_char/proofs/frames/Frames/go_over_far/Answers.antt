use Rattle.std.proofs.Common.{◌+◌, refl, ap, arith}
use Rattle.t1_char.proofs.Advancing.{frames_at, lines_over}
use Rattle.t1_char.proofs.TakenLines.{row_numbers}
use Rattle.t1_char.proofs.frames.Frames.go_over_far.Goals as goal

pub returns-clause-over : goal.returns-clause-over
returns-clause-over c =
    let takes = c.take_lines-stop.ensures.takes in
    let more = c.take_token-more.ensures.passes takes.before (c.next_from-token.ensures takes.before takes.first) in
    let row = row_numbers c.args.passing c.take_lines-stop.result.passed c.take_token-more.result _ takes.before more.between
    _ c.take_lines-stop.new.self c.take_token-more.new.self.step.stack c.take_lines-stop.result.way takes.passes more.passes in
    record {
      taken = c.take_lines-stop.result.passed + c.take_token-more.result;
      taken_is = omega arith;
      passed = frames_at c.args.self.now more.between c.take_token-more.new.self.step.stack;
      over = lines_over c.args.passing c.args.limit c.args.font.now c.args.counted c.args.self.now (c.take_lines-stop.result.passed + c.take_token-more.result) _ more.between
          c.take_token-more.new.self.step.stack c.take_lines-stop.result.way c.requires.ahead row
          (omega (arith, c.take_token-more.ensures.near, c.take_lines-stop.ensures.near, c.requires.far));
      token = more.token_is;
      path = ap (λ f. f.step.path.items) c.take_token-more.ensures.kept;
      callers = ap (λ f. f.callers.items) c.take_token-more.ensures.kept;
      stack = refl;
      waiting = ap (λ f. f.waiting.items) c.take_token-more.ensures.kept;
    }
