use Rattle.std.proofs.Common.{ap, arith}
use Rattle.t1_char.proofs.Advancing.{none_over}
use Rattle.t1_char.proofs.frames.Frames.go_over.Goals as goal

pub returns-clause-over : goal.returns-clause-over
returns-clause-over c =
    record {
      taken = 0;
      taken_is = omega arith;
      passed = c.args.self.now;
      over = none_over c.args.passing c.args.limit c.args.font.now c.args.counted c.args.self.now;
      token = c.read_token.ensures.token;
      path = ap (λ f. f.step.path.items) c.read_token.ensures.kept;
      callers = ap (λ f. f.callers.items) c.read_token.ensures.kept;
      stack = ap (λ f. f.step.stack) c.read_token.ensures.kept;
      waiting = ap (λ f. f.waiting.items) c.read_token.ensures.kept;
    }
