use Rattle.std.proofs.Common.{◌-◌}
use Rattle.t1_char.specs.Stacks.{most_numbers}
use Rattle.t1_char.specs.Private.Advancing.{GoesOverLong}
use Rattle.t1_char.proofs.frames.Frames.go_over_long.Given as goal

abbrev pub invariant-loop-token : goal.invariant-loop-token
invariant-loop-token l = GoesOverLong l.fn.self l.passed l.token l.self

abbrev pub decreases-loop-token : goal.decreases-loop-token
decreases-loop-token l = most_numbers - l.passed
