use Rattle.std.proofs.Common.{◌-◌, ◌+◌, ◌<◌, []}
use Rattle.t1_char.specs.Stacks.{most_numbers}
use Rattle.t1_char.specs.Private.Cursors.{cursor_of}
use Rattle.t1_char.specs.Private.Taking.{IsTakingLines}
use Rattle.t1_char.proofs.taking.take_path.Given as goal

abbrev pub invariant-loop-one : goal.invariant-loop-one
invariant-loop-one l =
    IsTakingLines l.fn.passing l.room l.fn.ahead [] [] l.passed (cursor_of l.ahead) l.way × (l.passed + most_numbers < l.room)

abbrev pub decreases-loop-one : goal.decreases-loop-one
decreases-loop-one l = l.room - l.passed
