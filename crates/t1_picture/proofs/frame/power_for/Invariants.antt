use Rattle.std.proofs.Common.{◌≡◌, ◌+◌, ◌-◌}
use Rattle.t1_picture.specs.Frames.{power_for, power_from}
use Rattle.t1_picture.proofs.frame.power_for.Given as goal

abbrev pub invariant-loop-doublings : goal.invariant-loop-doublings
invariant-loop-doublings l = power_from (40 - l.doublings) (16 + l.doublings) l.extent ≡ power_for l.fn.extent
