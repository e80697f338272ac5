use Rattle.std.proofs.Common.{◌-◌, take}
use Rattle.t1_char.specs.Stacks.{most_numbers}
use Rattle.t1_char.specs.Private.Taking.{IsTaking}
use Rattle.t1_char.proofs.taking.take_numbers.Given as goal

abbrev pub invariant-loop-first : goal.invariant-loop-first
invariant-loop-first l = IsTaking l.fn.ahead (take l.fn.len l.fn.cells) l.cells l.len l.ahead

abbrev pub decreases-loop-first : goal.decreases-loop-first
decreases-loop-first l = most_numbers - l.len
