use Rattle.std.proofs.Common.{◌≡◌, ◌++◌, drop, take}
use Rattle.t1_many.proofs.choice.letters_of.Given as goal
use Rattle.t1_many.specs.Choice.{letters_of}

abbrev pub invariant-loop-at : goal.invariant-loop-at
invariant-loop-at l = letters_of l.code ≡ take l.at l.code ++ letters_of (drop l.at l.code)
