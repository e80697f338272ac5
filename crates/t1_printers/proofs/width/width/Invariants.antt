use Rattle.std.proofs.Common.{◌≡◌, take}
use Rattle.t1_printers.proofs.width.width.Given as goal
use Rattle.t1_printers.specs.Widths.{width_of}

abbrev pub invariant-loop-byte : goal.invariant-loop-byte
invariant-loop-byte l = l.width ≡ width_of (take l.byte-index l.text)
