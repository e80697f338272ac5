use Rattle.std.proofs.Common.{◌≡◌, length}
use Rattle.t1_seal.specs.Eexec.{section_of}
use Rattle.t1_seal.proofs.eexec.without_leading.Given as goal

abbrev pub invariant-loop-section : goal.invariant-loop-section
invariant-loop-section l = section_of l.section ≡ section_of l.fn.bytes

abbrev pub decreases-loop-section : goal.decreases-loop-section
decreases-loop-section l = length l.section
