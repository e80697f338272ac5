use Rattle.t1_seal.proofs.Digits.{HasRead}
use Rattle.t1_seal.proofs.eexec.open_hexadecimal.Given as goal

abbrev pub invariant-loop-byte : goal.invariant-loop-byte
invariant-loop-byte l = HasRead l.section l.byte-index l.high l.opening
