use Rattle.std.proofs.Common.{◌≡◌, ◌++◌, drop}
use Rattle.t1_seal.specs.Laws.Cipher.{encrypted}
use Rattle.t1_samples.proofs.cipher.encrypt.Given as goal

abbrev pub invariant-loop-byte : goal.invariant-loop-byte
invariant-loop-byte l = l.cipher.items ++ encrypted l.state.r (drop l.byte-index l.plain) ≡ encrypted l.fn.start.r l.fn.plain
