use Rattle.std.proofs.Common.{◌-◌, ◌++◌, take, length}
use Rattle.t1_seal.specs.Private.Opening.{HasTaken, IsFor}
use Rattle.t1_seal.proofs.eexec.open_binary.Given as goal

abbrev pub invariant-loop-byte : goal.invariant-loop-byte
invariant-loop-byte l = record {
  taken : HasTaken l.text (take l.byte-index l.random);
  room : IsFor (length l.fn.section) l.text;
}

abbrev pub invariant-loop-byte-2 : goal.invariant-loop-byte-2
invariant-loop-byte-2 l = record {
  taken : HasTaken l.text (take (length l.fn.section - length l.rest) l.fn.section ++ take l.byte-index l.rest);
  room : IsFor (length l.fn.section) l.text;
}
