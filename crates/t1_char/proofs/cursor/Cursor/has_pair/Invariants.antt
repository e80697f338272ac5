use Rattle.std.proofs.Common.{◌≡◌, length}
use Rattle.t1_char.specs.Private.Cursors.{bytes_left}
use Rattle.t1_char.specs.Private.Seacs.{has_pair}
use Rattle.t1_char.proofs.cursor.Cursor.has_pair.Given as goal

abbrev pub invariant-loop-byte : goal.invariant-loop-byte
invariant-loop-byte l = has_pair 0 (bytes_left l.ahead) ≡ has_pair 0 (bytes_left l.self)

abbrev pub decreases-loop-byte : goal.decreases-loop-byte
decreases-loop-byte l = length (bytes_left l.ahead)
