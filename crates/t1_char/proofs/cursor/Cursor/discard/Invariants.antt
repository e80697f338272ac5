use Rattle.std.proofs.Common.{◌≡◌, drop}
use Rattle.t1_char.specs.Private.Cursors.{bytes_left}
use Rattle.t1_char.proofs.cursor.Cursor.discard.Given as goal

abbrev pub invariant-loop-taken : goal.invariant-loop-taken
invariant-loop-taken l = (bytes_left l.self ≡ drop l._taken (bytes_left l.fn.self)) × (l.self.short ≡ l.fn.self.short)
