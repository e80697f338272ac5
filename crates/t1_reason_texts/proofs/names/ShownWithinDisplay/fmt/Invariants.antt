use Rattle.std.proofs.Common.{◌≡◌, ◌++◌, List, ℕ, drop}
use Rattle.std.specs.Fmt.{HasWritten, IsPlainFormatter}
use Rattle.t1_reason_texts.specs.Names.{shown_within}
use Rattle.t1_reason_texts.proofs.names.ShownWithinDisplay.fmt.Given as goal

abbrev pub invariant-loop-byte : goal.invariant-loop-byte
invariant-loop-byte g l =
    IsPlainFormatter l.fn.f → (done : List ℕ) × HasWritten g.W.Write.write_str_gives l.fn.f done l.f
    × (done ++ shown_within l.room (drop l.byte-index l.self.name.now) ≡ shown_within l.fn.self.room l.fn.self.name.now)
