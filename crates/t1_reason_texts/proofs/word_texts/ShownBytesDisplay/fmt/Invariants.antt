use Rattle.std.proofs.Common.{◌≡◌, ◌++◌, List, ℕ, drop}
use Rattle.std.specs.Fmt.{HasWritten, IsPlainFormatter}
use Rattle.t1_reason_texts.specs.WordTexts.{shown_bytes}
use Rattle.t1_reason_texts.proofs.word_texts.ShownBytesDisplay.fmt.Given as goal

abbrev pub invariant-loop-byte : goal.invariant-loop-byte
invariant-loop-byte g l =
    IsPlainFormatter l.fn.f → (done : List ℕ) × HasWritten g.W.Write.write_str_gives l.fn.f done l.f
    × (done ++ shown_bytes l.left (drop l.byte-index l.self.word.now) ≡ shown_bytes l.fn.self.left l.fn.self.word.now)
