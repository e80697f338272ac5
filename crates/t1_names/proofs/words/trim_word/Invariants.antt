use Rattle.std.proofs.Common.{length}
use denote.Text.{Utf8}
use denote.Shadow.{shadow}
use Rattle.t1_names.proofs.WordLemmas.{GoesOn}
use Rattle.t1_names.proofs.words.trim_word.Given as goal

abbrev pub invariant-loop-next : goal.invariant-loop-next
invariant-loop-next g l = shadow (Utf8 l.trimmed) × GoesOn g.F.FileSystem.asks.Leads l.fn.files l.files l.fn.word l.trimmed

abbrev pub decreases-loop-next : goal.decreases-loop-next
decreases-loop-next g l = length l.trimmed
