use Rattle.std.proofs.Common.{◌≡◌, drop}
use Rattle.t1_words.specs.Pairs.{pairs, is_paired}
use Rattle.t1_words.proofs.pairs.is_paired.Given as goal

abbrev pub invariant-loop-at : goal.invariant-loop-at
invariant-loop-at l = pairs l.skip l.brackets.items (drop l.at l.text) ≡ is_paired l.text
