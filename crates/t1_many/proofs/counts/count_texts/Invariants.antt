use Rattle.std.proofs.Common.{◌≡◌, List, ℕ, take}
use Rattle.t1_many.proofs.counts.count_texts.Given as goal
use Rattle.t1_many.specs.Counts.{kind_counts, text_counts}
use Rattle.t1_many.specs.KnownFaults.{counts_of}
use Rattle.t1_many.specs.Readings.{counts_in}

abbrev pub invariant-loop-place : goal.invariant-loop-place
invariant-loop-place l =
    (kinds : List (List ℕ)) → text_counts (kind_counts l.found.entries) ≡ counts_of kinds
    → counts_in l.counts.entries ≡ take l.place (counts_of kinds)
