use Rattle.std.proofs.Common.{◌≤◌, ℕ, Bool, List, length}
use Rattle.t1_names.proofs.GlobLemmas.{AreHalves}
use Rattle.t1_names.specs.GlobValues.{piece_of}
use Rattle.t1_names.specs.Globs.{IsRow, fits, any_then}
use Rattle.t1_names.proofs.globs.match_some.Given as goal

abbrev pub invariant-loop-at : goal.invariant-loop-at
invariant-loop-at l = record {
  within : l.at ≤ length l.name;
  halves : (passes : List ℕ → Bool) → IsRow passes l.name l.fn.row → AreHalves passes (any_then (fits (piece_of l.piece)) passes) l.name l.row l.at;
}

abbrev pub decreases-loop-at : goal.decreases-loop-at
decreases-loop-at l = l.at
