use Rattle.std.proofs.Common.{ℕ, Bool, List}
use Rattle.t1_names.proofs.GlobLemmas.{AreHalves}
use Rattle.t1_names.specs.GlobValues.{piece_of}
use Rattle.t1_names.specs.Globs.{IsRow, fits, one_then}
use Rattle.t1_names.proofs.globs.match_one.Given as goal

abbrev pub invariant-loop-at : goal.invariant-loop-at
invariant-loop-at l =
    (passes : List ℕ → Bool) → IsRow passes l.name l.fn.row → AreHalves (one_then (fits (piece_of l.piece)) passes) passes l.name l.row l.at
