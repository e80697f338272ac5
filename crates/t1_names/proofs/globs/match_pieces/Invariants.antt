use Rattle.std.proofs.Common.{◌≤◌, drop, length}
use Rattle.t1_names.specs.GlobValues.{pieces_of}
use Rattle.t1_names.specs.Globs.{IsRow, matches}
use Rattle.t1_names.proofs.globs.match_pieces.Given as goal

abbrev pub invariant-loop-left : goal.invariant-loop-left
invariant-loop-left l = record {
  within : l.left ≤ length l.pieces;
  row : IsRow (matches (pieces_of (drop l.left l.pieces))) l.name l.row;
}

abbrev pub decreases-loop-left : goal.decreases-loop-left
decreases-loop-left l = l.left
