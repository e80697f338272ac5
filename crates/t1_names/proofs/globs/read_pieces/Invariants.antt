use Rattle.std.proofs.Common.{◌++◌, List, length}
use Rattle.t1_names.specs.GlobValues.{pieces_of}
use Rattle.t1_names.specs.Globs.{AreRead, Piece}
use Rattle.t1_names.proofs.globs.read_pieces.Given as goal

abbrev pub invariant-loop-first : goal.invariant-loop-first
invariant-loop-first l = (more : List Piece) → AreRead l.rest more → AreRead l.fn.text (pieces_of l.pieces.items ++ more)

abbrev pub decreases-loop-first : goal.decreases-loop-first
decreases-loop-first l = length l.rest
