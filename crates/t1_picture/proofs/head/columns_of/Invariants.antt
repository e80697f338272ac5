use Rattle.std.proofs.Common.{◌≡◌, drop}
use Rattle.t1_picture.specs.Drawings.{texts_of}
use Rattle.t1_picture.specs.Pictures.{columns_from}
use Rattle.t1_picture.proofs.head.columns_of.Given as goal

abbrev pub invariant-loop-line : goal.invariant-loop-line
invariant-loop-line l = columns_from l.most (texts_of (drop l.line-index l.lines)) ≡ columns_from 0 (texts_of l.lines)
