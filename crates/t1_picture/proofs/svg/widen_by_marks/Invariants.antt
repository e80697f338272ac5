use Rattle.std.proofs.Common.{◌≡◌, drop}
use Rattle.t1_picture.specs.Pictures.{with_marks}
use Rattle.t1_picture.proofs.svg.widen_by_marks.Given as goal

abbrev pub invariant-loop-mark : goal.invariant-loop-mark
invariant-loop-mark l = with_marks l.bounds (drop l.mark-index l.marks) ≡ with_marks l.fn.bounds l.marks
