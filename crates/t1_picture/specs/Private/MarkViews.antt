-- Marks that faults are added to.
use Rattle.std.specs.Prelude.{◌≡◌, ℕ, ◌++◌, if◌then◌else◌, Option, None, Some, List, [], ◌∷◌}
use Rattle.t1_picture.specs.declared.marks.FaultMark.{FaultMark}
use Rattle.t1_picture.specs.declared.marks.Marks.{Marks}
use Rattle.t1_picture.specs.Marks.{mark_of_one, mark_with}
use Rattle.t1_picture.specs.Subpaths.{same_point}
use Rattle.t1_rules.specs.declared.step_rules.flex.Point.{Point}

-- The last mark after a fault, and those that are done with it.
abbrev pub last_with : Option FaultMark → Point → ℕ → FaultMark
last_with None point number = mark_of_one point number
last_with (Some mark) point number =
    if same_point mark.point point then mark_with mark number else mark_of_one point number

abbrev pub done_with : Option FaultMark → Point → List FaultMark
done_with None point = []
done_with (Some mark) point = if same_point mark.point point then [] else mark ∷ []

pub record IsMarked (old new : Marks) (point : Point) (number : ℕ) : Type 0 where
  pub last : new.last ≡ Some (last_with old.last point number)
  pub done : new.done.items ≡ old.done.items ++ done_with old.last point
