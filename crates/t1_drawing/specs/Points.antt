-- Points, and ways from one to another.
use Rattle.std.specs.Prelude.{ℤ, pos, ◌+ℤ◌, ◌-ℤ◌, ◌*ℤ◌, ◌&&◌, Bool}
use Rattle.std.specs.Ordering.{int_eq}
use Rattle.t1_rules.specs.declared.step_rules.flex.Point.{Point}
use Rattle.t1_rules.specs.StepRules.Flex.{at}

abbrev pub is_same : Point → Point → Bool
is_same one other = int_eq one.x other.x && int_eq one.y other.y

-- The way from one point to another: where it leads from the origin.
abbrev pub way : Point → Point → Point
way start end = at (end.x -ℤ start.x) (end.y -ℤ start.y)

-- The cross product: above 0 where the second way leads to the left of the first, 0 where both are on one straight line.
unfoldable pub cross : Point → Point → ℤ
cross one other = (one.x *ℤ other.y) -ℤ (one.y *ℤ other.x)

-- The dot product: above 0 where both ways lead to the same side, below 0 where they lead to opposite sides.
unfoldable pub dot : Point → Point → ℤ
dot one other = (one.x *ℤ other.x) +ℤ (one.y *ℤ other.y)

-- A point is on the straight line through two others.
abbrev pub is_on_line : Point → Point → Point → Bool
is_on_line start end point = int_eq (cross (way start end) (way start point)) (pos 0)
