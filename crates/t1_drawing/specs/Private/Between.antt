-- Curves between their ends.
use Rattle.std.specs.Prelude.{ℤ, ◌&&◌, Bool}
use Rattle.std.specs.Int.{int_max, int_min}
use Rattle.t1_drawing.specs.Touching.{is_between}

-- The coordinates of both control points are between those of the ends.
abbrev pub are_between : ℤ → ℤ → ℤ → ℤ → Bool
are_between start one two end =
    is_between (int_min start end) one (int_max start end) && is_between (int_min start end) two (int_max start end)
