-- How far a drawing reaches.
use Rattle.std.specs.Prelude.{ℤ, pos, ◌-ℤ◌}
use Rattle.std.specs.Int.{int_max, int_min, saturate_signed, w64}
use Rattle.t1_picture.specs.declared.bounds.Bounds.{Bounds}
use Rattle.t1_rules.specs.declared.step_rules.flex.Point.{Point}

-- A number of 64 bits: the nearest one, where it is past them.
abbrev pub kept : ℤ → ℤ
kept z = saturate_signed w64 z

-- The origin alone.
abbrev pub origin_alone : Bounds
origin_alone = record { left = pos 0; bottom = pos 0; right = pos 0; top = pos 0 }

-- With a place from left to right, a height, and a point.
abbrev pub with_x : Bounds → ℤ → Bounds
with_x b x = record { left = int_min b.left x; bottom = b.bottom; right = int_max b.right x; top = b.top }

abbrev pub with_y : Bounds → ℤ → Bounds
with_y b y = record { left = b.left; bottom = int_min b.bottom y; right = b.right; top = int_max b.top y }

abbrev pub with_point : Bounds → Point → Bounds
with_point b p = with_y (with_x b p.x) p.y

-- The greater of width and height.
abbrev pub extent_of : Bounds → ℤ
extent_of b = int_max (kept (b.right -ℤ b.left)) (kept (b.top -ℤ b.bottom))
