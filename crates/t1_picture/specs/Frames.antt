-- Where the drawing and the legend are, in a unit that is 1 or a power of two.
use Rattle.std.specs.Prelude.{ℕ, zero, suc, ◌+◌, ◌-◌, ◌%◌, ◌^◌, min, ℤ, pos, ◌+ℤ◌, ◌-ℤ◌, ◌*ℤ◌, int_le, Bool, if◌then◌else◌}
use Rattle.std.specs.Int.{int_max, int_shl, int_shr, int_wrapping_neg, w64}
use Rattle.t1_picture.specs.declared.bounds.Bounds.{Bounds}
use Rattle.t1_reason_texts.specs.declared.decimals.Exact.{Exact}
use Rattle.t1_picture.specs.declared.frame.Frame.{Frame}
use Rattle.t1_picture.specs.Bounds.{extent_of, kept}
use Rattle.t1_reason_texts.specs.Decimals.{coordinate_of}

-- The most units that aren't above a number, and the fewest that aren't below it.
abbrev pub count_below : ℤ → ℕ → ℤ
count_below number power = int_shr number (power % 64)

abbrev pub opposite : ℤ → ℤ
opposite number = int_wrapping_neg w64 number

abbrev pub count_above : ℤ → ℕ → ℤ
count_above number power = opposite (count_below (opposite number) power)

-- A drawing has 1,024 units at most from left to right and from bottom to top.
abbrev pub fits : ℤ → ℕ → Bool
fits extent power = int_le (count_above extent power) (pos 1024)

-- The unit is doubled, so often at most, until it does. It is 2 to this power, of 1/65536.
unfoldable pub power_from : ℕ → ℕ → ℤ → ℕ
power_from zero power extent = power
power_from (suc doublings) power extent =
    if fits extent power then power else power_from doublings (power + 1) extent

abbrev pub power_for : ℤ → ℕ
power_for extent = power_from 40 16 extent

-- The frame is 48 units around the drawing.
unfoldable pub edge_below : ℤ → ℕ → ℤ
edge_below number power = kept (count_below number power -ℤ pos 48)

unfoldable pub edge_above : ℤ → ℕ → ℤ
edge_above number power = kept (count_above number power +ℤ pos 48)

abbrev pub frame_with : ℕ → ℤ → ℤ → ℤ → ℤ → Frame
frame_with power left bottom right top = record { power = power; left = left; bottom = bottom; right = right; top = top }

abbrev pub frame_by : ℕ → Bounds → Frame
frame_by power b =
    frame_with power (edge_below b.left power) (edge_below b.bottom power) (edge_above b.right power) (edge_above b.top power)

abbrev pub frame_of : Bounds → Frame
frame_of b = frame_by (power_for (extent_of b)) b

-- So many units, and as they are written.
abbrev pub units_of : Frame → ℤ → ℤ
units_of frame count = kept (count *ℤ int_shl w64 (pos 1) (frame.power % 64))

-- So many units from an edge of the frame, towards the inside.
abbrev pub from_left : Frame → ℤ → ℤ
from_left frame count = units_of frame (kept (frame.left +ℤ count))

abbrev pub from_bottom : Frame → ℤ → ℤ
from_bottom frame count = units_of frame (kept (frame.bottom +ℤ count))

abbrev pub from_right : Frame → ℤ → ℤ
from_right frame count = units_of frame (kept (frame.right -ℤ count))

abbrev pub from_top : Frame → ℤ → ℤ
from_top frame count = units_of frame (kept (frame.top -ℤ count))

unfoldable pub length_of : Frame → ℤ → Exact
length_of frame count = coordinate_of (units_of frame count)

-- A count of lines or columns.
abbrev pub count_of : ℕ → ℤ
count_of n = pos (min n (2 ^ 63 - 1))

-- A letter of the legend is 10 units wide, and 16 are at both ends of its longest line.
unfoldable pub width_of : Frame → ℕ → ℤ
width_of frame columns =
    int_max (kept (frame.right -ℤ frame.left)) (kept (kept (count_of columns *ℤ pos 10) +ℤ pos 32))

-- A line is 24 units high, and 16 are below the last.
unfoldable pub height_of : Frame → ℕ → ℤ
height_of frame lines =
    kept (kept (frame.top -ℤ frame.bottom) +ℤ kept (kept (count_of lines *ℤ pos 24) +ℤ pos 16))

-- Where the legend begins, and where a line of it is, the first of which is 0: counted downwards.
unfoldable pub legend_left_of : Frame → Exact
legend_left_of frame = length_of frame (kept (frame.left +ℤ pos 16))

unfoldable pub legend_line_of : Frame → ℕ → Exact
legend_line_of frame place =
    length_of frame (kept (opposite frame.bottom +ℤ kept (kept (count_of place +ℤ pos 1) *ℤ pos 24)))
