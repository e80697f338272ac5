-- Where points are outside a box, in units of 1/65536. An edge is so many whole units, and so many billionths more.
use Rattle.std.specs.Prelude.{pos, ℤ, ◌*ℤ◌, ◌+ℤ◌, ◌-ℤ◌}
use Rattle.std.specs.Int.{int_div_euclid, int_rem_euclid}
use Rattle.t1_drawing.specs.declared.font_box.FontBox.{FontBox}
use Rattle.t1_drawing.specs.declared.font_box.Limits.{Limits}
use Rattle.t1_scan.specs.Numbers.{billion}

-- So many units and billionths of 1/65536, rounded down.
abbrev pub place_at : ℤ → ℤ → ℤ
place_at units parts = units *ℤ pos 65536 +ℤ int_div_euclid parts (pos billion)

abbrev pub rest : ℤ → ℤ
rest edge = int_rem_euclid edge (pos billion) *ℤ pos 65536

-- The last coordinate that is a unit or more below an edge, and the first that is so far above it.
abbrev pub last_under : ℤ → ℤ
last_under edge = place_at (int_div_euclid edge (pos billion) -ℤ pos 1) (rest edge)

abbrev pub first_over : ℤ → ℤ
first_over edge = place_at (int_div_euclid edge (pos billion) +ℤ pos 1) (rest edge +ℤ pos 999999999)

abbrev pub limits_of : FontBox → Limits
limits_of box = record {
  left = last_under box.left;
  bottom = last_under box.bottom;
  right = first_over box.right;
  top = first_over box.top;
}
