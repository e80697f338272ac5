-- Points outside FontBBox, which is in units of character space as the points are: Type 1 Font Format 1.1, chapter 2.
use Rattle.std.specs.Prelude.{ℤ, pos, ◌+ℤ◌, ◌-ℤ◌, ◌*ℤ◌, ◌&&◌, ◌||◌, not, int_le, if◌then◌else◌, Bool, false, Option, Some, None, List, [], ◌∷◌}
use Rattle.std.specs.List.{list_any}
use Rattle.std.specs.Ordering.{int_eq}
use Rattle.t1_outline.specs.declared.segment.Segment.{Segment}
use Rattle.t1_outline.specs.declared.segment.Segment.TheVariants.{Line, Curve}
use Rattle.t1_rules.specs.declared.step_rules.flex.Point.{Point}
use Rattle.t1_drawing.specs.declared.font_box.FontBox.{FontBox}
use Rattle.t1_drawing.specs.Segments.{Test}
use Rattle.t1_scan.specs.Numbers.{billion}

-- The numbers aren't all 0, and are a lower left corner and an upper right one.
abbrev pub is_box : ℤ → ℤ → ℤ → ℤ → Bool
is_box left bottom right top =
    not (int_eq left (pos 0) && int_eq bottom (pos 0) && int_eq right (pos 0) && int_eq top (pos 0))
    && (int_le left right && int_le bottom top)

-- The box that numbers in billionths say, if they are four.
abbrev pub font_box : List ℤ → Option FontBox
font_box (left ∷ bottom ∷ right ∷ top ∷ []) =
    if is_box left bottom right top then Some (record { left = left; bottom = bottom; right = right; top = top }) else None
font_box _ = None

-- A coordinate in units of 1/65536 is a unit or more below an edge, or above one. Edges are in billionths.
abbrev pub is_under : ℤ → ℤ → Bool
is_under edge z = int_le (z *ℤ pos billion) ((edge -ℤ pos billion) *ℤ pos 65536)

abbrev pub is_over : ℤ → ℤ → Bool
is_over edge z = int_le ((edge +ℤ pos billion) *ℤ pos 65536) (z *ℤ pos billion)

-- It is so far below the first edge, or above the second.
abbrev pub is_off : ℤ → ℤ → ℤ → Bool
is_off least greatest z = is_under least z || is_over greatest z

abbrev pub is_outside : FontBox → Point → Bool
is_outside box p = is_off box.left box.right p.x || is_off box.bottom box.top p.y

-- A line or a curve ends outside, by the box if there is one.
abbrev pub ends_outside_box : FontBox → Segment → Bool
ends_outside_box box (Line end) = is_outside box end
ends_outside_box box (Curve one two end) = is_outside box end
ends_outside_box box _ = false

abbrev pub ends_outside : Option FontBox → Segment → Bool
ends_outside None s = false
ends_outside (Some box) s = ends_outside_box box s

-- P04: the glyph's first line or curve that ends outside.
abbrev pub is_first_outside : Option FontBox → Test
is_first_outside box before s = ends_outside box s && not (list_any (ends_outside box) before)
