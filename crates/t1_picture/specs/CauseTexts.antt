-- What reasons name, as a text of SVG 1.1: red bands, boxes, lines and marks, and the numbers of edges.
use Rattle.std.specs.Prelude.{ℕ, ℤ, pos, ◌+ℤ◌, ◌-ℤ◌, ◌*ℤ◌, if◌then◌else◌, int_div, Option, None, Some, List, [], ◌∷◌, ◌++◌, codes}
use Rattle.std.specs.List.{flat_map, list_any}
use Rattle.std.specs.Ordering.{int_eq}
use Rattle.t1_char.specs.Numbers.{unit}
use Rattle.t1_drawing.specs.declared.direction.Direction.{Direction}
use Rattle.t1_drawing.specs.declared.direction.Direction.TheVariants.{Across, Upright}
use Rattle.t1_drawing.specs.declared.font_box.FontBox.{FontBox}
use Rattle.t1_outline.specs.Laws.Points.{end_of}
use Rattle.t1_picture.specs.declared.bounds.Bounds.{Bounds}
use Rattle.t1_picture.specs.declared.causes.Cause.{Cause}
use Rattle.t1_picture.specs.declared.causes.Cause.TheVariants.{Coordinate, Ends, Miss, Outside, Stem, Stroke, Untouched, Zone}
use Rattle.t1_picture.specs.declared.causes.NamedStem.{NamedStem}
use Rattle.t1_picture.specs.declared.causes.Role.{Role}
use Rattle.t1_picture.specs.declared.causes.Role.TheVariants.{Other, Own}
use Rattle.t1_picture.specs.declared.frame.Frame.{Frame}
use Rattle.t1_picture.specs.Arrows.{arrows_if}
use Rattle.t1_picture.specs.Bands.{across_text, band_text, line_text, with_band}
use Rattle.t1_picture.specs.Bounds.{kept, with_point, with_y}
use Rattle.t1_picture.specs.Causes.{is_turns}
use Rattle.t1_picture.specs.Frames.{from_bottom, from_left, from_right, from_top, length_of, opposite, units_of}
use Rattle.t1_picture.specs.Layers.{mark_text, stretch_text, thick_text}
use Rattle.t1_picture.specs.Starts.{marks_start, numbers_start, path_start}
use Rattle.t1_picture.specs.Subpaths.{begun_at}
use Rattle.t1_reason_texts.specs.declared.decimals.Exact.{Exact}
use Rattle.t1_reason_texts.specs.Decimals.{coordinate_of, exact_text, value_of}
use Rattle.t1_rules.specs.declared.step_rules.flex.Point.{Point}
use Rattle.t1_rules.specs.StepRules.Flex.{at}

-- ---- the frame

-- The whole part of a number of a dictionary, which counts 10^-9, as a coordinate: the frame has room for the rest.
abbrev pub near_coordinate : ℤ → ℤ
near_coordinate z = kept (int_div z (pos 1000000000) *ℤ pos unit)

-- The drawing reaches as far as what is named, but for FontBBox. A component, a line and a curve are drawn anyway.
abbrev pub with_cause : Bounds → Cause → Bounds
with_cause b (Stem stem) = with_band b stem.band
with_cause b (Untouched stem) = with_band b stem.band
with_cause b (Outside point box) = with_point b point
with_cause b (Zone edges) = with_y (with_y b (near_coordinate edges.lower)) (near_coordinate edges.upper)
with_cause b (Miss named pen) = with_point (with_point b named) pen
with_cause b (Ends start pen) = with_point (with_point b start) pen
with_cause b _ = b

abbrev pub with_causes : Bounds → List Cause → Bounds
with_causes b [] = b
with_causes b (cause ∷ causes) = with_causes (with_cause b cause) causes

-- ---- bands, lines and marks, y upwards

-- The form of a point that is named.
unfoldable pub cross_text : Exact → List ℕ
cross_text size =
    codes "<path id=\"cross\" d=\"M-" ++ (exact_text size ++ (codes " 0H" ++ (exact_text size
    ++ (codes "M0 -" ++ (exact_text size ++ (codes "V" ++ (exact_text size ++ codes "\"/>\n")))))))

-- A rectangle that isn't filled, by its corners from the lower left one on, and FontBBox as such a one.
unfoldable pub lower_corners : Exact → Exact → Exact → List ℕ
lower_corners left low right =
    codes "<polygon fill=\"none\" points=\"" ++ (exact_text left ++ (codes " " ++ (exact_text low
    ++ (codes " " ++ (exact_text right ++ (codes " " ++ exact_text low))))))

unfoldable pub upper_corners : Exact → Exact → Exact → List ℕ
upper_corners left right high =
    codes " " ++ (exact_text right ++ (codes " " ++ (exact_text high
    ++ (codes " " ++ (exact_text left ++ (codes " " ++ (exact_text high ++ codes "\"/>\n")))))))

abbrev pub rectangle_text : Exact → Exact → Exact → Exact → List ℕ
rectangle_text left low right high = lower_corners left low right ++ upper_corners left right high

abbrev pub font_box_text : FontBox → List ℕ
font_box_text box = rectangle_text (value_of box.left) (value_of box.bottom) (value_of box.right) (value_of box.top)

-- Stems and zones, as bands; FontBBox; and a coordinate, as a line.
abbrev pub cause_band : Frame → Cause → List ℕ
cause_band frame (Stem stem) = band_text frame stem.band
cause_band frame (Untouched stem) = band_text frame stem.band
cause_band frame (Zone edges) = across_text frame (value_of edges.lower) (value_of edges.upper)
cause_band frame (Outside point box) = font_box_text box
cause_band frame (Coordinate direction place) = line_text direction frame place
cause_band frame _ = []

unfoldable pub causes_start : List ℕ
causes_start =
    codes "<g id=\"causes\" clip-path=\"url(#frame)\" fill=\"red\" fill-opacity=\"0.25\" stroke=\"red\">\n"

unfoldable pub causes_part : Frame → List Cause → List ℕ
causes_part frame causes = causes_start ++ (flat_map (cause_band frame) causes ++ codes "</g>\n")

-- The line that leads to a point, if there is one.
abbrev pub before_text : Option Point → Point → List ℕ
before_text None start = []
before_text (Some line_start) start = stretch_text line_start start

-- From the pen to the point that the end of a flex names; a line or a curve, after the line right before it.
abbrev pub cause_line : Cause → List ℕ
cause_line (Miss named pen) = stretch_text pen named
cause_line (Stroke before start segment) = before_text before start ++ thick_text (begun_at start) segment
cause_line _ = []

-- These lines, and then the outlines of components.
unfoldable pub cause_lines_part : Frame → List Cause → List ℕ → List ℕ
cause_lines_part frame causes components =
    path_start (codes "cause-lines") (codes "red") (length_of frame (pos 2)) ++ (flat_map cause_line causes ++ (components ++ codes "\"/>\n"))

-- Two ends, of which the second may not be there.
abbrev pub end_text : Option Point → List ℕ
end_text None = []
end_text (Some p) = mark_text (codes "end") p

abbrev pub ends_text : Point → Option Point → List ℕ
ends_text start end = mark_text (codes "end") start ++ end_text end

-- The point that the end of a flex names, the two ends of an open path, a point outside FontBBox, and the two ends of a line or a curve.
abbrev pub cause_points : Cause → List ℕ
cause_points (Miss named pen) = mark_text (codes "cross") named
cause_points (Ends start pen) = ends_text start (Some pen)
cause_points (Outside point box) = mark_text (codes "cross") point
cause_points (Stroke before start segment) = ends_text start (end_of segment)
cause_points _ = []

-- These, and the arrows of subpaths where a reason names which way they run.
unfoldable pub cause_points_part : Frame → List Cause → List ℕ → List ℕ
cause_points_part frame causes arrows =
    marks_start (codes "cause-points") (length_of frame (pos 2))
    ++ (flat_map cause_points causes ++ (arrows_if (list_any is_turns causes) arrows ++ codes "</g>\n"))

-- ---- the numbers of edges, y downwards

-- The numbers of a step's own stems are at the left or at the bottom of the frame, those of the other one at the right or at the
-- top.
abbrev pub column_of : Role → Frame → ℤ
column_of Own frame = from_left frame (pos 4)
column_of Other frame = from_right frame (pos 44)

abbrev pub first_row : Role → Frame → ℤ
first_row Own frame = from_bottom frame (pos 4)
first_row Other frame = from_top frame (pos 28)

abbrev pub second_row : Role → Frame → ℤ
second_row Own frame = from_bottom frame (pos 18)
second_row Other frame = from_top frame (pos 14)

-- Where the base line of a number begins: below the lower edge and above the upper one, or beside the left and the right one, each
-- in a row of its own.
abbrev pub lower_place : Direction → Frame → NamedStem → Point
lower_place Across frame stem = at (column_of stem.role frame) (kept (stem.band.lower -ℤ units_of frame (pos 12)))
lower_place Upright frame stem = at (kept (stem.band.lower +ℤ units_of frame (pos 2))) (first_row stem.role frame)

abbrev pub upper_place : Direction → Frame → NamedStem → Point
upper_place Across frame stem = at (column_of stem.role frame) (kept (stem.band.upper +ℤ units_of frame (pos 2)))
upper_place Upright frame stem = at (kept (stem.band.upper +ℤ units_of frame (pos 2))) (second_row stem.role frame)

unfoldable pub edge_text : Exact → Exact → Exact → List ℕ
edge_text x y number =
    codes "<text x=\"" ++ (exact_text x ++ (codes "\" y=\"" ++ (exact_text y
    ++ (codes "\">" ++ (exact_text number ++ codes "</text>\n")))))

abbrev pub edge_at : Point → ℤ → List ℕ
edge_at place number = edge_text (coordinate_of place.x) (coordinate_of (opposite place.y)) (coordinate_of number)

-- Of a stem that is drawn as one edge there is one number.
abbrev pub lower_number : Frame → NamedStem → List ℕ
lower_number frame stem =
    if int_eq stem.lower stem.upper then [] else edge_at (lower_place stem.band.direction frame stem) stem.lower

abbrev pub upper_number : Frame → NamedStem → List ℕ
upper_number frame stem = edge_at (upper_place stem.band.direction frame stem) stem.upper

abbrev pub edge_numbers : Frame → NamedStem → List ℕ
edge_numbers frame stem = lower_number frame stem ++ upper_number frame stem

abbrev pub cause_numbers : Frame → Cause → List ℕ
cause_numbers frame (Stem stem) = edge_numbers frame stem
cause_numbers frame (Untouched stem) = edge_numbers frame stem
cause_numbers frame _ = []

unfoldable pub edges_part : Frame → List Cause → List ℕ
edges_part frame causes = numbers_start (codes "edges") (length_of frame (pos 12)) ++ (flat_map (cause_numbers frame) causes ++ codes "</g>\n")
