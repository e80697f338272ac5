-- Stems that nothing touches, H08: hints tell which strokes of a glyph are to be kept even, so an edge of each stem lies where something is
-- drawn. Type 1 Font Format 1.1, chapter 5. Ten units, and the first 96 stems of a direction, are this project's own.
use Rattle.std.specs.Prelude.{ℕ, ℤ, ◌+◌, ◌-◌, ◌+ℤ◌, ◌-ℤ◌, ◌*◌, unsigned_abs, ◌&&◌, ◌||◌, not, int_le, nat_le, if◌then◌else◌, Bool, true, false, Option, Some, None, List, [], ◌∷◌, ◌++◌, count_by, find, length, map, option_map}
use Rattle.std.specs.Int.{int_max, int_min}
use Rattle.std.specs.List.{list_any}
use Rattle.std.specs.Option.{option_or}
use Rattle.std.specs.Ordering.{int_eq}
use Rattle.t1_char.specs.Numbers.{unit}
use Rattle.t1_char.specs.Since.{last_of}
use Rattle.t1_char.specs.Steps.{StepView}
use Rattle.t1_drawing.specs.declared.direction.Direction.{Direction}
use Rattle.t1_drawing.specs.declared.direction.Direction.TheVariants.{Across, Upright}
use Rattle.t1_drawing.specs.declared.touching.Extent.{Extent}
use Rattle.t1_drawing.specs.declared.touching.UntouchedStem.{UntouchedStem}
use Rattle.t1_drawing.specs.Strokes.{Stroke, strokes_after}
use Rattle.t1_outline.specs.declared.segment.Segment.{Segment}
use Rattle.t1_outline.specs.declared.segment.Segment.TheVariants.{Line, Curve}
use Rattle.t1_rules.specs.declared.step_rules.flex.Point.{Point}
use Rattle.t1_rules.specs.declared.step_rules.stems.Stem.{Stem}
use Rattle.t1_rules.specs.StepRules.Flex.{set_by}
use Rattle.t1_rules.specs.StepRules.Stems.{lies_across, most_stems, stands_upright, stems_in}
use Rattle.t1_rules.specs.StepRules.Tokens.{sets_width}

-- Stems that lie across the glyph bound its y, upright ones its x.
abbrev pub coordinate : Direction → Point → ℤ
coordinate Across p = p.y
coordinate Upright p = p.x

abbrev pub stems_set : Direction → StepView → List Stem
stems_set Across step = stems_in lies_across step
stems_set Upright step = stems_in stands_upright step

-- In a coordinate: where a line or a curve begins and ends, and the least and the greatest of all its points.
abbrev pub line_extent : ℤ → ℤ → Extent
line_extent start end = record { start = start; end = end; least = int_min start end; greatest = int_max start end }

abbrev pub widened : Extent → ℤ → Extent
widened e z = record e { least = int_min e.least z; greatest = int_max e.greatest z }

abbrev pub curve_extent : ℤ → ℤ → ℤ → ℤ → Extent
curve_extent start one two end = widened (widened (line_extent start end) one) two

abbrev pub extent_from : (Point → ℤ) → Point → Segment → Option Extent
extent_from place start (Line end) = Some (line_extent (place start) (place end))
extent_from place start (Curve one two end) = Some (curve_extent (place start) (place one) (place two) (place end))
extent_from place start _ = None

abbrev pub extent_by : (Point → ℤ) → Option Point → Segment → Option Extent
extent_by place None s = None
extent_by place (Some start) s = extent_from place start s

abbrev pub extent : Direction → Stroke → Option Extent
extent direction stroke = extent_by (coordinate direction) stroke.start stroke.segment

-- Ten units: a rasteriser moves what lies a few units off a stem with it.
abbrev pub near_by : ℕ
near_by = 10 * unit

abbrev pub is_near : ℤ → ℤ → Bool
is_near one other = nat_le (unsigned_abs (one -ℤ other)) near_by

abbrev pub is_between : ℤ → ℤ → ℤ → Bool
is_between low z high = int_le low z && int_le z high

-- An end of the line or the curve is near the edge, or the edge lies where the curve may have its extreme, between an end and its points.
abbrev pub touches_edge : Extent → ℤ → Bool
touches_edge e edge =
    (is_near e.start edge || is_near e.end edge)
    || (is_between e.least edge (int_min e.start e.end) || is_between (int_max e.start e.end) edge e.greatest)

abbrev pub touches_one : Option Extent → ℤ → ℤ → Bool
touches_one None low high = false
touches_one (Some e) low high = touches_edge e low || touches_edge e high

abbrev pub touches : Direction → ℤ → ℤ → Stroke → Bool
touches direction low high stroke = touches_one (extent direction stroke) low high

-- Stems count from the sidebearing point that the last hsbw or sbw set.
abbrev pub setting_width : StepView → Bool
setting_width step = sets_width step.token

abbrev pub sidebearing_point : List StepView → Point
sidebearing_point before = set_by (last_of setting_width before)

-- A stem by its edges, and what is drawn after it was set.
pub record SetStem : Type 0 where
  pub low : ℤ
  pub high : ℤ
  pub later : List Stroke

abbrev pub low_edge : ℤ → Stem → ℤ
low_edge start stem = int_min (start +ℤ stem.position) ((start +ℤ stem.position) +ℤ stem.width)

abbrev pub high_edge : ℤ → Stem → ℤ
high_edge start stem = int_max (start +ℤ stem.position) ((start +ℤ stem.position) +ℤ stem.width)

abbrev pub set_from : ℤ → List Stroke → Stem → SetStem
set_from start later stem = record { low = low_edge start stem; high = high_edge start stem; later = later }

abbrev pub set_at : Direction → List StepView → StepView → List StepView → List SetStem
set_at direction before step steps =
    map (set_from (coordinate direction (sidebearing_point before)) (strokes_after (before ++ step ∷ []) steps)) (stems_set direction step)

-- All that steps set, in order.
abbrev pub set_after : Direction → List StepView → List StepView → List SetStem
set_after direction before [] = []
set_after direction before (step ∷ steps) = set_at direction before step steps ++ set_after direction (before ++ step ∷ []) steps

-- The stems of a glyph: each pair of edges once, the first of them, and of these the first 96.
abbrev pub has_edges_of : SetStem → SetStem → Bool
has_edges_of one other = int_eq one.low other.low && int_eq one.high other.high

abbrev pub with_stem : List SetStem → SetStem → List SetStem
with_stem stems stem =
    if list_any (has_edges_of stem) stems || nat_le most_stems (length stems) then stems else stems ++ stem ∷ []

abbrev pub with_stems : List SetStem → List SetStem → List SetStem
with_stems stems [] = stems
with_stems stems (more ∷ others) = with_stems (with_stem stems more) others

abbrev pub stems_of_glyph : Direction → List StepView → List SetStem
stems_of_glyph direction steps = with_stems [] (set_after direction [] steps)

abbrev pub is_touched : Direction → SetStem → Bool
is_touched direction stem = list_any (touches direction stem.low stem.high) stem.later

abbrev pub has_untouched : Direction → List StepView → Bool
has_untouched direction steps = list_any (λ stem. not (is_touched direction stem)) (stems_of_glyph direction steps)

-- The stems that nothing touches, in order: those that lie across the glyph first. Then the first of them, and how many more there are.
abbrev pub is_untouched : Direction → SetStem → Bool
is_untouched direction stem = not (is_touched direction stem)

abbrev pub first_in : Direction → List StepView → Option SetStem
first_in direction steps = find (is_untouched direction) (stems_of_glyph direction steps)

abbrev pub count_in : Direction → List StepView → ℕ
count_in direction steps = count_by (is_untouched direction) (stems_of_glyph direction steps)

abbrev pub untouched_of : Direction → ℕ → SetStem → UntouchedStem
untouched_of direction count stem = record { direction = direction; low = stem.low; high = stem.high; more = count - 1 }

abbrev pub first_untouched : List StepView → Option UntouchedStem
first_untouched steps =
    let count = count_in Across steps + count_in Upright steps in
    option_or (option_map (untouched_of Across count) (first_in Across steps)) (option_map (untouched_of Upright count) (first_in Upright steps))

-- A line or a curve.
abbrev pub is_stroke_by : Segment → Bool
is_stroke_by (Line end) = true
is_stroke_by (Curve one two end) = true
is_stroke_by _ = false

abbrev pub is_stroke : Stroke → Bool
is_stroke stroke = is_stroke_by stroke.segment

-- Something is drawn, and a stem isn't touched: asked at the end of a glyph.
abbrev pub leaves_untouched : List StepView → Bool
leaves_untouched steps =
    list_any is_stroke (strokes_after [] steps) && (has_untouched Across steps || has_untouched Upright steps)
