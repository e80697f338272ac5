-- What a watcher of stems keeps, with a segment more and with stems more.
use Rattle.std.specs.Prelude.{◌≡◌, ◌-◌, ◌+ℤ◌, ◌-ℤ◌, pos, FitsSigned, ℕ, ℤ, ◌&&◌, ◌||◌, nat_le, not, if◌then◌else◌, Bool, true, false, Option, List, [], ◌∷◌, ◌++◌, length, map}
use Rattle.std.specs.Int.{int_max, int_min, saturate_signed, w64}
use Rattle.std.specs.List.{list_any}
use Rattle.std.specs.Ordering.{int_eq}
use Rattle.t1_char.specs.Steps.{StepView}
use Rattle.t1_drawing.specs.declared.direction.Direction.{Direction}
use Rattle.t1_drawing.specs.declared.direction.Direction.TheVariants.{Across, Upright}
use Rattle.t1_drawing.specs.declared.touching.Extent.{Extent}
use Rattle.t1_drawing.specs.declared.touching.Reach.{Reach}
use Rattle.t1_drawing.specs.declared.touching.Sidebearing.{Sidebearing}
use Rattle.t1_drawing.specs.declared.touching.TouchWatcher.{TouchWatcher}
use Rattle.t1_drawing.specs.declared.touching.UntouchedStem.{UntouchedStem}
use Rattle.t1_drawing.specs.declared.touching.WatchedStem.{WatchedStem}
use Rattle.t1_drawing.specs.Touching.{SetStem, coordinate, extent_by, high_edge, is_stroke_by, is_touched, low_edge, near_by, stems_set, touches_one}
use Rattle.t1_outline.specs.declared.segment.Segment.{Segment}
use Rattle.t1_outline.specs.Laws.Points.{end_of}
use Rattle.t1_rules.specs.declared.step_rules.flex.Point.{Point}
use Rattle.t1_rules.specs.declared.step_rules.stems.Stem.{Stem}
use Rattle.t1_rules.specs.StepRules.Flex.{at, point_set}
use Rattle.t1_rules.specs.StepRules.Stems.{most_stems}
use Rattle.t1_rules.specs.StepRules.Tokens.{sets_width}

-- A stem that is set, without the segments after it.
abbrev pub watched : Direction → SetStem → WatchedStem
watched direction stem = record { low = stem.low; high = stem.high; touched = is_touched direction stem }

abbrev pub point_in : Sidebearing → Point
point_in s = at s.x s.y

-- Ten units below a coordinate, and above it, as far as there are coordinates.
abbrev pub below : ℤ → ℤ
below z = saturate_signed w64 (z -ℤ pos near_by)

abbrev pub above : ℤ → ℤ
above z = saturate_signed w64 (z +ℤ pos near_by)

abbrev pub reach_between : ℤ → ℤ → ℤ → ℤ → Reach
reach_between least low high greatest = record {
  lowest = int_min least (below low);
  low = above low;
  high = below high;
  highest = int_max greatest (above high);
}

-- The edges that a line or a curve touches, whose ends are coordinates.
pub record IsReach (e : Extent) (reach : Reach) : Type 0 where
  pub same : reach ≡ reach_between e.least (int_min e.start e.end) (int_max e.start e.end) e.greatest
  pub low : FitsSigned w64 (int_min e.start e.end)
  pub high : FitsSigned w64 (int_max e.start e.end)

-- A segment more.
abbrev pub touched_by : Option Extent → WatchedStem → WatchedStem
touched_by e stem = record stem { touched = stem.touched || touches_one e stem.low stem.high }

pub record Drawing : Type 0 where
  pub across : List WatchedStem
  pub upright : List WatchedStem
  pub end : Option Point
  pub has_strokes : Bool

abbrev pub drawing_in : TouchWatcher → Drawing
drawing_in w = record { across = w.across.items; upright = w.upright.items; end = w.end; has_strokes = w.has_strokes }

abbrev pub draw_on : Drawing → Segment → Drawing
draw_on d segment = record {
  across = map (touched_by (extent_by (coordinate Across) d.end segment)) d.across;
  upright = map (touched_by (extent_by (coordinate Upright) d.end segment)) d.upright;
  end = end_of segment;
  has_strokes = d.has_strokes || is_stroke_by segment;
}

abbrev pub draws_on : Drawing → List Segment → Drawing
draws_on d [] = d
draws_on d (segment ∷ more) = draws_on (draw_on d segment) more

-- A stem that isn't touched, and as one of so many.
abbrev pub is_left : WatchedStem → Bool
is_left stem = not stem.touched

abbrev pub left_as : Direction → ℕ → WatchedStem → UntouchedStem
left_as direction count stem = record { direction = direction; low = stem.low; high = stem.high; more = count - 1 }

-- Where the watcher says that it is done with a direction, each stem of it is touched.
abbrev pub all_touched : List WatchedStem → Bool
all_touched stems = not (list_any (λ stem. not stem.touched) stems)

pub record IsDone (w : TouchWatcher) : Type 0 where
  pub across : w.across_done ≡ true → all_touched w.across.items ≡ true
  pub upright : w.upright_done ≡ true → all_touched w.upright.items ≡ true

-- The step sets no stem, and no sidebearing.
pub record SetsNothing (step : StepView) : Type 0 where
  pub across : stems_set Across step ≡ []
  pub upright : stems_set Upright step ≡ []
  pub width : sets_width step.token ≡ false

-- Stems more.
abbrev pub has_edges : ℤ → ℤ → WatchedStem → Bool
has_edges low high stem = int_eq low stem.low && int_eq high stem.high

abbrev pub with_edges : List WatchedStem → ℤ → ℤ → List WatchedStem
with_edges stems low high =
    if list_any (has_edges low high) stems || nat_le most_stems (length stems)
    then stems else stems ++ record { low = low; high = high; touched = false } ∷ []

abbrev pub with_stem_from : ℤ → List WatchedStem → Stem → List WatchedStem
with_stem_from start stems stem = with_edges stems (low_edge start stem) (high_edge start stem)

abbrev pub with_stems_from : ℤ → List WatchedStem → List Stem → List WatchedStem
with_stems_from start stems [] = stems
with_stems_from start stems (stem ∷ more) = with_stems_from start (with_stem_from start stems stem) more

abbrev pub point_on : Point → StepView → Point
point_on point step = if sets_width step.token then point_set step else point
