-- How far from the origin segments are drawn, and how many.
use Rattle.std.specs.Prelude.{ℕ, ◌+◌, ◌*◌, ◌≤◌, List, length}
use Rattle.std.specs.List.{All}
use Rattle.t1_outline.specs.declared.segment.Segment.{Segment}
use Rattle.t1_outline.specs.declared.segment.Segment.TheVariants.{Move, Line, Curve, Close}
use Rattle.t1_rules.specs.Watches.{IsNear, most_steps}

-- So many ways lead to any point that is drawn: those of the steps before, and the three of a curve.
abbrev pub most_ways : ℕ
most_ways = most_steps + 2

abbrev pub IsDrawnNear : Segment → Type 0
IsDrawnNear (Move p) = IsNear most_ways p
IsDrawnNear (Line end) = IsNear most_ways end
IsDrawnNear (Curve one two end) = IsNear most_ways one × IsNear most_ways two × IsNear most_ways end
IsDrawnNear Close = Unit {0}

-- A step draws at most three segments.
abbrev pub most_drawn : ℕ
most_drawn = 3

abbrev pub most_segments : ℕ
most_segments = most_drawn * most_steps

-- What steps can draw after other segments.
pub record CanBeDrawn (before here : List Segment) : Type 0 where
  pub few : length before + length here ≤ most_segments
  pub near : All IsDrawnNear here
