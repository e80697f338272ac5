-- The segments of a drawing, one after another. A line and a curve begin at the current point, where the segment right before them ends: Type 1 Font
-- Format 1.1, chapter 6.
use Rattle.std.specs.Prelude.{◌||◌, Bool, false, Option, None, List, [], ◌∷◌, ◌++◌, reverse}
use Rattle.t1_outline.specs.declared.segment.Segment.{Segment}
use Rattle.t1_outline.specs.declared.segment.Segment.TheVariants.{Line}
use Rattle.t1_outline.specs.Laws.Points.{end_of}
use Rattle.t1_rules.specs.declared.step_rules.flex.Point.{Point}

-- A test of a segment, given all that was drawn before it.
abbrev pub Test : Type 0
Test = List Segment → Segment → Bool

-- One of these segments is such a segment, each given those before it.
abbrev pub one_in : Test → List Segment → List Segment → Bool
one_in test before [] = false
one_in test before (s ∷ here) = test before s || one_in test (before ++ s ∷ []) here

-- Of segments from the last one back: where the last one ends. After closepath, or where nothing was drawn, there is no such point: a line and a curve
-- have a move, a line or a curve right before them.
abbrev pub last_end : List Segment → Option Point
last_end [] = None
last_end (s ∷ earlier) = end_of s

-- Where a segment begins, if it is a line.
abbrev pub line_start_in : Option Point → Segment → Option Point
line_start_in start (Line end) = start
line_start_in start _ = None

-- Where the last one begins, if it is a line.
abbrev pub last_line_start : List Segment → Option Point
last_line_start [] = None
last_line_start (s ∷ earlier) = line_start_in (last_end earlier) s

-- Where a line or a curve begins after these segments.
abbrev pub start_after : List Segment → Option Point
start_after before = last_end (reverse before)

-- Where the line begins that is right before it, if there is one.
abbrev pub line_start_before : List Segment → Option Point
line_start_before before = last_line_start (reverse before)
