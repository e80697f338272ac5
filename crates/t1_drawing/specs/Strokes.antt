-- The segments of a glyph's drawing, each with the point where it begins. Type 1 Font Format 1.1, chapter 6.
use Rattle.std.specs.Prelude.{Option, None, List, [], ◌∷◌, ◌++◌, map}
use Rattle.t1_char.specs.Steps.{StepView}
use Rattle.t1_outline.specs.declared.segment.Segment.{Segment}
use Rattle.t1_outline.specs.Laws.Points.{end_of, last_end}
use Rattle.t1_outline.specs.Outlines.{DrawnView, drawn, drawn_of}
use Rattle.t1_rules.specs.declared.step_rules.flex.Point.{Point}

-- A segment, and where it begins: where the one before it ends. After closepath that is no point, since no line and no curve comes right behind it.
pub record Stroke : Type 0 where
  pub start : Option Point
  pub segment : Segment

abbrev pub strokes_from : Option Point → List Segment → List Stroke
strokes_from start [] = []
strokes_from start (s ∷ ss) = record { start = start; segment = s } ∷ strokes_from (end_of s) ss

abbrev pub segment_of : DrawnView → Segment
segment_of d = d.segment

-- The segments that steps draw.
abbrev pub segments_of : List StepView → List Segment
segments_of steps = map segment_of (drawn_of steps)

-- Where the last of them ends.
abbrev pub end_of_steps : List StepView → Option Point
end_of_steps steps = last_end None (segments_of steps)

-- What a step draws after others, and what steps draw.
abbrev pub strokes_at : List StepView → StepView → List Stroke
strokes_at before step = strokes_from (end_of_steps before) (drawn before step)

abbrev pub strokes_after : List StepView → List StepView → List Stroke
strokes_after before [] = []
strokes_after before (step ∷ steps) = strokes_at before step ++ strokes_after (before ++ step ∷ []) steps
