-- What an outline has still to return.
use Rattle.std.specs.Prelude.{ℕ, ◌++◌, List, drop, map, take}
use Rattle.t1_char.specs.Editions.{limit_of}
use Rattle.t1_char.specs.Steps.{StepView, steps_of}
use Rattle.t1_char.specs.Turns.{MachineView}
use Rattle.t1_outline.specs.declared.pen.Pen.{Pen}
use Rattle.t1_outline.specs.declared.segment.Segment.{Segment}
use Rattle.t1_outline.specs.Outlines.{DrawnView, drawn_from, placed}
use Rattle.t1_outline.specs.Private.Standing.{PenStandsFor}

-- The steps of a machine's glyph, up to the limit.
abbrev pub steps_in : MachineView → List StepView
steps_in m = take (limit_of m.edition) (steps_of m.font m.glyph)

-- What the current step drew and wasn't returned yet, and then what the steps after it draw.
abbrev pub left_in : MachineView → List Segment → ℕ → List DrawnView
left_in m segments given =
    map (placed m.step.number m.step.step.path) (drop given segments)
    ++ drawn_from (take m.counted (steps_in m)) (drop m.counted (steps_in m))

-- The pen has seen the steps that the machine returned.
abbrev pub IsOutlining : MachineView → Pen → Type 0
IsOutlining m pen = PenStandsFor m.edition pen (take m.counted (steps_in m))
