-- Which subpaths of a drawing run clockwise: P05. Type 1 Font Format 1.1, chapter 3 (direction).
use Rattle.std.specs.Prelude.{ℕ, ℤ, ◌+◌, int_lt, if◌then◌else◌, Bool, true, false, Option, Some, List, [], ◌∷◌, ◌++◌, length}
use Rattle.std.specs.List.{list_any}
use Rattle.t1_char.specs.Since.{Test}
use Rattle.t1_char.specs.Steps.{StepView}
use Rattle.t1_drawing.specs.Areas.{drawn_area}
use Rattle.t1_drawing.specs.Strokes.{segments_of}
use Rattle.t1_outline.specs.declared.segment.Segment.{Segment}
use Rattle.t1_outline.specs.declared.segment.Segment.TheVariants.{Move}
use Rattle.t1_outline.specs.Outlines.{drawn}
use Rattle.t1_reasons.specs.declared.reason.SubpathTurns.{SubpathTurns}
use Rattle.t1_reasons.specs.declared.subpath_turns.Beginning.{Beginning}
use Rattle.t1_reasons.specs.Carried.{carried_over}

-- A step that draws a move begins a subpath.
abbrev pub moves : Segment → Bool
moves (Move p) = true
moves _ = false

abbrev pub begins_subpath : Test
begins_subpath before step = list_any moves (drawn before step)

-- The subpaths of a drawing, each by the number of the step that begins it, from 1, and the area of what is drawn before.
abbrev pub beginning : List StepView → Beginning
beginning before = record { step = length before + 1; area = drawn_area (segments_of before) }

abbrev pub begun_on : List Beginning → List StepView → StepView → List Beginning
begun_on subpaths before step = if begins_subpath before step then subpaths ++ beginning before ∷ [] else subpaths

abbrev pub subpaths_of : List StepView → List Beginning
subpaths_of steps = carried_over begun_on [] steps

-- A subpath reaches to where the next one begins, or to the end: the area there.
abbrev pub area_after : Option ℤ → List Beginning → Option ℤ
area_after whole [] = whole
area_after whole (next ∷ more) = next.area

-- What it adds is below 0.
abbrev pub lessens : Option ℤ → Option ℤ → Bool
lessens (Some before) (Some after) = int_lt after before
lessens _ _ = false

-- The steps that begin a subpath that runs clockwise.
abbrev pub clockwise_among : Option ℤ → List Beginning → List ℕ
clockwise_among whole [] = []
clockwise_among whole (subpath ∷ more) =
    if lessens subpath.area (area_after whole more) then subpath.step ∷ clockwise_among whole more else clockwise_among whole more

-- The first of them; 0 where there is none.
abbrev pub first_or_zero : List ℕ → ℕ
first_or_zero [] = 0
first_or_zero (step ∷ steps) = step

abbrev pub turns_among : Option ℤ → List Beginning → SubpathTurns
turns_among whole subpaths = record {
  subpaths = length subpaths;
  clockwise = length (clockwise_among whole subpaths);
  first = first_or_zero (clockwise_among whole subpaths);
}

abbrev pub turns_of : List StepView → SubpathTurns
turns_of steps = turns_among (drawn_area (segments_of steps)) (subpaths_of steps)
