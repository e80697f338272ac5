-- Flex: where a step breaks X01 to X06. Type 1 Font Format 1.1, chapter 8.
use Rattle.std.specs.Prelude.{ℕ, ℤ, pos, ◌+◌, ◌+ℤ◌, ◌==◌, ◌&&◌, ◌||◌, not, if◌then◌else◌, Bool, Option, Some, None, List, [], ◌∷◌}
use Rattle.std.specs.List.{count_by}
use Rattle.std.specs.Ordering.{int_eq}
use Rattle.t1_char.specs.declared.command.Command.{Command as Commands}
use Rattle.t1_char.specs.declared.command.Command.TheVariants.{Vmoveto, Rlineto, Hlineto, Vlineto, Rrcurveto, Rmoveto, Hmoveto, Vhcurveto, Hvcurveto}
use Rattle.t1_char.specs.declared.token.CharToken.{CharToken}
use Rattle.t1_char.specs.declared.token.CharToken.TheVariants.{Command}
use Rattle.t1_char.specs.Arguments.{argument, is_flex_start, is_flex_point, is_flex_end}
use Rattle.t1_char.specs.Since.{last_of, was}
use Rattle.t1_char.specs.Stacks.{from_top}
use Rattle.t1_char.specs.Steps.{StepView}
use Rattle.t1_rules.specs.declared.step_rules.flex.Point.{Point}
use Rattle.t1_rules.specs.StepRules.Paths.{in_flex}
use Rattle.t1_rules.specs.StepRules.Stems.{popping}
use Rattle.t1_rules.specs.StepRules.Tokens.{clears, is_move, is_hsbw, is_setcurrentpoint, sets_point}
use Rattle.t1_font.specs.Fonts.{after_last}

abbrev pub at : ℤ → ℤ → Point
at x y = record { x = x; y = y }

abbrev pub origin : Point
origin = at (pos 0) (pos 0)

abbrev pub plus : Point → Point → Point
plus one other = at (one.x +ℤ other.x) (one.y +ℤ other.y)

-- How far a command moves the current point: moves, lines and curves, by the sum of their pairs.
abbrev pub moved_by : Commands → List ℤ → Point
moved_by Rmoveto v = at (argument v 0) (argument v 1)
moved_by Rlineto v = at (argument v 0) (argument v 1)
moved_by Hmoveto v = at (argument v 0) (pos 0)
moved_by Hlineto v = at (argument v 0) (pos 0)
moved_by Vmoveto v = at (pos 0) (argument v 0)
moved_by Vlineto v = at (pos 0) (argument v 0)
moved_by Vhcurveto v = at (argument v 1 +ℤ argument v 3) (argument v 0 +ℤ argument v 2)
moved_by Hvcurveto v = at (argument v 0 +ℤ argument v 1) (argument v 2 +ℤ argument v 3)
moved_by Rrcurveto v =
    at (argument v 0 +ℤ argument v 2 +ℤ argument v 4) (argument v 1 +ℤ argument v 3 +ℤ argument v 5)
moved_by _ v = origin

abbrev pub displacement_of : CharToken → List ℤ → Point
displacement_of (Command command) stack = moved_by command stack
displacement_of _ stack = origin

abbrev pub displacement : StepView → Point
displacement step = displacement_of step.token step.stack

-- Where hsbw, sbw and setcurrentpoint set it.
abbrev pub point_set : StepView → Point
point_set step = at (argument step.stack 0) (if is_hsbw step.token then pos 0 else argument step.stack 1)

abbrev pub setting_point : StepView → Bool
setting_point step = sets_point step.token

-- The current point: where it was last set, and the sum of the displacements since; closepath leaves it.
abbrev pub set_by : Option StepView → Point
set_by None = origin
set_by (Some step) = point_set step

abbrev pub travelled : List StepView → Point
travelled [] = origin
travelled (step ∷ steps) = plus (displacement step) (travelled steps)

abbrev pub current_point : List StepView → Point
current_point before =
    plus (set_by (last_of setting_point before)) (travelled (after_last setting_point before))

-- Moves and flex points since the last start of a flex.
abbrev pub moving : StepView → Bool
moving step = is_move step.token

abbrev pub flex_moves : List StepView → ℕ
flex_moves before = count_by moving (after_last is_flex_start before)

abbrev pub flex_points : List StepView → ℕ
flex_points before = count_by is_flex_point (after_last is_flex_start before)

abbrev pub starts_in_flex : List StepView → StepView → Bool
starts_in_flex before step = is_flex_start step && in_flex before

abbrev pub goes_on_outside : List StepView → StepView → Bool
goes_on_outside before step = (is_flex_point step || is_flex_end step) && not (in_flex before)

abbrev pub commands_in_flex : List StepView → StepView → Bool
commands_in_flex before step = clears step.token && not (is_move step.token) && in_flex before

-- A point comes after its move, and the end after seven of each.
abbrev pub miscounts : ℕ → ℕ → StepView → Bool
miscounts moves points step =
    (is_flex_point step && not (moves == points + 1)) || (is_flex_end step && not (moves == 7 && points == 7))

abbrev pub counts_no_pairs : List StepView → StepView → Bool
counts_no_pairs before step = miscounts (flex_moves before) (flex_points before) step && in_flex before

-- The arguments of the end are flex height, x and y.
abbrev pub end_point : StepView → Point
end_point step = at (from_top step.stack 3) (from_top step.stack 2)

abbrev pub is_elsewhere : Point → Point → Bool
is_elsewhere one other = not (int_eq one.x other.x) || not (int_eq one.y other.y)

abbrev pub ends_away_from : Point → StepView → Bool
ends_away_from point step = is_flex_end step && is_elsewhere (end_point step) point

abbrev pub ends_elsewhere : List StepView → StepView → Bool
ends_elsewhere before step = ends_away_from (current_point before) step && in_flex before

-- The two steps before are pops, and the one before these ends a flex.
abbrev pub is_ended_and_popped : List StepView → Bool
is_ended_and_popped before = was 2 is_flex_end before && was 1 popping before && was 0 popping before

abbrev pub sets_point_alone : List StepView → StepView → Bool
sets_point_alone before step = is_setcurrentpoint step.token && not (is_ended_and_popped before)
