-- Moves, lines, curves and closepaths that a machine can pass with the numbers before them, and how far these lead.
-- Type 1 Font Format 1.1, chapter 6.
use Rattle.std.specs.Prelude.{◌≡◌, ◌⊎◌, ℕ, zero, suc, ℤ, pos, ◌+◌, ◌<◌, ◌*◌, ◌^◌, ◌+ℤ◌, ◌≤ℤ◌, ◌||◌, int_lt, Bool, true, false, Some, List, [], length, slice_get}
use Rattle.std.specs.List.{list_any}
use Rattle.t1_char.specs.declared.command.Command.{Command as Commands}
use Rattle.t1_char.specs.declared.command.Command.TheVariants.{Rlineto, Hlineto, Vlineto, Rrcurveto, Vhcurveto, Hvcurveto, Closepath, Rmoveto, Hmoveto, Vmoveto}
use Rattle.t1_char.specs.declared.lines.DrawnPath.{DrawnPath}
use Rattle.t1_char.specs.declared.lines.DrawnPath.TheVariants.{Nothing, Open, Closed}
use Rattle.t1_char.specs.declared.lines.Way.{Way}
use Rattle.t1_char.specs.declared.lines.Passing.{Passing}
use Rattle.t1_char.specs.declared.lines.Passing.TheVariants as passing
use Rattle.t1_char.specs.declared.token.CharToken.TheVariants.{Command}
use Rattle.t1_char.specs.Arguments.{argument}
use Rattle.t1_char.specs.Commands.{arguments_of}
use Rattle.t1_char.specs.Editions.{limit_of}
use Rattle.t1_char.specs.Numbers.{greatest, least}
use Rattle.t1_char.specs.Passing.{IsPassed}
use Rattle.t1_char.specs.Steps.{StepView, steps_of}
use Rattle.t1_char.specs.Turns.{MachineView, TurnValue, counted_after, turn_at}

abbrev pub is_line_command : Commands → Bool
is_line_command Rlineto = true
is_line_command Hlineto = true
is_line_command Vlineto = true
is_line_command Rrcurveto = true
is_line_command Vhcurveto = true
is_line_command Hvcurveto = true
is_line_command _ = false

abbrev pub is_move_command : Commands → Bool
is_move_command Rmoveto = true
is_move_command Hmoveto = true
is_move_command Vmoveto = true
is_move_command _ = false

-- Which commands are passed, and whether any is, but for a closepath after a line.
abbrev pub is_led : Passing → Commands → Bool
is_led passing.Lines command = is_line_command command
is_led passing.Moves command = is_line_command command || is_move_command command
is_led _ command = false

abbrev pub leads : Passing → Bool
leads passing.Lines = true
leads passing.Moves = true
leads _ = false

-- A number past 32000 in absolute value.
abbrev pub is_far : ℤ → Bool
is_far z = int_lt greatest z || int_lt z least

-- The way of a line, of a move, of no step, of one way after another, and of lines with the closepath after them.
abbrev pub way_at : ℤ → ℤ → Way
way_at x y = record { x = x; y = y; moves = 0; drawn = Open }

abbrev pub move_to : ℤ → ℤ → Way
move_to x y = record { x = x; y = y; moves = 1; drawn = Nothing }

abbrev pub no_way : Way
no_way = record { x = pos 0; y = pos 0; moves = 0; drawn = Nothing }

abbrev pub drawn_after : DrawnPath → DrawnPath → DrawnPath
drawn_after before Nothing = before
drawn_after before after = after

abbrev pub further : Way → Way → Way
further one other =
    record { x = one.x +ℤ other.x; y = one.y +ℤ other.y; moves = one.moves + other.moves; drawn = drawn_after one.drawn other.drawn }

abbrev pub closed : Way → Way
closed way = record way { drawn = Closed }

abbrev pub is_closed : DrawnPath → Bool
is_closed Closed = true
is_closed _ = false

-- Whether a command can be passed after what was drawn: a move where nothing was, a line where the path isn't closed.
abbrev pub can_follow : Commands → DrawnPath → Bool
can_follow command Nothing = true
can_follow command Open = is_line_command command
can_follow command Closed = false

-- How far a line, a curve or a move leads: by the sum of its pairs.
abbrev pub way_by : Commands → List ℤ → Way
way_by Rlineto v = way_at (argument v 0) (argument v 1)
way_by Hlineto v = way_at (argument v 0) (pos 0)
way_by Vlineto v = way_at (pos 0) (argument v 0)
way_by Vhcurveto v = way_at (argument v 1 +ℤ argument v 3) (argument v 0 +ℤ argument v 2)
way_by Hvcurveto v = way_at (argument v 0 +ℤ argument v 1) (argument v 2 +ℤ argument v 3)
way_by Rrcurveto v = way_at (argument v 0 +ℤ argument v 2 +ℤ argument v 4) (argument v 1 +ℤ argument v 3 +ℤ argument v 5)
way_by Rmoveto v = move_to (argument v 0) (argument v 1)
way_by Hmoveto v = move_to (argument v 0) (pos 0)
way_by Vmoveto v = move_to (pos 0) (argument v 0)
way_by _ v = no_way

-- A command of such a kind with exactly its arguments, none past 32000.
pub record IsLed (which : Commands → Bool) (command : Commands) (stack : List ℤ) : Type 0 where
  pub led : which command ≡ true
  pub count : arguments_of command ≡ Some (length stack)
  pub near : list_any is_far stack ≡ false

-- A line, a curve or a move that is passed, where it can come, leads from one way to another.
pub record LeadsOn (what : Passing) (command : Commands) (stack : List ℤ) (before after : Way) : Type 0 where
  pub is : IsLed (is_led what) command stack
  pub from : can_follow command before.drawn ≡ true
  pub way : after ≡ further before (way_by command stack)

-- A closepath without a number comes right after a line.
pub record ClosesPath (command : Commands) (stack : List ℤ) (before after : Way) : Type 0 where
  pub closes : command ≡ Closepath
  pub alone : stack ≡ []
  pub drawn : before.drawn ≡ Open
  pub way : after ≡ closed before

abbrev pub GoesOn : Passing → Commands → List ℤ → Way → Way → Type 0
GoesOn what command stack before after = LeadsOn what command stack before after ⊎ ClosesPath command stack before after

-- After k steps comes such a command, within the limit.
pub record IsCommandPassed (what : Passing) (limit : ℕ) (steps : List StepView) (k : ℕ) (before after : Way) : Type 0 where
  pub step : StepView
  pub command : Commands
  pub there : slice_get steps k ≡ Some step
  pub token : step.token ≡ Command command
  pub near : k < limit
  pub goes_on : GoesOn what command step.stack before after

-- After k steps comes a number that the stack has room for, or, where commands are passed, such a command.
abbrev pub PassesStep : Passing → ℕ → List StepView → ℕ → Way → Way → Type 0
PassesStep what limit steps k before after =
    (IsPassed limit steps k × (after ≡ before)) ⊎ ((leads what ≡ true) × IsCommandPassed what limit steps k before after)

-- So many steps after the first n are such, and lead so far.
abbrev pub PassesSteps : Passing → ℕ → List StepView → ℕ → ℕ → Way → Type 0
PassesSteps what limit steps n zero way = way ≡ no_way
PassesSteps what limit steps n (suc k) way =
    (before : Way) × (PassesSteps what limit steps n k before × PassesStep what limit steps (n + k) before way)

-- After n calls a machine passes some steps. It returns what the call after these returns, and this counts as one
-- call more.
pub record IsAskedFarBehind (what : Passing) (limit : ℕ) (steps : List StepView) (n calls : ℕ) (answer : TurnValue) (way : Way) : Type 0 where
  pub taken : ℕ
  pub passed : PassesSteps what limit steps n taken way
  pub returned : what ≡ passing.Returned → taken ≡ 0
  pub turn : answer ≡ turn_at limit steps (n + taken)
  pub counted : calls ≡ counted_after limit steps (n + taken)

abbrev pub IsAskedFar : Passing → MachineView → MachineView → TurnValue → Way → Type 0
IsAskedFar what old new answer way =
    IsAskedFarBehind what (limit_of old.edition) (steps_of old.font old.glyph) old.counted new.counted answer way

-- How long an argument is at most, and by how much one step moves a way at most.
abbrev pub argument_reach : ℕ
argument_reach = 2 ^ 31

abbrev pub way_reach : ℕ
way_reach = 3 * 2 ^ 31

pub record IsWithin (bound : ℕ) (z : ℤ) : Type 0 where
  pub low : pos 0 ≤ℤ (z +ℤ pos bound)
  pub high : z ≤ℤ pos bound

pub record IsWayNear (n : ℕ) (way : Way) : Type 0 where
  pub x : IsWithin (n * way_reach) way.x
  pub y : IsWithin (n * way_reach) way.y
