-- Tokens, arguments and numbers: where a step breaks C01 to C09. Type 1 Font Format 1.1, chapters 6 and 7.
use Rattle.std.specs.Prelude.{ℕ, ℤ, pos, ◌==◌, ◌&&◌, ◌||◌, not, nat_lt, nat_le, int_lt, Bool, false, Option, Some, None, List, length, take}
use Rattle.std.specs.List.{list_any}
use Rattle.std.specs.Ordering.{int_eq}
use Rattle.t1_char.specs.declared.command.Command.{Command as Commands}
use Rattle.t1_char.specs.declared.command.Command.TheVariants.{Callsubr, Div, Callothersubr}
use Rattle.t1_char.specs.declared.token.CharToken.{CharToken}
use Rattle.t1_char.specs.declared.token.CharToken.TheVariants.{Command}
use Rattle.t1_char.specs.Commands.{arguments_of}
use Rattle.t1_char.specs.Numbers.{cut_quotient, greatest, least}
use Rattle.t1_char.specs.Stacks.{from_top, most_numbers}
use Rattle.t1_char.specs.Steps.{StepView, is_number}
use Rattle.t1_rules.specs.StepRules.Tokens.{is_div, is_pop}

-- How many numbers a command takes from the top of the stack.
abbrev pub taken_from_top : Commands → ℕ
taken_from_top Div = 2
taken_from_top Callothersubr = 2
taken_from_top Callsubr = 1
taken_from_top _ = 0

-- How many numbers a command needs on the stack: its arguments, or those that it takes from the top.
abbrev pub wanted_by : Commands → Option ℕ → ℕ
wanted_by command (Some count) = count
wanted_by command None = taken_from_top command

-- There are fewer numbers than the command needs.
abbrev pub has_too_few_arguments : CharToken → List ℤ → Bool
has_too_few_arguments (Command command) stack = nat_lt (length stack) (wanted_by command (arguments_of command))
has_too_few_arguments _ stack = false

-- There are more numbers than the arguments.
abbrev pub is_more_than : Option ℕ → ℕ → Bool
is_more_than None numbers = false
is_more_than (Some count) numbers = nat_lt count numbers

abbrev pub has_too_many_arguments : CharToken → List ℤ → Bool
has_too_many_arguments (Command command) stack = is_more_than (arguments_of command) (length stack)
has_too_many_arguments _ stack = false

-- One number more comes to a stack of 24.
abbrev pub overflows : StepView → Bool
overflows step =
    (is_number step.token || (is_pop step.token && nat_lt 0 step.waiting)) && length step.stack == most_numbers

-- A number is past 32000 in absolute value.
abbrev pub is_past : ℤ → Bool
is_past z = int_lt greatest z || int_lt z least

-- One of the arguments is; numbers above them on the stack are none.
abbrev pub one_is_past : Option ℕ → List ℤ → Bool
one_is_past None stack = false
one_is_past (Some count) stack = list_any is_past (take count stack)

abbrev pub has_argument_past : CharToken → List ℤ → Bool
has_argument_past (Command command) stack = one_is_past (arguments_of command) stack
has_argument_past _ stack = false

-- A number is divided by another, which is 0; or by one that isn't, and the quotient is past 32000.
abbrev pub divides : StepView → Bool
divides step = is_div step.token && nat_le 2 (length step.stack)

abbrev pub is_zero : ℤ → Bool
is_zero z = int_eq z (pos 0)

abbrev pub divides_by_zero : StepView → Bool
divides_by_zero step = divides step && is_zero (from_top step.stack 0)

abbrev pub quotient_is_past : ℤ → ℤ → Bool
quotient_is_past dividend divisor = not (is_zero divisor) && is_past (cut_quotient dividend divisor)

abbrev pub divides_past : StepView → Bool
divides_past step = divides step && quotient_is_past (from_top step.stack 1) (from_top step.stack 0)
