-- Calls of OtherSubrs: where a step breaks O01 to O04. Type 1 Font Format 1.1, chapter 8.
use Rattle.std.specs.Prelude.{ℕ, ℤ, ◌-◌, ◌==◌, ◌&&◌, ◌||◌, not, nat_le, Bool, false, Option, Some, None, length}
use Rattle.t1_char.specs.Arguments.{is_callothersubr, is_whole, is_flex_start, is_flex_point, is_flex_end, is_hint_replacement}
use Rattle.t1_char.specs.Numbers.{natural}
use Rattle.t1_char.specs.Stacks.{from_top}
use Rattle.t1_char.specs.Steps.{StepView}
use Rattle.t1_rules.specs.StepRules.Tokens.{is_pop}

-- callothersubr with two numbers: the OtherSubr's on top, and below it the count of arguments.
abbrev pub calls_by_numbers : StepView → Bool
calls_by_numbers step = is_callothersubr step.token && nat_le 2 (length step.stack)

-- A count of arguments that are there: whole, not negative, and not above how many there are.
abbrev pub is_up_to : ℕ → Option ℕ → Bool
is_up_to most None = false
is_up_to most (Some count) = nat_le count most

abbrev pub is_good_count : ℕ → ℤ → Bool
is_good_count most count = is_up_to most (natural count)

abbrev pub has_good_count : StepView → Bool
has_good_count step = is_good_count (length step.stack - 2) (from_top step.stack 1)

-- The OtherSubrs of flex and hint replacement, and those of counter control.
abbrev pub is_flex_or_hints : ℤ → Bool
is_flex_or_hints number = is_whole 0 number || (is_whole 1 number || (is_whole 2 number || is_whole 3 number))

abbrev pub is_counter_control : ℤ → Bool
is_counter_control number = is_whole 12 number || is_whole 13 number

abbrev pub is_known : ℤ → Bool
is_known number = is_flex_or_hints number || is_counter_control number

-- One of 0 to 3 is called with the count that it needs.
abbrev pub is_effective : StepView → Bool
is_effective step = is_flex_end step || (is_flex_start step || (is_flex_point step || is_hint_replacement step))

abbrev pub calls_unknown : StepView → Bool
calls_unknown step = calls_by_numbers step && has_good_count step && not (is_known (from_top step.stack 0))

abbrev pub has_bad_count : StepView → Bool
has_bad_count step = calls_by_numbers step && not (has_good_count step)

abbrev pub has_wrong_count : StepView → Bool
has_wrong_count step =
    calls_by_numbers step && has_good_count step
    && is_flex_or_hints (from_top step.stack 0) && not (is_effective step)

abbrev pub pops_nothing : StepView → Bool
pops_nothing step = is_pop step.token && step.waiting == 0
