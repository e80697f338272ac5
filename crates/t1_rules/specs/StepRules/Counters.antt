-- Counter control, and calls of OtherSubrs before the width: where a step breaks O05 to O08 and W03. Adobe Technical
-- Note 5015 (counter control): OtherSubrs 12 and 13 are called at the glyph's start, with all numbers of the stack, as
-- often as need be with 12, and once with 13, which ends it. Type 1 Font Format 1.1, chapter 6: hsbw or sbw comes first.
use Rattle.std.specs.Prelude.{ℕ, ◌-◌, ◌&&◌, ◌||◌, not, nat_lt, Bool, false, Option, Some, None, is_some, List, length}
use Rattle.t1_char.specs.Arguments.{is_whole}
use Rattle.t1_char.specs.Numbers.{natural}
use Rattle.t1_char.specs.Since.{any_so_far, is_some_such, last_of}
use Rattle.t1_char.specs.Stacks.{from_top}
use Rattle.t1_char.specs.Steps.{StepView}
use Rattle.t1_rules.specs.StepRules.Othersubrs.{calls_by_numbers, has_good_count}
use Rattle.t1_rules.specs.StepRules.Paths.{clearing_step}
use Rattle.t1_rules.specs.StepRules.Tokens.{clears, sets_width}

-- The step calls an OtherSubr with a good count: that of counter control that goes on, or that of its end.
abbrev pub goes_on_counting : StepView → Bool
goes_on_counting step = calls_by_numbers step && has_good_count step && is_whole 12 (from_top step.stack 0)

abbrev pub ends_counting : StepView → Bool
ends_counting step = calls_by_numbers step && has_good_count step && is_whole 13 (from_top step.stack 0)

abbrev pub is_counting : StepView → Bool
is_counting step = goes_on_counting step || ends_counting step

-- A step that tells something of the glyph: a command that empties the stack, or a call of an OtherSubr. Numbers, div,
-- pop, callsubr and return lie between such steps.
abbrev pub is_told : StepView → Bool
is_told step = clears step.token || calls_by_numbers step

-- The last step that tells something is of a kind.
abbrev pub last_told_is : (StepView → Bool) → List StepView → Bool
last_told_is kind before = is_some_such kind (last_of is_told before)

-- Counter control can come behind it.
abbrev pub opens_counting : StepView → Bool
opens_counting step = sets_width step.token || is_counting step

abbrev pub counts_late : List StepView → StepView → Bool
counts_late before step = is_counting step && not (last_told_is opens_counting before)

-- Counter control was ended.
abbrev pub is_counted : List StepView → Bool
is_counted before = is_some (last_of ends_counting before)

abbrev pub counts_again : List StepView → StepView → Bool
counts_again before step = is_counting step && is_counted before

-- The count is less than the numbers that are there.
abbrev pub is_below : ℕ → Option ℕ → Bool
is_below numbers None = false
is_below numbers (Some count) = nat_lt count numbers

abbrev pub leaves_numbers : StepView → Bool
leaves_numbers step = is_counting step && is_below (length step.stack - 2) (natural (from_top step.stack 1))

-- Counter control goes on, and another step comes.
abbrev pub leaves_counting : List StepView → StepView → Bool
leaves_counting before step = is_told step && not (is_counting step) && last_told_is goes_on_counting before

-- Nothing was before it that empties the stack.
abbrev pub calls_first : List StepView → StepView → Bool
calls_first before step =
    calls_by_numbers step && not (is_counting step) && not (any_so_far clearing_step before)
