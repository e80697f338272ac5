-- What commands and OtherSubrs take: Type 1 Font Format 1.1, chapters 6 and 8.
use Rattle.std.specs.Prelude.{ℕ, ℤ, pos, ◌+◌, ◌*◌, ◌&&◌, nat_le, if◌then◌else◌, Bool, true, false, List, length, slice_index_or}
use Rattle.std.specs.Ordering.{int_eq}
use Rattle.t1_char.specs.declared.argument.OthersubrCall.{OthersubrCall}
use Rattle.t1_char.specs.declared.argument.OthersubrCall.TheVariants.{FlexEnd, FlexStart, FlexPoint, HintReplacement, Other}
use Rattle.t1_char.specs.declared.command.Command.TheVariants.{Callothersubr}
use Rattle.t1_char.specs.declared.token.CharToken.{CharToken}
use Rattle.t1_char.specs.declared.token.CharToken.TheVariants.{Command}
use Rattle.t1_char.specs.Numbers.{clamped, unit}
use Rattle.t1_char.specs.Stacks.{from_top}
use Rattle.t1_char.specs.Steps.{StepView}

-- The argument at a place from the bottom, kept within -32000 to 32000; 0 where there is none. That the
-- place is below the command's count is the caller's to see to.
abbrev pub argument : List ℤ → ℕ → ℤ
argument stack place = clamped (slice_index_or stack place (pos 0))

abbrev pub is_callothersubr : CharToken → Bool
is_callothersubr (Command Callothersubr) = true
is_callothersubr _ = false

-- The number is that whole number.
abbrev pub is_whole : ℕ → ℤ → Bool
is_whole n z = int_eq z (pos (n * unit))

-- The step calls the OtherSubr of this number with so many arguments, which are there.
abbrev pub calls_othersubr : ℕ → ℕ → StepView → Bool
calls_othersubr number count step =
    is_callothersubr step.token && nat_le (count + 2) (length step.stack)
    && is_whole number (from_top step.stack 0) && is_whole count (from_top step.stack 1)

-- The OtherSubrs of flex and hint replacement, each with its own count: 1 starts a flex, 2 adds a
-- point, 0 ends it, 3 replaces hints.
abbrev pub is_flex_start : StepView → Bool
is_flex_start step = calls_othersubr 1 0 step

abbrev pub is_flex_point : StepView → Bool
is_flex_point step = calls_othersubr 2 0 step

abbrev pub is_flex_end : StepView → Bool
is_flex_end step = calls_othersubr 0 3 step

abbrev pub is_hint_replacement : StepView → Bool
is_hint_replacement step = calls_othersubr 3 1 step

-- Which of these a step calls.
abbrev pub othersubr_call : StepView → OthersubrCall
othersubr_call step =
    if is_flex_end step then FlexEnd
    else (if is_flex_start step then FlexStart
    else (if is_flex_point step then FlexPoint
    else (if is_hint_replacement step then HintReplacement else Other)))
