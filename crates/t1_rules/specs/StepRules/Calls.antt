-- Calls of Subrs, and the ends of charstrings: where a step breaks S01 to S04, GE01 and GE02. Type 1 Font
-- Format 1.1, chapters 6 and 8.
use Rattle.std.specs.Prelude.{◌==◌, ◌&&◌, not, nat_lt, Bool, length}
use Rattle.t1_char.specs.Effects.{most_calls}
use Rattle.t1_char.specs.Effects.{is_finishing}
use Rattle.t1_char.specs.Steps.{StepView, is_callsubr, is_end, is_return}

-- callsubr, with a number on the stack.
abbrev pub calls_by_number : StepView → Bool
calls_by_number step = is_callsubr step.token && nat_lt 0 (length step.stack)

-- The step is in the glyph's own charstring, and not in a Subr.
abbrev pub is_in_glyph : StepView → Bool
is_in_glyph step = length step.path == 0

abbrev pub calls_missing : StepView → Bool
calls_missing step = calls_by_number step && not step.found

-- Ten calls are open, and the step would make one more.
abbrev pub calls_too_deep : StepView → Bool
calls_too_deep step = calls_by_number step && length step.path == most_calls

abbrev pub returns_from_glyph : StepView → Bool
returns_from_glyph step = is_return step.token && is_in_glyph step

abbrev pub ends_in_subr : StepView → Bool
ends_in_subr step = is_end step.token && not (is_in_glyph step)

abbrev pub ends_in_glyph : StepView → Bool
ends_in_glyph step = is_end step.token && is_in_glyph step

-- Something follows the command that finishes the glyph in its charstring.
abbrev pub goes_on_past_end : StepView → Bool
goes_on_past_end step = is_finishing step.token && not step.last
