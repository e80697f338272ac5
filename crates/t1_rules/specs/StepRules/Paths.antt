-- Widths and paths: where a step breaks W01, W02 and P01 to P03. Type 1 Font Format 1.1, chapters 6 and 8.
use Rattle.std.specs.Prelude.{◌&&◌, ◌||◌, not, Bool, List}
use Rattle.t1_char.specs.Arguments.{is_flex_start, is_flex_end}
use Rattle.t1_char.specs.Effects.{is_finishing}
use Rattle.t1_char.specs.Since.{any_so_far, since}
use Rattle.t1_char.specs.Steps.{StepView}
use Rattle.t1_rules.specs.StepRules.Calls.{ends_in_glyph}
use Rattle.t1_rules.specs.StepRules.Tokens.{clears, sets_width, is_move, is_line, closes}

-- A step of a kind, whatever came before it.
abbrev pub clearing_step : List StepView → StepView → Bool
clearing_step before step = clears step.token

abbrev pub flex_start : List StepView → StepView → Bool
flex_start before step = is_flex_start step

abbrev pub flex_end : List StepView → StepView → Bool
flex_end before step = is_flex_end step

abbrev pub closing_step : List StepView → StepView → Bool
closing_step before step = closes step.token

-- A flex was started, and not ended since.
abbrev pub in_flex : List StepView → Bool
in_flex before = since flex_start flex_end before

-- A move that isn't one of a flex.
abbrev pub outer_move : List StepView → StepView → Bool
outer_move before step = is_move step.token && not (in_flex before)

-- A line, a curve, or the end of a flex, which draws its two curves.
abbrev pub drawing : List StepView → StepView → Bool
drawing before step = is_line step.token || (is_flex_end step && in_flex before)

-- There was an outer move, and no closepath since.
abbrev pub is_moved : List StepView → Bool
is_moved before = since outer_move closing_step before

-- Something was drawn, and no closepath came since.
abbrev pub is_open : List StepView → Bool
is_open before = since drawing closing_step before

-- The first command that takes arguments from the bottom of the stack, and it doesn't set the width.
abbrev pub starts_without_width : List StepView → StepView → Bool
starts_without_width before step =
    clears step.token && not (sets_width step.token) && not (any_so_far clearing_step before)

abbrev pub sets_width_later : List StepView → StepView → Bool
sets_width_later before step = sets_width step.token && any_so_far clearing_step before

abbrev pub draws_unmoved : List StepView → StepView → Bool
draws_unmoved before step = drawing before step && not (is_moved before)

-- Where a path has to be closed: the next one begins, or the glyph ends.
abbrev pub wants_closed : List StepView → StepView → Bool
wants_closed before step = outer_move before step || (is_finishing step.token || ends_in_glyph step)

abbrev pub leaves_open : List StepView → StepView → Bool
leaves_open before step = wants_closed before step && is_open before

abbrev pub closes_nothing : List StepView → StepView → Bool
closes_nothing before step = closes step.token && not (is_open before)
