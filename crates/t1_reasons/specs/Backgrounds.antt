-- The background of a step: where the open path begins and ends, and which steps before it were the last of their kinds.
use Rattle.std.specs.Prelude.{ℕ, ◌&&◌, ◌||◌, not, if◌then◌else◌, Bool, Some, List, [], ◌∷◌, ◌++◌}
use Rattle.t1_char.specs.Arguments.{is_flex_end, is_flex_start}
use Rattle.t1_char.specs.Since.{since}
use Rattle.t1_char.specs.Steps.{StepView}
use Rattle.t1_reasons.specs.declared.background.Background.{Background}
use Rattle.t1_reasons.specs.declared.background.SetTriple.{SetTriple}
use Rattle.t1_reasons.specs.declared.reason.SetStem.{SetStem}
use Rattle.t1_reasons.specs.Carried.{carried_over, last_such, last_told}
use Rattle.t1_reasons.specs.HintSets.{set_at}
use Rattle.t1_rules.specs.declared.step_rules.flex.Point.{Point}
use Rattle.t1_rules.specs.StepRules.Flex.{current_point, origin}
use Rattle.t1_rules.specs.StepRules.Paths.{closing_step, drawing, flex_start, in_flex, outer_move}
use Rattle.t1_rules.specs.StepRules.Seac.{makes_outline}
use Rattle.t1_rules.specs.StepRules.Counters.{ends_counting, is_told}
use Rattle.t1_rules.specs.StepRules.Stems.{is_stem, stem_at}
use Rattle.t1_rules.specs.StepRules.Tokens.{closes, is_line, is_move, sets_width}
use Rattle.t1_rules.specs.StepRules.Triples.{is_hstem, is_hstem3, is_vstem, is_vstem3, triple_of}

-- Where the last step outside flex left the pen: in flex it is the point at which that began.
abbrev pub outer_point_on : Point → List StepView → StepView → Point
outer_point_on point before step = if in_flex (before ++ step ∷ []) then point else current_point (before ++ step ∷ [])

abbrev pub outer_point : List StepView → Point
outer_point steps = carried_over outer_point_on origin steps

-- A move outside flex, or closepath: the next step that draws begins a path.
abbrev pub ends_path : List StepView → StepView → Bool
ends_path before step = outer_move before step || closes step.token

-- Something was drawn, and no move outside flex or closepath came since.
abbrev pub is_begun : List StepView → Bool
is_begun before = since drawing ends_path before

-- The first step of a path that draws.
abbrev pub begins_path : List StepView → StepView → Bool
begins_path before step = drawing before step && not (is_begun before)

-- Where the open path begins, whether at a move of its own or not.
abbrev pub start_on : Point → List StepView → StepView → Point
start_on start before step = if begins_path before step then outer_point before else start

abbrev pub path_start : List StepView → Point
path_start steps = carried_over start_on origin steps

-- Where the last step that drew left the pen.
abbrev pub end_on : Point → List StepView → StepView → Point
end_on end before step = if drawing before step then current_point (before ++ step ∷ []) else end

abbrev pub path_end : List StepView → Point
path_end steps = carried_over end_on origin steps

-- A step that sets sidebearing and width, whatever came before it.
abbrev pub width_step : List StepView → StepView → Bool
width_step before step = sets_width step.token

-- A command that empties the stack, or a call of an OtherSubr, whatever came before it.
abbrev pub told_step : List StepView → StepView → Bool
told_step before step = is_told step

-- The end of counter control.
abbrev pub counted_step : List StepView → StepView → Bool
counted_step before step = ends_counting step

-- The first stem of a step with its number, and its three stems.
abbrev pub first_stem : ℕ → StepView → SetStem
first_stem number step = set_at number (stem_at step.stack 0)

abbrev pub set_three : ℕ → StepView → SetTriple
set_three number step = record { triple = triple_of step; step = number }

abbrev pub background_of : List StepView → Background
background_of before = record {
  start = path_start before;
  end = path_end before;
  outer_point = outer_point before;
  is_begun = is_begun before;
  closed = last_such closing_step before;
  moved = last_such outer_move before;
  drawn = last_such drawing before;
  flex = last_such flex_start before;
  width = last_such width_step before;
  outlined = last_such makes_outline before;
  told = last_such told_step before;
  counted = last_such counted_step before;
  hstem = last_told is_hstem first_stem before;
  hstem3 = last_told is_hstem3 set_three before;
  vstem = last_told is_vstem first_stem before;
  vstem3 = last_told is_vstem3 set_three before;
}

-- The same one step further: whether that is in flex, its number, and where it leaves the pen.
abbrev pub draws_in : Bool → StepView → Bool
draws_in in_flex step = is_line step.token || (is_flex_end step && in_flex)

abbrev pub moves_in : Bool → StepView → Bool
moves_in in_flex step = is_move step.token && not in_flex

abbrev pub ends_path_in : Bool → StepView → Bool
ends_path_in in_flex step = moves_in in_flex step || closes step.token

abbrev pub is_in_flex_after : Bool → StepView → Bool
is_in_flex_after in_flex step = is_flex_start step || (in_flex && not (is_flex_end step))

abbrev pub outlines_in : Bool → StepView → Bool
outlines_in in_flex step = is_move step.token || (draws_in in_flex step || (is_stem step.token || closes step.token))

abbrev pub background_after : Background → Bool → ℕ → Point → StepView → Background
background_after background in_flex number pen step = record {
  start = if draws_in in_flex step && not background.is_begun then background.outer_point else background.start;
  end = if draws_in in_flex step then pen else background.end;
  outer_point = if is_in_flex_after in_flex step then background.outer_point else pen;
  is_begun = draws_in in_flex step || (background.is_begun && not (ends_path_in in_flex step));
  closed = if closes step.token then Some number else background.closed;
  moved = if moves_in in_flex step then Some number else background.moved;
  drawn = if draws_in in_flex step then Some number else background.drawn;
  flex = if is_flex_start step then Some number else background.flex;
  width = if sets_width step.token then Some number else background.width;
  outlined = if outlines_in in_flex step then Some number else background.outlined;
  told = if is_told step then Some number else background.told;
  counted = if ends_counting step then Some number else background.counted;
  hstem = if is_hstem step.token then Some (first_stem number step) else background.hstem;
  hstem3 = if is_hstem3 step.token then Some (set_three number step) else background.hstem3;
  vstem = if is_vstem step.token then Some (first_stem number step) else background.vstem;
  vstem3 = if is_vstem3 step.token then Some (set_three number step) else background.vstem3;
}
