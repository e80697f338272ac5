-- What the steps of a glyph draw: moves, lines, curves, and where a subpath is closed. Type 1 Font Format 1.1, chapters
-- 6 and 8. Which flex is drawn, and that a line or a curve without a move begins a subpath, is this project's own.
use Rattle.std.specs.Prelude.{ℕ, ℤ, pos, ◌+◌, ◌&&◌, ◌||◌, not, if◌then◌else◌, Bool, Option, Some, None, List, [], ◌∷◌, ◌++◌, length, map, take}
use Rattle.t1_char.specs.declared.command.Command.{Command as Commands}
use Rattle.t1_char.specs.declared.command.Command.TheVariants.{Vlineto, Rlineto, Hlineto, Rrcurveto, Vhcurveto, Hvcurveto}
use Rattle.t1_char.specs.declared.edition.Edition.{Edition}
use Rattle.t1_char.specs.declared.token.CharToken.{CharToken}
use Rattle.t1_char.specs.declared.token.CharToken.TheVariants.{Command}
use Rattle.t1_char.specs.Arguments.{argument, is_flex_end, is_flex_point, is_flex_start}
use Rattle.t1_char.specs.Editions.{limit_of}
use Rattle.t1_char.specs.Since.{Test, since}
use Rattle.t1_char.specs.Steps.{StepView, steps_of}
use Rattle.t1_font.specs.Fonts.{FontValue}
use Rattle.t1_outline.specs.declared.segment.Segment.{Segment}
use Rattle.t1_outline.specs.declared.segment.Segment.TheVariants.{Move, Line, Curve, Close}
use Rattle.t1_rules.specs.declared.step_rules.flex.Point.{Point}
use Rattle.t1_rules.specs.StepRules.Flex.{at, commands_in_flex, counts_no_pairs, current_point, plus, starts_in_flex}
use Rattle.t1_rules.specs.StepRules.Paths.{closing_step, in_flex, outer_move}
use Rattle.t1_rules.specs.StepRules.Tokens.{closes, is_line, is_move}

-- A line and a curve from a point on, by the ways from each of their points to the next.
abbrev pub line : Point → Point → Segment
line start way = Line (plus start way)

abbrev pub curve : Point → Point → Point → Point → Segment
curve start one two three =
    Curve (plus start one) (plus (plus start one) two) (plus (plus (plus start one) two) three)

-- The line or the curve of a command, from a point on, by the stack.
abbrev pub stroke_by : Point → List ℤ → Commands → Option Segment
stroke_by start v Rlineto = Some (line start (at (argument v 0) (argument v 1)))
stroke_by start v Hlineto = Some (line start (at (argument v 0) (pos 0)))
stroke_by start v Vlineto = Some (line start (at (pos 0) (argument v 0)))
stroke_by start v Rrcurveto =
    Some (curve start (at (argument v 0) (argument v 1)) (at (argument v 2) (argument v 3)) (at (argument v 4) (argument v 5)))
stroke_by start v Vhcurveto =
    Some (curve start (at (pos 0) (argument v 0)) (at (argument v 1) (argument v 2)) (at (argument v 3) (pos 0)))
stroke_by start v Hvcurveto =
    Some (curve start (at (argument v 0) (pos 0)) (at (argument v 1) (argument v 2)) (at (pos 0) (argument v 3)))
stroke_by start v _ = None

abbrev pub stroke_at : Point → List ℤ → CharToken → Option Segment
stroke_at start v (Command command) = stroke_by start v command
stroke_at start v _ = None

abbrev pub stroke : Point → StepView → Option Segment
stroke start step = stroke_at start step.stack step.token

-- A flex is spoiled by a further start (X01); by a command in it that is no move (X03); by a point that isn't after its
-- move, or an end that isn't after seven of each (X04).
abbrev pub spoils_flex : Test
spoils_flex before step =
    starts_in_flex before step || (commands_in_flex before step || counts_no_pairs before step)

abbrev pub begins_flex : Test
begins_flex before step = is_flex_start step && not (in_flex before)

-- The last flex that was begun is spoiled.
abbrev pub is_spoiled : List StepView → Bool
is_spoiled steps = since spoils_flex begins_flex steps

-- The end of a flex that isn't spoiled up to its end: only such a flex is drawn.
abbrev pub draws_flex : Test
draws_flex before step = is_flex_end step && in_flex before && not (is_spoiled (before ++ step ∷ []))

-- Where the current point was when the last flex started, and at each of its points.
abbrev pub places_on : List Point → List StepView → StepView → List Point
places_on places before step =
    if is_flex_start step then current_point before ∷ []
    else (if is_flex_point step then places ++ current_point before ∷ [] else places)

abbrev pub places_from : List Point → List StepView → List StepView → List Point
places_from places before [] = places
places_from places before (step ∷ steps) = places_from (places_on places before step) (before ++ step ∷ []) steps

abbrev pub flex_places : List StepView → List Point
flex_places steps = places_from [] [] steps

-- There is a subpath: a move outside flex, a line, a curve or a flex that is drawn, and no closepath since.
abbrev pub makes_subpath : Test
makes_subpath before step = outer_move before step || (is_line step.token || draws_flex before step)

abbrev pub has_subpath : List StepView → Bool
has_subpath before = since makes_subpath closing_step before

-- A move begins a subpath outside flex, and a closepath closes one that is there: such a step draws nothing else.
abbrev pub begins_or_closes : Test
begins_or_closes before step = is_move step.token || (closes step.token && has_subpath before)

-- Lines and curves from a point on, which begin a subpath there where there is none.
abbrev pub with_opening : Bool → Point → List Segment → List Segment
with_opening there start strokes = if there then strokes else Move start ∷ strokes

-- The two curves of a flex: from its start, through its points but the first, which is its reference point. Chapter
-- 8.3.
abbrev pub flex_curves : Bool → List Point → List Segment
flex_curves there (start ∷ reference ∷ a ∷ b ∷ c ∷ d ∷ e ∷ f ∷ []) =
    with_opening there start (Curve a b c ∷ Curve d e f ∷ [])
flex_curves there _ = []

-- A line or a curve, or where closepath closes the subpath.
abbrev pub drawn_by : Bool → Point → Bool → Option Segment → List Segment
drawn_by there start closing (Some s) = with_opening there start (s ∷ [])
drawn_by there start closing None = if closing && there then Close ∷ [] else []

-- What a step draws after others: a move outside flex leads to the current point after it; a flex draws its curves at
-- its end.
abbrev pub drawn : List StepView → StepView → List Segment
drawn before step =
    if outer_move before step then Move (current_point (before ++ step ∷ [])) ∷ []
    else (if draws_flex before step then flex_curves (has_subpath before) (flex_places before)
    else drawn_by (has_subpath before) (current_point before) (closes step.token) (stroke (current_point before) step))

-- A segment, the number of the step that draws it, and the Subrs that are being executed there.
pub record DrawnView : Type 0 where
  pub segment : Segment
  pub step : ℕ
  pub path : List ℕ

abbrev pub placed : ℕ → List ℕ → Segment → DrawnView
placed number path segment = record { segment = segment; step = number; path = path }

-- What steps draw after others.
abbrev pub drawn_from : List StepView → List StepView → List DrawnView
drawn_from before [] = []
drawn_from before (step ∷ steps) =
    map (placed (length before + 1) step.path) (drawn before step) ++ drawn_from (before ++ step ∷ []) steps

abbrev pub drawn_of : List StepView → List DrawnView
drawn_of steps = drawn_from [] steps

-- The outline of a glyph: what its steps draw, up to the limit of the edition.
abbrev pub outline_of : Edition → FontValue → ℕ → List DrawnView
outline_of edition font glyph = drawn_of (take (limit_of edition) (steps_of font glyph))
