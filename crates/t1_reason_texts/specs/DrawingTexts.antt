-- What the texts of reasons on the drawing are made of.
use Rattle.std.specs.Prelude.{ℕ, ℤ, ◌==◌, if◌then◌else◌, Option, None, Some, List, [], ◌++◌, codes}
use Rattle.std.specs.Fmt.{decimal}
use Rattle.t1_drawing.specs.declared.direction.Direction.{Direction}
use Rattle.t1_drawing.specs.declared.direction.Direction.TheVariants.{Across, Upright}
use Rattle.t1_drawing.specs.declared.font_box.FontBox.{FontBox}
use Rattle.t1_drawing.specs.FontBoxes.{is_over, is_under}
use Rattle.t1_drawing.specs.declared.touching.UntouchedStem.{UntouchedStem}
use Rattle.t1_reason_texts.specs.declared.decimals.Exact.{Exact}
use Rattle.t1_reason_texts.specs.declared.decimals.Unit.TheVariants.{Area, OnCurve}
use Rattle.t1_reason_texts.specs.declared.drawing_texts.Side.{Side}
use Rattle.t1_reason_texts.specs.declared.drawing_texts.Side.TheVariants.{Above, Below, Left, Right}
use Rattle.t1_reason_texts.specs.Decimals.{coordinate_of, coordinate_text, exact_text, point_text, text_in, value_of}
use Rattle.t1_reason_texts.specs.Words.{counted_text}
use Rattle.t1_reasons.specs.declared.reason.SubpathTurns.{SubpathTurns}
use Rattle.t1_rules.specs.declared.rule.Rule.{Rule}
use Rattle.t1_rules.specs.declared.rule.Rule.TheVariants.{P06, P07, P08}
use Rattle.t1_rules.specs.declared.step_rules.flex.Point.{Point}

-- P04: the first side on which a point is outside.
abbrev pub side_of : Point → FontBox → Side
side_of p box =
    if is_under box.left p.x then Left
    else (if is_over box.right p.x then Right else (if is_under box.bottom p.y then Below else Above))

-- The coordinate, what is said of it, and the edge of FontBBox.
abbrev pub side_axis : Side → List ℕ
side_axis Left = codes "x"
side_axis Right = codes "x"
side_axis Below = codes "y"
side_axis Above = codes "y"

abbrev pub side_place : Side → Point → Exact
side_place Left p = coordinate_of p.x
side_place Right p = coordinate_of p.x
side_place Below p = coordinate_of p.y
side_place Above p = coordinate_of p.y

abbrev pub side_words : Side → List ℕ
side_words Left = codes " is left of FontBBox, which begins at "
side_words Right = codes " is right of FontBBox, which ends at "
side_words Below = codes " is below FontBBox, which begins at "
side_words Above = codes " is above FontBBox, which ends at "

abbrev pub side_edge : Side → FontBox → Exact
side_edge Left box = value_of box.left
side_edge Right box = value_of box.right
side_edge Below box = value_of box.bottom
side_edge Above box = value_of box.top

abbrev pub side_text : Side → Point → FontBox → List ℕ
side_text side p box = side_axis side ++ (codes " " ++ (exact_text (side_place side p) ++ (side_words side ++ exact_text (side_edge side box))))

abbrev pub outside_text : Point → FontBox → List ℕ
outside_text p box = side_text (side_of p box) p box

-- P05.
abbrev pub clockwise_text : SubpathTurns → List ℕ
clockwise_text turns =
    if turns.clockwise == 1 then codes " is clockwise, from step " ++ decimal turns.first
    else codes " are clockwise, the first from step " ++ decimal turns.first

abbrev pub turns_text : SubpathTurns → List ℕ
turns_text turns = decimal turns.clockwise ++ (codes " of " ++ (counted_text turns.subpaths (codes "subpath") ++ clockwise_text turns))

abbrev pub area_text : ℤ → SubpathTurns → List ℕ
area_text twentyfold turns = codes "the area is " ++ (text_in Area twentyfold ++ (codes "; " ++ turns_text turns))

-- P06 to P09: where a line or a curve begins and ends, beside the line right before it where the rule speaks of two.
abbrev pub way_text : Point → Point → List ℕ
way_text start end = codes "from " ++ (point_text start ++ (codes " to " ++ point_text end))

abbrev pub drawn_text : Rule → Option Point → Point → Point → List ℕ
drawn_text P06 line_start start end = codes "all its points are " ++ point_text start
drawn_text P07 (Some first) start end = way_text start end ++ (codes ", back over the line from " ++ point_text first)
drawn_text P08 (Some first) start end = way_text start end ++ (codes ", straight on from the line from " ++ point_text first)
drawn_text _ line_start start end = way_text start end ++ codes ", all on one straight line"

abbrev pub stroke_text : Rule → Option Point → Option Point → Option Point → List ℕ
stroke_text rule line_start (Some start) (Some end) = drawn_text rule line_start start end
stroke_text rule line_start start end = []

-- The coordinate that stems of a direction bound.
abbrev pub axis_word : Direction → List ℕ
axis_word Across = codes "y"
axis_word Upright = codes "x"

-- P10.
abbrev pub quarters_word : ℕ → List ℕ
quarters_word quarters = if quarters == 1 then codes "1/4" else (if quarters == 2 then codes "1/2" else codes "3/4")

unfoldable pub place_text : Direction → ℕ → ℤ → List ℕ
place_text direction quarters place = axis_word direction ++ (codes " is " ++ (text_in OnCurve place ++ (codes " at " ++ quarters_word quarters)))

abbrev pub beyond_text : Direction → ℕ → ℤ → ℤ → ℤ → List ℕ
beyond_text direction quarters place start end =
    place_text direction quarters place
    ++ (codes " of the curve, its ends are at " ++ (coordinate_text start ++ (codes " and " ++ coordinate_text end)))

-- H08.
abbrev pub more_text : ℕ → List ℕ
more_text more = if more == 0 then [] else codes ", and " ++ (decimal more ++ codes " more")

abbrev pub nearest_text : Direction → Option ℤ → List ℕ
nearest_text direction None = codes "; nothing is drawn after it"
nearest_text direction (Some place) = codes "; the nearest point is at " ++ (axis_word direction ++ (codes " " ++ coordinate_text place))

abbrev pub untouched_text : UntouchedStem → ℕ → Option ℤ → List ℕ
untouched_text stem step nearest =
    codes "the stem from " ++ (coordinate_text stem.low ++ (codes " to " ++ (coordinate_text stem.high
    ++ (codes " in " ++ (axis_word stem.direction ++ (codes ", set at step " ++ (decimal step
    ++ (more_text stem.more ++ nearest_text stem.direction nearest))))))))
