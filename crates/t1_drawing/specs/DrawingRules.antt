-- The rules on the drawing as a table: which of them a step of a glyph breaks, by the steps before it and itself. The segments are those that
-- t1_outline promises. Type 1 Font Format 1.1, chapters 2, 3, 5 and 6.
use Rattle.std.specs.Prelude.{ℕ, ◌&&◌, ◌||◌, if◌then◌else◌, Bool, true, false, Option, None, List, [], ◌∷◌, slice_index_or}
use Rattle.t1_char.specs.declared.command.Command.TheVariants.{Endchar}
use Rattle.t1_char.specs.declared.edition.Edition.{Edition}
use Rattle.t1_char.specs.declared.token.CharToken.{CharToken}
use Rattle.t1_char.specs.declared.token.CharToken.TheVariants.{Command}
use Rattle.t1_char.specs.Editions.{has_latest_rules}
use Rattle.t1_char.specs.Steps.{StepView}
use Rattle.t1_drawing.specs.declared.font_box.FontBox.{FontBox}
use Rattle.t1_drawing.specs.Areas.{runs_clockwise}
use Rattle.t1_drawing.specs.Curves.{is_flat, lacks_extreme}
use Rattle.t1_drawing.specs.FontBoxes.{font_box, is_first_outside}
use Rattle.t1_drawing.specs.Lines.{goes_straight_on, has_no_length, turns_back}
use Rattle.t1_drawing.specs.Moves.{moves_again}
use Rattle.t1_drawing.specs.Segments.{Test, one_in}
use Rattle.t1_drawing.specs.StemEdges.{sets_adjacent, sets_negative_width}
use Rattle.t1_drawing.specs.Strokes.{segments_of}
use Rattle.t1_drawing.specs.Touching.{leaves_untouched}
use Rattle.t1_font.specs.Fonts.{FontValue}
use Rattle.t1_font.specs.Keys.{index_of}
use Rattle.t1_font.specs.Values.{Value, absent}
use Rattle.t1_font.specs.declared.key.Key.TheVariants.{FontBBox}
use Rattle.t1_outline.specs.Outlines.{drawn}
use Rattle.t1_rules.specs.declared.rule.Rule.{Rule}
use Rattle.t1_rules.specs.declared.rule.Rule.TheVariants.{P04, P05, P06, P07, P08, P09, P10, P11, H08, H09, H10}
use Rattle.t1_rules.specs.FontRules.Values.{first_in, is_so_many}
use Rattle.t1_rules.specs.StepRules.{StepRule, breaks, of_step, row, step_rules}
use Rattle.t1_rules.specs.StepRules.Calls.{ends_in_glyph}

-- The end of a glyph: endchar, or the end of its charstring. An accented character by seac has none of its own.
abbrev pub is_endchar : CharToken → Bool
is_endchar (Command Endchar) = true
is_endchar _ = false

abbrev pub ends_glyph : StepView → Bool
ends_glyph step = is_endchar step.token || ends_in_glyph step

-- At the end of a glyph, its outline runs clockwise; or a stem of it isn't touched.
abbrev pub ends_clockwise : List StepView → StepView → Bool
ends_clockwise before step = ends_glyph step && runs_clockwise (segments_of before)

abbrev pub ends_untouched : List StepView → StepView → Bool
ends_untouched before step = ends_glyph step && leaves_untouched before

-- A rule that a step breaks where one of the segments that it draws does, given those before it.
abbrev pub of_segments : Rule → Test → StepRule
of_segments rule test = row rule (λ before step. one_in test (segments_of before) (drawn before step))

-- By FontBBox, if the font has one.
unfoldable pub drawing_rules : Option FontBox → List StepRule
drawing_rules box =
    -- The glyph's first line or curve that ends outside FontBBox. Type 1 Font Format, chapter 2.
    of_segments P04 (is_first_outside box)
    -- The outline runs clockwise. Type 1 Font Format, chapter 3.
    ∷ row P05 ends_clockwise
    -- A line or a curve, all of whose points are equal. Type 1 Font Format, chapter 3.
    ∷ of_segments P06 has_no_length
    -- A line turns back on the line right before it. Type 1 Font Format, chapter 3.
    ∷ of_segments P07 turns_back
    -- A line goes straight on from the line right before it. Type 1 Font Format, chapter 3.
    ∷ of_segments P08 goes_straight_on
    -- A curve has its control points on the line through its ends. Type 1 Font Format, chapter 3.
    ∷ of_segments P09 is_flat
    -- A curve goes beyond both of its ends. Type 1 Font Format, chapter 3.
    ∷ of_segments P10 lacks_extreme
    -- A move is right behind a move. Own.
    ∷ row P11 moves_again
    -- A stem isn't touched. Type 1 Font Format, chapter 5.
    ∷ row H08 ends_untouched
    -- Two stems share an edge. Type 1 Font Format, chapter 5.
    ∷ row H09 sets_adjacent
    -- A stem is of negative width. Type 1 Font Format, chapter 6.
    ∷ of_step H10 sets_negative_width
    ∷ []

-- What a step breaks of the rules that a glyph's own steps decide, by an edition.
abbrev pub breaks_own : Edition → Option FontBox → ℕ → List StepView → StepView → Bool
breaks_own edition box n before step =
    breaks (step_rules edition) n before step || (has_latest_rules edition && breaks (drawing_rules box) n before step)

-- FontBBox of a font: four numbers that are a box.
abbrev pub box_in : Value → Option FontBox
box_in value = if is_so_many 4 value then font_box (first_in 4 value) else None

abbrev pub box_of : FontValue → Option FontBox
box_of font = box_in (slice_index_or font.plain (index_of FontBBox) absent)
