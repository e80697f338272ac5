-- What the steps of a part draw, and what isn't drawn. Type 1 Font Format 1.1, chapters 6 and 8.
use Rattle.std.specs.Prelude.{ℕ, ℤ, ◌+◌, ◌-◌, ◌==◌, ◌&&◌, nat_lt, if◌then◌else◌, Bool, true, false, Option, None, Some, List, [], ◌∷◌, ◌++◌, codes, length, map, slice_get, take}
use Rattle.std.specs.Fmt.{decimal}
use Rattle.std.specs.List.{flat_map}
use Rattle.std.specs.Option.{option_map}
use Rattle.t1_char.specs.declared.edition.Edition.{Edition}
use Rattle.t1_char.specs.Arguments.{is_flex_end}
use Rattle.t1_char.specs.Editions.{limit_of}
use Rattle.t1_char.specs.Steps.{StepView, steps_of}
use Rattle.t1_char.specs.Turns.{step_of_number}
use Rattle.t1_font.specs.Fonts.{FontValue}
use Rattle.t1_outline.specs.declared.segment.Segment.{Segment}
use Rattle.t1_outline.specs.Outlines.{DrawnView, drawn, drawn_of}
use Rattle.t1_outline.specs.Parts.{composition_of, sidebearing_by}
use Rattle.t1_picture.specs.declared.bands.Band.{Band}
use Rattle.t1_drawing.specs.declared.direction.Direction.{Direction}
use Rattle.t1_drawing.specs.declared.direction.Direction.TheVariants.{Across, Upright}
use Rattle.t1_picture.specs.Arrows.{arrows_from}
use Rattle.t1_picture.specs.Bands.{band_of}
use Rattle.t1_picture.specs.Layers.{LayersView, begun, segment_text, with_bands, with_gap, with_segments}
use Rattle.t1_picture.specs.Subpaths.{behind, no_subpath, placed}
use Rattle.t1_picture.specs.Texts.{legible_line}
use Rattle.t1_report.specs.Traces.{step_line}
use Rattle.t1_rules.specs.declared.step_rules.flex.Point.{Point}
use Rattle.t1_rules.specs.declared.step_rules.stems.Stem.{Stem}
use Rattle.t1_rules.specs.StepRules.Paths.{in_flex, leaves_open}
use Rattle.t1_rules.specs.StepRules.Stems.{hint_set, lies_across, stands_upright}

-- A part that is drawn: a glyph, by its place, where its origin is, how many of its steps are drawn at most, the step whose
-- stretch is thick, and what is before each note on it.
pub record PartView : Type 0 where
  pub font : FontValue
  pub edition : Edition
  pub glyph : ℕ
  pub origin : Point
  pub last : ℕ
  pub thick : Option ℕ
  pub label : List ℕ

-- Its steps, up to the limit of the edition, and those that are drawn.
abbrev pub limited_steps : PartView → List StepView
limited_steps part = take (limit_of part.edition) (steps_of part.font part.glyph)

abbrev pub drawn_steps : PartView → List StepView
drawn_steps part = take part.last (limited_steps part)

-- ---- layers

abbrev pub is_step : Option ℕ → ℕ → Bool
is_step None number = false
is_step (Some n) number = n == number

-- The stretch that P02 speaks of is left open where something is drawn.
abbrev pub with_gap_if : Bool → LayersView → LayersView
with_gap_if leaves_open l = if leaves_open && l.subpath.is_drawn then with_gap l else l

-- What a step draws, by its number.
abbrev pub with_step : PartView → ℕ → Bool → List Segment → LayersView → LayersView
with_step part number leaves_open segments l =
    with_segments part.origin (is_step part.thick number) (with_gap_if leaves_open l) segments

-- What steps draw after others.
abbrev pub with_steps : PartView → LayersView → List StepView → List StepView → LayersView
with_steps part l before [] = l
with_steps part l before (step ∷ steps) =
    with_steps part (with_step part (length before + 1) (leaves_open before step) (drawn before step) l)
    (before ++ step ∷ []) steps

-- The bands of a hint set, given what positions count from.
abbrev pub bands_of : Direction → ℤ → Edition → List Stem → List Band
bands_of direction start edition stems = map (band_of direction start edition) stems

-- Where the sidebearing point is.
abbrev pub start_of : PartView → Point
start_of part = behind part.origin (sidebearing_by (composition_of (drawn_steps part)).metrics)

-- The stems that are in force after the last step drawn, those across and then those upright.
abbrev pub with_stems : PartView → LayersView → LayersView
with_stems part l =
    with_bands
    (with_bands l (bands_of Across (start_of part).y part.edition (hint_set lies_across (drawn_steps part))))
    (bands_of Upright (start_of part).x part.edition (hint_set stands_upright (drawn_steps part)))

abbrev pub with_part : PartView → LayersView → LayersView
with_part part l = with_stems part (with_steps part (begun l) [] (drawn_steps part))

-- The outline of a part, as data of a path: the segments that its steps draw, where its origin is.
abbrev pub part_outline : PartView → List ℕ
part_outline part = flat_map (λ d. segment_text (placed part.origin d.segment)) (drawn_of (drawn_steps part))

-- The segments that its steps draw, where its origin is, and their arrows.
abbrev pub placed_in : PartView → DrawnView → Segment
placed_in part d = placed part.origin d.segment

abbrev pub part_arrows : PartView → List ℕ
part_arrows part = arrows_from no_subpath (map (placed_in part) (drawn_of (drawn_steps part)))

-- ---- notes

abbrev pub note_if : Bool → List ℕ → List (List ℕ)
note_if holds note = if holds then note ∷ [] else []

abbrev pub is_none : List Segment → Bool
is_none [] = true
is_none (s ∷ ss) = false

-- A flex that ends and isn't drawn.
abbrev pub flex_note : List ℕ → ℕ → StepView → List Segment → List (List ℕ)
flex_note label number step segments =
    note_if (is_flex_end step && is_none segments)
    (label ++ (codes "flex that ends at step " ++ (decimal number ++ codes " isn't drawn")))

abbrev pub flex_notes : List ℕ → List StepView → List StepView → List (List ℕ)
flex_notes label before [] = []
flex_notes label before (step ∷ steps) =
    flex_note label (length before + 1) step (drawn before step) ++ flex_notes label (before ++ step ∷ []) steps

-- Steps are after the limit, and would be drawn.
abbrev pub is_past_limit : PartView → Bool
is_past_limit part =
    nat_lt (limit_of part.edition) (length (steps_of part.font part.glyph)) && nat_lt (length (limited_steps part)) part.last

-- What is where the steps end that are drawn: a flex without an end, and the limit.
abbrev pub unended_note : List ℕ → List ℕ
unended_note label = label ++ codes "flex without an end isn't drawn"

abbrev pub limit_note : List ℕ → ℕ → List ℕ
limit_note label limit =
    label ++ (codes "step limit: nothing behind step " ++ (decimal limit ++ codes " is drawn"))

abbrev pub end_notes : PartView → List (List ℕ)
end_notes part =
    note_if (in_flex (drawn_steps part)) (unended_note part.label)
    ++ note_if (is_past_limit part) (limit_note part.label (limit_of part.edition))

abbrev pub part_notes : PartView → List (List ℕ)
part_notes part = flex_notes part.label [] (drawn_steps part) ++ end_notes part

-- ---- the last step

-- The last step that was requested, as a trace has it, where it is there.
abbrev pub line_of_step : ℕ → StepView → List ℕ
line_of_step number step = legible_line (step_line (step_of_number number step))

abbrev pub last_step_of : PartView → Option (List ℕ)
last_step_of part =
    if part.last == 0 then None
    else option_map (line_of_step part.last) (slice_get (limited_steps part) (part.last - 1))
