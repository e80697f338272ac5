-- What the reasons of faults show in the drawing: the stems, zones, points, lines and curves that they name. Type 1 Font Format 1.1,
-- chapters 2, 3, 5, 6 and 8.
use Rattle.std.specs.Prelude.{ℕ, zero, suc, ℤ, ◌+◌, ◌-ℤ◌, ◌*◌, ◌/◌, ◌%◌, if◌then◌else◌, Bool, true, false, Option, None, Some, List, [], ◌∷◌, ◌++◌, slice_get}
use Rattle.std.specs.Option.{option_map, option_to_list}
use Rattle.t1_char.specs.declared.edition.Edition.{Edition}
use Rattle.t1_char.specs.declared.token.CharToken.{CharToken}
use Rattle.t1_char.specs.Steps.{StepView}
use Rattle.t1_font.specs.declared.key.Key.{Key}
use Rattle.t1_font.specs.declared.key.Key.TheVariants.{BlueValues, OtherBlues}
use Rattle.t1_font.specs.Fonts.{FontValue}
use Rattle.t1_font.specs.Values.{Value, numbers}
use Rattle.t1_drawing.specs.declared.direction.Direction.{Direction}
use Rattle.t1_drawing.specs.declared.direction.Direction.TheVariants.{Across, Upright}
use Rattle.t1_drawing.specs.declared.touching.UntouchedStem.{UntouchedStem}
use Rattle.t1_drawing.specs.Touching.{coordinate}
use Rattle.t1_outline.specs.declared.segment.Segment.{Segment}
use Rattle.t1_picture.specs.declared.causes.Cause.{Cause}
use Rattle.t1_picture.specs.declared.causes.Cause.TheVariants.{Accent, Base, Coordinate, Ends, Miss as Missed, Outside as OutsideBox, Stem as NamedOne, Stroke as DrawnStroke, Turns, Untouched as LeftAlone, Zone}
use Rattle.t1_picture.specs.declared.causes.Role.{Role}
use Rattle.t1_picture.specs.declared.causes.Role.TheVariants.{Other, Own}
use Rattle.t1_picture.specs.declared.causes.StemPlace.{StemPlace}
use Rattle.t1_picture.specs.Bounds.{kept}
use Rattle.t1_picture.specs.Bands.{band_of, lower_edge, upper_edge}
use Rattle.t1_reason_texts.specs.declared.decimals.Unit.TheVariants.{OnCurve}
use Rattle.t1_reason_texts.specs.Decimals.{coordinate_of, in_unit}
use Rattle.t1_reasons.specs.declared.reason.Reason.{Reason}
use Rattle.t1_reasons.specs.declared.reason.Reason.TheVariants.{Area, Beyond, Codes, Miss, Open, Outside, Sidebearings, Stem as OneStem, Stems, Stroke, Triple, Untouched, Zones}
use Rattle.t1_rules.specs.declared.rule.Rule.{Rule}
use Rattle.t1_rules.specs.declared.rule.Rule.TheVariants.{K04, K07, P07, P08}
use Rattle.t1_rules.specs.declared.step_rules.flex.Point.{Point}
use Rattle.t1_rules.specs.declared.step_rules.stems.Stem.{Stem}
use Rattle.t1_rules.specs.Keys.{index_count, key_among, value_at}
use Rattle.t1_rules.specs.StepRules.Stems.{lies_across, stands_upright}
use Rattle.t1_rules.specs.StepRules.Tokens.{is_command}

-- ---- stems

-- The direction of the stems that a token sets, if it sets some.
abbrev pub direction_of : CharToken → Option Direction
direction_of token =
    if is_command lies_across token then Some Across
    else (if is_command stands_upright token then Some Upright else None)

-- That of a step, where it is there, by its number from 1.
abbrev pub direction_of_step : Option StepView → Option Direction
direction_of_step None = None
direction_of_step (Some step) = direction_of step.token

abbrev pub direction_among : List StepView → ℕ → Option Direction
direction_among steps zero = None
direction_among steps (suc place) = direction_of_step (slice_get steps place)

-- A stem that a reason names: its band, as the bands in force are placed, and its edges, as the font counts them. Positions count from the
-- sidebearing point.
abbrev pub named_stem : Edition → Point → Role → Stem → Direction → Cause
named_stem edition start role stem direction =
    NamedOne (record {
      band = band_of direction (coordinate direction start) edition stem;
      lower = lower_edge edition stem;
      upper = upper_edge edition stem;
      role = role;
    })

-- None, where the step sets no stems.
abbrev pub stem_at : StemPlace → Role → Stem → Option Cause
stem_at place role stem = option_map (named_stem place.edition place.start role stem) place.direction

abbrev pub stem_cause : StemPlace → Role → Stem → List Cause
stem_cause place role stem = option_to_list (stem_at place role stem)

-- A stem that nothing touches: its edges are absolute.
abbrev pub untouched_stem : Point → UntouchedStem → Cause
untouched_stem start stem =
    LeftAlone (record {
      band = record { direction = stem.direction; lower = stem.low; upper = stem.high };
      lower = kept (stem.low -ℤ coordinate stem.direction start);
      upper = kept (stem.high -ℤ coordinate stem.direction start);
      role = Own;
    })

-- The coordinate of the point which is nearest to it, if there is one.
abbrev pub nearest_point : Direction → Option ℤ → Option Cause
nearest_point direction None = None
nearest_point direction (Some number) = Some (Coordinate direction (coordinate_of number))

-- ---- zones

-- The zone of two numbers of a list, where both are there.
abbrev pub zone_by : Option ℤ → Option ℤ → Option Cause
zone_by (Some low) (Some high) = Some (Zone (record { lower = low; upper = high }))
zone_by _ _ = None

-- Numbers make zones by pairs: the one that has the number of an index.
abbrev pub zone_in : Value → ℕ → Option Cause
zone_in (numbers count first) index = zone_by (slice_get first (2 * (index / 2))) (slice_get first (2 * (index / 2) + 1))
zone_in _ index = None

-- The zones that are drawn are those of BlueValues and OtherBlues.
abbrev pub zone_key : ℕ → Option Key
zone_key key = key_among (BlueValues ∷ OtherBlues ∷ []) key

abbrev pub zone_of_key : FontValue → Option Key → ℕ → Option Cause
zone_of_key font None index = None
zone_of_key font (Some key) index = zone_in (value_at font key) index

-- The zone that a fault of the font is at, by its step.
abbrev pub zone_at : FontValue → ℕ → Option Cause
zone_at font step = zone_of_key font (zone_key (step / index_count)) (step % index_count)

-- ---- lines and curves

-- P07 and P08 compare a line with the one right before it.
abbrev pub line_before : Rule → Option Point → Option Point
line_before P07 line_start = line_start
line_before P08 line_start = line_start
line_before _ line_start = None

-- A line or a curve, if it is known where it begins.
abbrev pub stroke_of : Rule → Option Point → Option Point → Segment → Option Cause
stroke_of rule line_start None segment = None
stroke_of rule line_start (Some start) segment = Some (DrawnStroke (line_before rule line_start) start segment)

-- ---- components

-- K04 and K07 tell the codes of both components, and may mean either. K01 to K03 speak of one that isn't there.
abbrev pub means_components : Rule → Bool
means_components K04 = true
means_components K07 = true
means_components _ = false

abbrev pub component_causes : Rule → List Cause
component_causes rule = if means_components rule then Base ∷ Accent ∷ [] else []

-- ---- all of them

-- What a reason names, given where the stems of its step are: H02 to H10, K04, K05, K07, P02, P04 to P10, X05 and Z06.
abbrev pub causes_in : StemPlace → Rule → Reason → List Cause
causes_in place rule (Stems own other) = stem_cause place Own own ++ stem_cause place Other other.stem
causes_in place rule (OneStem stem) = stem_cause place Own stem
causes_in place rule (Triple one two three) = stem_cause place Own one ++ (stem_cause place Own two ++ stem_cause place Own three)
causes_in place rule (Miss named pen) = Missed named pen ∷ []
causes_in place rule (Open start pen) = Ends start pen ∷ []
causes_in place rule (Codes base accent) = component_causes rule
causes_in place rule (Sidebearings told own) = Accent ∷ []
causes_in place rule (Zones own other distance) = Zone other ∷ []
causes_in place rule (Outside point box) = OutsideBox point box ∷ []
causes_in place rule (Stroke line_start start segment) = option_to_list (stroke_of rule line_start start segment)
causes_in place rule (Beyond direction quarters number from to) = Coordinate direction (in_unit OnCurve number) ∷ []
causes_in place rule (Area twentyfold turns) = Turns ∷ []
causes_in place rule (Untouched stem step nearest) = untouched_stem place.start stem ∷ option_to_list (nearest_point stem.direction nearest)
causes_in place rule _ = []

abbrev pub causes_of_reason : StemPlace → Rule → Option Reason → List Cause
causes_of_reason place rule None = []
causes_of_reason place rule (Some reason) = causes_in place rule reason

-- One of some is which way subpaths run, the base, or the accent.
abbrev pub is_turns : Cause → Bool
is_turns Turns = true
is_turns _ = false

abbrev pub is_base : Cause → Bool
is_base Base = true
is_base _ = false

abbrev pub is_accent : Cause → Bool
is_accent Accent = true
is_accent _ = false
