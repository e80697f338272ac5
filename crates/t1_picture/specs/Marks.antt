-- The faults that are shown: where their marks are, what their reasons name, and their lines.
use Rattle.std.specs.Prelude.{◌≡◌, ℕ, ◌+◌, ◌-◌, min, nat_le, if◌then◌else◌, Bool, Option, None, Some, List, [], ◌∷◌, ◌++◌, codes, take, unwrap_or, ◌==◌}
use Rattle.std.specs.List.{count_by, flat_map, list_any}
use Rattle.std.specs.Option.{option_to_list}
use Rattle.t1_char.specs.Editions.{limit_of}
use Rattle.t1_char.specs.Steps.{StepView, steps_of}
use Rattle.t1_font.specs.Fonts.{FontValue, glyph_name}
use Rattle.t1_outline.specs.declared.parts.SeacPart.{SeacPart}
use Rattle.t1_outline.specs.declared.parts.SeacPart.TheVariants.{There}
use Rattle.t1_outline.specs.declared.parts.SeacParts.{SeacParts}
use Rattle.t1_drawing.specs.declared.direction.Direction.{Direction}
use Rattle.t1_picture.specs.declared.causes.Cause.{Cause}
use Rattle.t1_picture.specs.declared.causes.StemPlace.{StemPlace}
use Rattle.t1_picture.specs.declared.faults.FaultLayers.{FaultLayers}
use Rattle.t1_picture.specs.declared.faults.Faults.{Faults}
use Rattle.t1_picture.specs.declared.marks.FaultMark.{FaultMark}
use Rattle.t1_picture.specs.Causes.{causes_of_reason, direction_among, is_accent, is_base, zone_at}
use Rattle.t1_picture.specs.Drawings.{all_steps, component_part, components_of, own_part, texts_of}
use Rattle.t1_picture.specs.Parts.{part_outline, start_of}
use Rattle.t1_picture.specs.Subjects.{ShownValue, Subject, everything, one_fault, step_of, up_to as steps_up_to}
use Rattle.t1_picture.specs.Subpaths.{same_point}
use Rattle.t1_picture.specs.Texts.{legible_line}
use Rattle.t1_reason_texts.specs.Texts.{reason_text, says_more}
use Rattle.t1_reasons.specs.Reported.{fault_reason}
use Rattle.t1_reasons.specs.declared.reason.Reason.{Reason}
use Rattle.t1_report.specs.Checked.{checked}
use Rattle.t1_report.specs.Faults.{FaultValue}
use Rattle.t1_report.specs.Lines.{line_of}
use Rattle.t1_report.specs.UnitFaults.{AreOfUnit}
use Rattle.t1_report.specs.Waivers.{Waiver, is_waived}
use Rattle.t1_rules.specs.declared.rule.Rule.{Rule}
use Rattle.t1_rules.specs.declared.step_rules.flex.Point.{Point}
use Rattle.t1_rules.specs.Book.{number_of}
use Rattle.t1_rules.specs.StepRules.Flex.{current_point}

-- The faults of the glyph with these waivers, in the order of the report.
abbrev pub AreShownOf : Subject → List Waiver → List FaultValue → Type 0
AreShownOf s waivers faults = AreOfUnit (checked s.font s.edition) waivers (s.glyph + 1) faults

-- Those up to a step.
abbrev pub up_to : ℕ → List FaultValue → List FaultValue
up_to last [] = []
up_to last (fault ∷ faults) = if nat_le fault.step last then fault ∷ up_to last faults else []

-- How many steps are drawn at most.
abbrev pub last_of : Subject → ℕ
last_of s = unwrap_or (step_of s) all_steps

-- The faults that are shown; there are never more than 2^64.
abbrev pub shown_of : Subject → List FaultValue → List FaultValue
shown_of s faults = take all_steps (up_to (last_of s) faults)

-- ---- marks

-- The steps of the glyph, and the pen before one.
abbrev pub glyph_steps : Subject → List StepView
glyph_steps s = take (limit_of s.edition) (steps_of s.font s.glyph)

abbrev pub pen_at : Subject → ℕ → Point
pen_at s number = current_point (take (number - 1) (glyph_steps s))

-- A mark has the numbers of faults that follow one another and are at its point.
abbrev pub mark_of_one : Point → ℕ → FaultMark
mark_of_one point number = record { point = point; first = number; last = number }

abbrev pub mark_with : FaultMark → ℕ → FaultMark
mark_with mark number = record { point = mark.point; first = mark.first; last = number }

-- The marks of faults, after one to which the next can still be added.
abbrev pub marks_from : Subject → Option FaultMark → List FaultValue → List FaultMark
marks_from s None [] = []
marks_from s (Some mark) [] = mark ∷ []
marks_from s None (fault ∷ faults) = marks_from s (Some (mark_of_one (pen_at s fault.step) fault.number)) faults
marks_from s (Some mark) (fault ∷ faults) =
    if same_point mark.point (pen_at s fault.step) then marks_from s (Some (mark_with mark fault.number)) faults
    else mark ∷ marks_from s (Some (mark_of_one (pen_at s fault.step) fault.number)) faults

-- ---- lines

-- Why a fault is there.
abbrev pub reason_of : Subject → FaultValue → Option Reason
reason_of s fault = fault_reason (checked s.font s.edition) s.waivers fault

-- Three blanks, and the text of the reason.
abbrev pub reason_line : FontValue → Rule → Reason → List ℕ
reason_line font rule reason = codes "   " ++ reason_text font rule reason

-- None, if it doesn't say more than the line.
abbrev pub reason_lines : FontValue → Rule → Option Reason → List (List ℕ)
reason_lines font rule None = []
reason_lines font rule (Some reason) = if says_more reason then reason_line font rule reason ∷ [] else []

-- The line of a fault, as t1check writes it, without its end; below it why its rule is broken.
abbrev pub fault_lines : Subject → FaultValue → List (List ℕ)
fault_lines s fault = legible_line (line_of s.font s.waivers fault) ∷ reason_lines s.font fault.rule (reason_of s fault)

abbrev pub lines_of : Subject → List FaultValue → List (List ℕ)
lines_of s faults = flat_map (fault_lines s) faults

-- ---- waived

-- How many of the faults that there are without waivers are waived.
abbrev pub is_waived_of : Subject → FaultValue → Bool
is_waived_of s fault = is_waived s.waivers (glyph_name s.font s.glyph) (number_of fault.rule)

abbrev pub waived_of : Subject → List FaultValue → ℕ
waived_of s faults = min (count_by (is_waived_of s) (shown_of s faults)) all_steps

-- ---- causes

-- The direction of the stems of a fault's step, and where they are: as the stems in force are placed.
abbrev pub direction_at : Subject → FaultValue → Option Direction
direction_at s fault = if fault.unit == 0 then None else direction_among (glyph_steps s) fault.step

abbrev pub place_of_stems : Subject → FaultValue → StemPlace
place_of_stems s fault =
    record { edition = s.edition; start = start_of (own_part s); direction = direction_at s fault }

-- What a fault's reason names, and of a fault of the font the zone that it is at.
abbrev pub zone_of : Subject → FaultValue → List Cause
zone_of s fault = if fault.unit == 0 then option_to_list (zone_at s.font fault.step) else []

abbrev pub causes_of : Subject → FaultValue → List Cause
causes_of s fault = zone_of s fault ++ causes_of_reason (place_of_stems s fault) fault.rule (reason_of s fault)

abbrev pub all_causes : Subject → List FaultValue → List Cause
all_causes s faults = flat_map (causes_of s) faults

-- The outlines of the components among some causes, where they are drawn.
abbrev pub component_outline : Subject → SeacPart → List ℕ
component_outline s (There part) = part_outline (component_part s [] part)
component_outline s _ = []

abbrev pub outline_if : Bool → Subject → SeacPart → List ℕ
outline_if is_meant s component = if is_meant then component_outline s component else []

abbrev pub outlines_among : Subject → List Cause → Option SeacParts → List ℕ
outlines_among s causes None = []
outlines_among s causes (Some seac) =
    outline_if (list_any is_base causes) s seac.base ++ outline_if (list_any is_accent causes) s seac.accent

-- ---- all of it

pub record FaultsView : Type 0 where
  pub marks : List FaultMark
  pub causes : List Cause
  pub lines : List (List ℕ)
  pub waived : ℕ

abbrev pub faults_view : Faults → FaultsView
faults_view f =
    record { marks = f.marks.items; causes = f.causes.items; lines = texts_of f.lines.items; waived = f.waived }

-- What is shown of the faults of the glyph, given those that waivers leave, and those that there are without waivers.
abbrev pub glyph_faults : Subject → List FaultValue → List FaultValue → FaultsView
glyph_faults s faults all =
    record {
      marks = marks_from s None (shown_of s faults);
      causes = all_causes s (shown_of s faults);
      lines = lines_of s (shown_of s faults);
      waived = waived_of s all;
    }

-- What is shown of one fault alone: a fault of the font has no mark, and nothing is counted as waived.
abbrev pub mark_alone : Subject → FaultValue → List FaultMark
mark_alone s fault = if fault.unit == 0 then [] else mark_of_one (pen_at s fault.step) fault.number ∷ []

abbrev pub fault_alone : Subject → FaultValue → FaultsView
fault_alone s fault =
    record {
      marks = mark_alone s fault;
      causes = causes_of s fault;
      lines = fault_lines s fault;
      waived = 0;
    }

abbrev pub faults_by : ShownValue → Subject → List FaultValue → List FaultValue → FaultsView
faults_by (one_fault fault) s faults all = fault_alone s fault
faults_by everything s faults all = glyph_faults s faults all
faults_by (steps_up_to step) s faults all = glyph_faults s faults all

abbrev pub faults_of : Subject → List FaultValue → List FaultValue → FaultsView
faults_of s faults all = faults_by s.shown s faults all

abbrev pub AreGlyphFaults : Subject → FaultsView → Type 0
AreGlyphFaults s view =
    (faults all : List FaultValue) → AreShownOf s s.waivers faults → AreShownOf s [] all → view ≡ glyph_faults s faults all

-- What faults draw: marks, what their reasons name, and the outlines of the components among that.
pub record FaultLayersView : Type 0 where
  pub marks : List FaultMark
  pub causes : List Cause
  pub components : List ℕ

abbrev pub fault_layers_view : FaultLayers → FaultLayersView
fault_layers_view l = record { marks = l.marks.now; causes = l.causes.now; components = l.components.now }

abbrev pub fault_layers : Subject → FaultsView → FaultLayersView
fault_layers s faults =
    record {
      marks = faults.marks;
      causes = faults.causes;
      components = outlines_among s faults.causes (components_of s);
    }

abbrev pub AreFaultsOf : Subject → FaultsView → Type 0
AreFaultsOf s view =
    (faults all : List FaultValue) → AreShownOf s s.waivers faults → AreShownOf s [] all → view ≡ faults_of s faults all
