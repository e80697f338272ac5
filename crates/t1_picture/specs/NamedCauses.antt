-- What a marked stem, zone, point, line or curve is of: a reason names it.
use Rattle.std.specs.Prelude.{◌≡◌, ◌⊎◌, ◌↔◌, ⊤, ◌==◌, true, Some, List}
use Rattle.std.specs.List.{Contains}
use Rattle.t1_drawing.specs.declared.direction.Direction.{Direction}
use Rattle.t1_picture.specs.declared.causes.Cause.{Cause}
use Rattle.t1_picture.specs.declared.causes.Cause.TheVariants.{Accent, Base, Coordinate, Ends, Miss as Missed, Outside as OutsideBox, Stem as NamedOne, Stroke as DrawnStroke, Turns, Untouched as LeftAlone, Zone}
use Rattle.t1_picture.specs.declared.causes.NamedStem.{NamedStem}
use Rattle.t1_picture.specs.declared.causes.Role.{Role}
use Rattle.t1_picture.specs.declared.causes.Role.TheVariants.{Other, Own}
use Rattle.t1_picture.specs.declared.causes.StemPlace.{StemPlace}
use Rattle.t1_picture.specs.Causes.{means_components, named_stem, nearest_point, stroke_of, untouched_stem, zone_at}
use Rattle.t1_picture.specs.Marks.{faults_of, place_of_stems, reason_of, shown_of}
use Rattle.t1_picture.specs.Subjects.{ShownValue, Subject, everything, one_fault, up_to}
use Rattle.t1_reason_texts.specs.declared.decimals.Unit.TheVariants.{OnCurve}
use Rattle.t1_reason_texts.specs.Decimals.{in_unit}
use Rattle.t1_reasons.specs.declared.reason.Reason.{Reason}
use Rattle.t1_reasons.specs.declared.reason.Reason.TheVariants.{Area, Beyond, Codes, Miss, Open, Outside, Sidebearings, Stem as OneStem, Stems, Stroke, Triple, Untouched, Zones}
use Rattle.t1_report.specs.Faults.{FaultValue}
use Rattle.t1_rules.specs.declared.font_rules.zones.Edges.{Edges}
use Rattle.t1_rules.specs.declared.rule.Rule.{Rule}
use Rattle.t1_rules.specs.declared.step_rules.flex.Point.{Point}
use Rattle.t1_rules.specs.declared.step_rules.stems.Stem.{Stem}

-- A reason names a stem, the step's own or the other one.
abbrev pub NamesStem : Reason → Role → Stem → Type 0
NamesStem (Stems own other) Own stem = stem ≡ own
NamesStem (Stems own other) Other stem = stem ≡ other.stem
NamesStem (OneStem own) Own stem = stem ≡ own
NamesStem (Triple one two three) Own stem = (stem ≡ one) ⊎ ((stem ≡ two) ⊎ (stem ≡ three))
NamesStem _ role stem = ⊥

-- The other of two zones.
abbrev pub NamesZone : Reason → Edges → Type 0
NamesZone (Zones own other distance) zone = zone ≡ other
NamesZone _ zone = ⊥

-- A line or a curve, with the line right before it, if the rule compares both.
abbrev pub NamesStroke : Rule → Reason → Cause → Type 0
NamesStroke rule (Stroke line_start start segment) cause = stroke_of rule line_start start segment ≡ Some cause
NamesStroke rule _ cause = ⊥

-- A coordinate of a curve, or of the point which is nearest to a stem.
abbrev pub NamesCoordinate : Reason → Cause → Type 0
NamesCoordinate (Beyond direction quarters number from to) cause = cause ≡ Coordinate direction (in_unit OnCurve number)
NamesCoordinate (Untouched stem step nearest) cause = nearest_point stem.direction nearest ≡ Some cause
NamesCoordinate _ cause = ⊥

-- A stem that nothing touches.
abbrev pub NamesUntouched : Point → Reason → NamedStem → Type 0
NamesUntouched start (Untouched stem step nearest) named = LeftAlone named ≡ untouched_stem start stem
NamesUntouched start _ named = ⊥

-- Which way subpaths run, by the area of them all.
abbrev pub NamesTurns : Reason → Type 0
NamesTurns (Area twentyfold turns) = ⊤
NamesTurns _ = ⊥

-- The codes of both components, and the accent's sidebearing.
abbrev pub NamesCodes : Reason → Type 0
NamesCodes (Codes base accent) = ⊤
NamesCodes _ = ⊥

abbrev pub NamesSidebearings : Reason → Type 0
NamesSidebearings (Sidebearings told own) = ⊤
NamesSidebearings _ = ⊥

-- A marked stem is one that the reason names, in the direction of the step's stems and with its own edges.
pub record IsNamedStem (place : StemPlace) (reason : Reason) (named : NamedStem) : Type 0 where
  pub stem : Stem
  pub direction : Direction
  pub names : NamesStem reason named.role stem
  pub lies : place.direction ≡ Some direction
  pub drawn : NamedOne named ≡ named_stem place.edition place.start named.role stem direction

-- What is marked is what a reason names: a stem, a zone, a point, alone or with another one or a box, a line or a curve, a coordinate, which way
-- subpaths run; a component, where the rule may mean either.
abbrev pub IsNamed : StemPlace → Rule → Reason → Cause → Type 0
IsNamed place rule reason (NamedOne named) = IsNamedStem place reason named
IsNamed place rule reason (Zone zone) = NamesZone reason zone
IsNamed place rule reason (Missed named pen) = reason ≡ Miss named pen
IsNamed place rule reason (Ends start pen) = reason ≡ Open start pen
IsNamed place rule reason (OutsideBox point box) = reason ≡ Outside point box
IsNamed place rule reason (DrawnStroke before start segment) = NamesStroke rule reason (DrawnStroke before start segment)
IsNamed place rule reason (Coordinate direction coordinate) = NamesCoordinate reason (Coordinate direction coordinate)
IsNamed place rule reason (LeftAlone named) = NamesUntouched place.start reason named
IsNamed place rule reason Turns = NamesTurns reason
IsNamed place rule reason Base = (means_components rule ≡ true) × NamesCodes reason
IsNamed place rule reason Accent = ((means_components rule ≡ true) × NamesCodes reason) ⊎ NamesSidebearings reason

-- It is of a fault: its reason names it, or the fault is of the font, and at this zone.
pub data IsOfFault (s : Subject) (fault : FaultValue) (cause : Cause) : Type 0 where
  by_reason : (reason : Reason) → reason_of s fault ≡ Some reason → IsNamed (place_of_stems s fault) fault.rule reason cause → IsOfFault s fault cause
  by_place : (fault.unit == 0) ≡ true → zone_at s.font fault.step ≡ Some cause → IsOfFault s fault cause

-- The faults that are shown: one alone, or those of the glyph up to the last step that is drawn.
abbrev pub IsShownOf : ShownValue → Subject → List FaultValue → FaultValue → Type 0
IsShownOf (one_fault alone) s faults fault = fault ≡ alone
IsShownOf everything s faults fault = Contains (shown_of s faults) fault
IsShownOf (up_to step) s faults fault = Contains (shown_of s faults) fault

-- What is marked is exactly what is of a fault that is shown.
abbrev pub MarksAreOfFaults : Type 0
MarksAreOfFaults =
    (s : Subject) (faults all : List FaultValue) (cause : Cause) →
    Contains (faults_of s faults all).causes cause ↔ ((fault : FaultValue) × (IsShownOf s.shown s faults fault × IsOfFault s fault cause))
