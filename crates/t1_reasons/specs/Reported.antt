-- Why a fault of a report is there.
use Rattle.std.specs.Prelude.{◌≡◌, true, is_some, Option, Some, None, List, slice_get}
use Rattle.t1_font.specs.Fonts.{FontValue}
use Rattle.t1_reasons.specs.FontReasons.{font_reason}
use Rattle.t1_reasons.specs.GlyphReasons.{glyph_reason}
use Rattle.t1_reasons.specs.UnusedWaivers.{unused_reason}
use Rattle.t1_reasons.specs.declared.reason.Reason.{Reason}
use Rattle.t1_reasons.specs.declared.reason.Reason.TheVariants.{Waiver as WaiverReason}
use Rattle.t1_report.specs.Checked.{CheckedFont}
use Rattle.t1_report.specs.Faults.{FaultValue}
use Rattle.t1_report.specs.Places.{fault_place}
use Rattle.t1_report.specs.Reports.{IsTold, place_of}
use Rattle.t1_report.specs.Waivers.{Waiver}
use Rattle.t1_report.specs.declared.places.FaultPlace.{FaultPlace}
use Rattle.t1_report.specs.declared.places.FaultPlace.TheVariants.{Glyph, Key, Waiver as AtWaiver}

-- Of a waiver that isn't used; a number past the waivers has none.
abbrev pub waiver_reason : FontValue → Option Waiver → Option Reason
waiver_reason font None = None
waiver_reason font (Some w) = Some (WaiverReason (unused_reason font w.0))

-- Of a fault at a place: at a key, in a glyph, or of a waiver.
abbrev pub place_reason : CheckedFont → List Waiver → FaultValue → FaultPlace → Option Reason
place_reason font waivers fault (Key key index) = font_reason font.edition font.value fault.rule key index
place_reason font waivers fault (Glyph glyph) = glyph_reason font.value font.edition glyph fault.rule fault.step
place_reason font waivers fault (AtWaiver number) = waiver_reason font.value (slice_get waivers number)

abbrev pub fault_reason : CheckedFont → List Waiver → FaultValue → Option Reason
fault_reason font waivers fault = place_reason font waivers fault (fault_place font.value fault)

-- Each fault of a report has a reason.
abbrev pub ReportedFaultsHaveReasons : Type 0
ReportedFaultsHaveReasons =
    (font : CheckedFont) (waivers : List Waiver) (fault : FaultValue) → IsTold font waivers (place_of fault) →
    is_some (fault_reason font waivers fault) ≡ true
