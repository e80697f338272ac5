-- What a picture is of.
use Rattle.std.specs.Prelude.{ℕ, ◌==◌, if◌then◌else◌, List, Option, None, Some}
use Rattle.t1_char.specs.declared.edition.Edition.{Edition}
use Rattle.t1_font.specs.Fonts.{FontValue}
use Rattle.t1_picture.specs.declared.view.Shown.{Shown}
use Rattle.t1_picture.specs.declared.view.Shown.TheVariants.{All, Fault, UpTo}
use Rattle.t1_picture.specs.declared.view.View.{View}
use Rattle.t1_report.specs.Faults.{FaultValue, fault_value}
use Rattle.t1_report.specs.Waivers.{Waiver}

-- How much of a glyph is shown: all steps; those up to a step; or one fault alone, with the steps up to it.
pub data ShownValue : Type 0 where
  everything : ShownValue
  up_to : ℕ → ShownValue
  one_fault : FaultValue → ShownValue

abbrev pub shown_value : Shown → ShownValue
shown_value All = everything
shown_value (UpTo number) = up_to number
shown_value (Fault fault) = one_fault (fault_value fault)

-- All, where no step is given.
abbrev pub shown_up_to : Option ℕ → ShownValue
shown_up_to None = everything
shown_up_to (Some number) = up_to number

-- The fault that is shown alone, if one is.
abbrev pub fault_in : ShownValue → Option FaultValue
fault_in (one_fault fault) = Some fault
fault_in _ = None

-- The last step that is drawn, if one is given: of a fault of the glyph its own; a fault of the font is at no step.
abbrev pub step_in : ShownValue → Option ℕ
step_in everything = None
step_in (up_to number) = Some number
step_in (one_fault fault) = if fault.unit == 0 then None else Some fault.step

-- A glyph of a font, by its place, with the faults that an edition finds and waivers leave, and how much of it is shown.
pub record Subject : Type 0 where
  pub font : FontValue
  pub edition : Edition
  pub waivers : List Waiver
  pub glyph : ℕ
  pub shown : ShownValue

abbrev pub step_of : Subject → Option ℕ
step_of s = step_in s.shown

-- What a view shows.
abbrev pub subject_of : View → Subject
subject_of view =
    record {
      font = view.font.now;
      edition = view.sidebearings.now.edition;
      waivers = view.waivers.now;
      glyph = view.glyph;
      shown = shown_value view.shown;
    }
