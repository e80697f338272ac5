-- What is drawn and found of a sheet.
use Rattle.std.specs.Prelude.{◌≡◌, ◌⊎◌, ◌++◌, ℕ, List, Some}
use Rattle.t1_char.specs.declared.edition.Edition.{Edition}
use Rattle.t1_font.specs.Fonts.{FontValue}
use Rattle.t1_report.specs.Checked.{checked}
use Rattle.t1_picture.specs.Extents.{IsShown}
use Rattle.t1_picture.specs.Subjects.{ShownValue}
use Rattle.t1_picture.specs.declared.extent.Extent.{Extent}
use Rattle.t1_report.specs.Faults.{FaultValue}
use Rattle.t1_report.specs.Reports.{IsReport}
use Rattle.t1_report.specs.Waivers.{Waiver}
use Rattle.t1_rules.specs.Components.{AreOf, glyph_named}
use Rattle.t1_io.specs.Devices.{SinkState}
use Rattle.t1_run.specs.Failures.{out_of_memory_line}
use Rattle.t1_run.specs.Opening.{Sinks}
use Rattle.t1_run.specs.Telling.{Tells}
use Rattle.t1_run.specs.declared.status.Status.{Status}
use Rattle.t1_run.specs.declared.status.Status.TheVariants.{Failed}
use Rattle.t1draw.specs.Draws.{ArePictures, DrawsGlyph, no_fault_line, program}
use Rattle.t1draw.specs.Folders.{FolderFile, folder_text}
use Rattle.t1draw.specs.declared.sheet.Sheet.{Sheet}

-- Its font, edition and waivers.
abbrev pub font_of : Sheet → FontValue
font_of sheet = sheet.font.now

abbrev pub edition_of : Sheet → Edition
edition_of sheet = sheet.sidebearings.now.edition

abbrev pub waivers_of : Sheet → List Waiver
waivers_of sheet = sheet.waivers.now

-- The sidebearings are those of the font.
abbrev pub IsSound : Sheet → Type 0
IsSound sheet = AreOf (font_of sheet) sheet.sidebearings.now

-- These are the faults of the report.
abbrev pub AreReported : Sheet → List FaultValue → Type 0
AreReported sheet faults = IsReport (checked (font_of sheet) (edition_of sheet)) (waivers_of sheet) faults

-- So much of a glyph is drawn: as each request says that means this.
abbrev pub DrawsAs : Sheet → ℕ → ShownValue → Sinks → Sinks → Status → Type 0
DrawsAs sheet glyph visible sinks sinks' status =
    (name : List ℕ) (wanted : Extent) → glyph_named (font_of sheet) name ≡ Some glyph
    → IsShown wanted (checked (font_of sheet) (edition_of sheet)) (waivers_of sheet) glyph (Some visible)
    → DrawsGlyph (font_of sheet) (edition_of sheet) (waivers_of sheet) name wanted sinks sinks' status

-- That there is no such fault is printed, or that memory ran out.
abbrev pub TellsNoFault : List ℕ → ℕ → SinkState → SinkState → Status → Type 0
TellsNoFault name number errors errors' status =
    Tells (no_fault_line name number) Failed errors errors' status ⊎ Tells (out_of_memory_line program) Failed errors errors' status

-- Pictures of these glyphs are appended to bytes, as files one after another.
abbrev pub AddsPictures : Sheet → List ℕ → List ℕ → List ℕ → Type 0
AddsPictures sheet glyphs old new =
    (files : List FolderFile)
    × (ArePictures (font_of sheet) (edition_of sheet) (waivers_of sheet) glyphs files × (new ≡ old ++ folder_text files))
