-- What is printed of a font that was read, by waivers, and the status.
use Rattle.std.specs.Prelude.{◌≡◌, ℕ, List, [], ◌∷◌, ◌++◌, None, Some, codes}
use Rattle.std.specs.Fmt.{decimal}
use Rattle.std.specs.List.{concat}
use Rattle.t1_char.specs.declared.edition.Edition.{Edition}
use Rattle.t1_font.specs.Fonts.{FontValue}
use Rattle.t1_forms.specs.Shown.{shown}
use Rattle.t1_picture.specs.Extents.{IsShown}
use Rattle.t1_picture.specs.Pictures.{IsPictureOf}
use Rattle.t1_picture.specs.Subjects.{ShownValue, Subject, everything}
use Rattle.t1_picture.specs.declared.extent.Extent.{Extent}
use Rattle.t1_picture.specs.declared.extent.Extent.TheVariants.{Fault}
use Rattle.t1_report.specs.Checked.{checked}
use Rattle.t1_report.specs.Faults.{FaultValue}
use Rattle.t1_report.specs.Reports.{IsReport}
use Rattle.t1_report.specs.Waivers.{Waiver}
use Rattle.t1_rules.specs.Components.{glyph_named}
use Rattle.t1_run.specs.Failures.{no_glyph_line, out_of_memory_line}
use Rattle.t1_run.specs.Opening.{Sinks}
use Rattle.t1_run.specs.Telling.{Gives, Tells}
use Rattle.t1_run.specs.declared.status.Status.{Status}
use Rattle.t1_run.specs.declared.status.Status.TheVariants.{Clean, Failed}
use Rattle.t1draw.specs.CommandLine.{AskedValue, all_faulty, asked_value, one_glyph}
use Rattle.t1draw.specs.Folders.{FolderFile, faulty_glyphs, folder_text, index_file, picture_name_of}
use Rattle.t1draw.specs.declared.options.DrawOptions.{DrawOptions}

-- The program's name, before what it prints.
abbrev pub program : List ℕ
program = codes "t1draw"

-- ---- one picture

-- `PROGRAM: no fault N of glyph NAME or of the font`
abbrev pub no_fault_line : List ℕ → ℕ → List ℕ
no_fault_line name number = concat (program ∷ codes ": no fault " ∷ decimal number ∷ codes " of glyph " ∷ shown name ∷ codes " or of the font\n" ∷ [])

-- A glyph, and how much of it is shown.
abbrev pub subject : FontValue → Edition → List Waiver → ℕ → ShownValue → Subject
subject font edition waivers glyph extent = record { font = font; edition = edition; waivers = waivers; glyph = glyph; shown = extent }

-- What is printed where a glyph of this name is requested.
pub data DrawsGlyph (font : FontValue) (edition : Edition) (waivers : List Waiver) (name : List ℕ) (wanted : Extent) (sinks sinks' : Sinks)
    (status : Status) : Type 0 where
  -- A picture was written whole, and flushed once, and nothing was reported: status 0. Or a put or the flush failed, a beginning
  -- of it went out, and that was reported: status 3.
  drawn :
      (glyph : ℕ) (visible : ShownValue) (picture : List ℕ) → glyph_named font name ≡ Some glyph
      → IsShown wanted (checked font edition) waivers glyph (Some visible)
      → IsPictureOf (subject font edition waivers glyph visible) picture → Gives program picture Clean sinks sinks' status
      → DrawsGlyph font edition waivers name wanted sinks sinks' status
  -- The font has no glyph of the name, and nothing was put on the output: status 3.
  no_glyph :
      glyph_named font name ≡ None → sinks'.out ≡ sinks.out
      → Tells (no_glyph_line program (shown name)) Failed sinks.errors sinks'.errors status
      → DrawsGlyph font edition waivers name wanted sinks sinks' status
  -- The report has no such fault of the glyph or of the font, and nothing was put on the output: status 3.
  no_fault :
      (glyph number : ℕ) → glyph_named font name ≡ Some glyph → wanted ≡ Fault number
      → IsShown wanted (checked font edition) waivers glyph None → sinks'.out ≡ sinks.out
      → Tells (no_fault_line name number) Failed sinks.errors sinks'.errors status
      → DrawsGlyph font edition waivers name wanted sinks sinks' status
  -- Memory ran out, and nothing was put on the output: status 3.
  no_memory :
      sinks'.out ≡ sinks.out → Tells (out_of_memory_line program) Failed sinks.errors sinks'.errors status
      → DrawsGlyph font edition waivers name wanted sinks sinks' status

-- ---- a folder

-- The files are pictures of these glyphs, in their order, named by them.
abbrev pub ArePictures : FontValue → Edition → List Waiver → List ℕ → List FolderFile → Type 0
ArePictures font edition waivers [] [] = Unit {0}
ArePictures font edition waivers [] (file ∷ files) = ⊥
ArePictures font edition waivers (glyph ∷ glyphs) [] = ⊥
ArePictures font edition waivers (glyph ∷ glyphs) (file ∷ files) =
    (file.name ≡ picture_name_of font glyph) × IsPictureOf (subject font edition waivers glyph everything) file.text
    × ArePictures font edition waivers glyphs files

-- A picture of each glyph that has faults, and then the index.
pub record AreFiles (font : FontValue) (edition : Edition) (waivers : List Waiver) (files : List FolderFile) : Type 0 where
  pub faults : List FaultValue
  pub reported : IsReport (checked font edition) waivers faults
  pub pictures : List FolderFile
  pub are_pictures : ArePictures font edition waivers (faulty_glyphs font faults) pictures
  pub are : files ≡ pictures ++ (index_file font waivers faults ∷ [])

-- What is printed where the glyphs with faults are requested: the files, one after another.
pub data DrawsFolder (font : FontValue) (edition : Edition) (waivers : List Waiver) (sinks sinks' : Sinks) (status : Status) : Type 0 where
  -- They were written whole, and flushed once, as one picture is.
  filed :
      (files : List FolderFile) → AreFiles font edition waivers files → Gives program (folder_text files) Clean sinks sinks' status
      → DrawsFolder font edition waivers sinks sinks' status
  -- Memory ran out, and nothing was put on the output: status 3.
  no_memory :
      sinks'.out ≡ sinks.out → Tells (out_of_memory_line program) Failed sinks.errors sinks'.errors status
      → DrawsFolder font edition waivers sinks sinks' status

-- ---- all

abbrev pub DrawsAsked : AskedValue → FontValue → Edition → List Waiver → Sinks → Sinks → Status → Type 0
DrawsAsked (one_glyph name wanted) font edition waivers sinks sinks' status = DrawsGlyph font edition waivers name wanted sinks sinks' status
DrawsAsked (all_faulty folder) font edition waivers sinks sinks' status = DrawsFolder font edition waivers sinks sinks' status

abbrev pub Draws : DrawOptions → FontValue → List Waiver → Sinks → Sinks → Status → Type 0
Draws options font waivers sinks sinks' status = DrawsAsked (asked_value options.asked) font options.edition waivers sinks sinks' status
