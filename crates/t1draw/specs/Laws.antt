-- The statements of laws.
use Rattle.std.specs.Prelude.{◌≡◌, ◌<◌, ◌==◌, ◌||◌, ℕ, Bool, true, List, [], Option, None, Some, Result, Ok, Err, if◌then◌else◌}
use Rattle.std.specs.List.{AllByRecursion, list_all}
use Rattle.clap.specs.Words.{Text}
use Rattle.t1_char.specs.declared.edition.Edition.{Edition}
use Rattle.t1_font.specs.Fonts.{FontValue}
use Rattle.t1_report.specs.Refusals.{Refusal}
use Rattle.t1_picture.specs.Extents.{IsShown}
use Rattle.t1_picture.specs.Pictures.{IsPictureOf}
use Rattle.t1_picture.specs.Subjects.{ShownValue}
use Rattle.t1_picture.specs.declared.extent.Extent.{Extent}
use Rattle.t1_report.specs.Checked.{checked}
use Rattle.t1_report.specs.Waivers.{Waiver}
use Rattle.t1_rules.specs.Components.{glyph_named}
use Rattle.t1_run.specs.FontFiles.{font_of}
use Rattle.t1_run.specs.Programs.{asks_waivers}
use Rattle.t1_run.specs.WaiverFiles.{waivers_in}
use Rattle.t1draw.specs.Answers.{drawing}
use Rattle.t1draw.specs.CommandLine.{AreGiven, AskedValue, all_faulty, asked_value, one_glyph}
use Rattle.t1draw.specs.Draws.{AreFiles, subject}
use Rattle.t1draw.specs.Folders.{FolderFile, is_small, spelled}
use Rattle.t1draw.specs.declared.options.DrawOptions.{DrawOptions}

-- What is answered where memory is there and no device fails: a picture, the files of a folder, why the font or the waivers aren't read,
-- or that the font has no glyph of the name, or the report no such fault.
pub data Answer : Type 0 where
  Picture : List ℕ → Answer
  Files : List FolderFile → Answer
  Unread : Refusal → Answer
  NoGlyph : Answer
  NoFault : Answer

-- What options ask for beside the files.
pub record Wish : Type 0 where
  pub edition : Edition
  pub asked : AskedValue

abbrev pub wish_of : DrawOptions → Wish
wish_of options = record { edition = options.edition; asked = asked_value options.asked }

-- A font, with the edition and the waivers that count.
pub record Sheet : Type 0 where
  pub font : FontValue
  pub edition : Edition
  pub waivers : List Waiver

-- The picture of a glyph, of which so much is shown.
abbrev pub IsPictureAs : Sheet → ℕ → ShownValue → Answer → Type 0
IsPictureAs sheet glyph visible answer =
    (picture : List ℕ)
    × (IsPictureOf (subject sheet.font sheet.edition sheet.waivers glyph visible) picture × (answer ≡ Picture picture))

-- Of a glyph, as much as is shown of it; or the report has no such fault.
abbrev pub IsAnswerToShown : Sheet → ℕ → Option ShownValue → Answer → Type 0
IsAnswerToShown sheet glyph None answer = answer ≡ NoFault
IsAnswerToShown sheet glyph (Some visible) answer = IsPictureAs sheet glyph visible answer

-- Of a glyph of a font, or of none.
abbrev pub IsAnswerAt : Sheet → Extent → Option ℕ → Answer → Type 0
IsAnswerAt sheet wanted None answer = answer ≡ NoGlyph
IsAnswerAt sheet wanted (Some glyph) answer =
    (shown : Option ShownValue)
    × (IsShown wanted (checked sheet.font sheet.edition) sheet.waivers glyph shown × IsAnswerToShown sheet glyph shown answer)

abbrev pub IsAnswerToAsked : Sheet → AskedValue → Answer → Type 0
IsAnswerToAsked sheet (one_glyph name wanted) answer = IsAnswerAt sheet wanted (glyph_named sheet.font name) answer
IsAnswerToAsked sheet (all_faulty folder) answer =
    (files : List FolderFile) × (AreFiles sheet.font sheet.edition sheet.waivers files × (answer ≡ Files files))

-- Of what the font's file and the waivers are read as: why the font isn't read comes first.
abbrev pub IsAnswerTo : Wish → Result FontValue Refusal → Result (List Waiver) Refusal → Answer → Type 0
IsAnswerTo wish (Err why) waived answer = answer ≡ Unread why
IsAnswerTo wish (Ok font) (Err why) answer = answer ≡ Unread why
IsAnswerTo wish (Ok font) (Ok waivers) answer =
    IsAnswerToAsked (record { font = font; edition = wish.edition; waivers = waivers }) wish.asked answer

-- The waivers of a text, where they are requested; else there are none.
abbrev pub waived_by : Edition → Bool → List ℕ → Result (List Waiver) Refusal
waived_by edition asked text = if asked then waivers_in edition text else Ok []

-- This is answered to options, the bytes of the font's file and the text of the waivers.
abbrev pub IsAnswer : DrawOptions → List ℕ → List ℕ → Answer → Type 0
IsAnswer options file text answer = IsAnswerTo (wish_of options) (font_of file) (waived_by (wish_of options).edition (asks_waivers drawing options) text) answer

-- There is an answer.
abbrev pub HasAnAnswer : Type 0
HasAnAnswer = (options : DrawOptions) (file text : List ℕ) → (answer : Answer) × IsAnswer options file text answer

-- DrawOptions that the same words give have no two answers for the same bytes.
abbrev pub HasNoOtherAnswer : Type 0
HasNoOtherAnswer =
    (words : List Text) (options options' : DrawOptions) (file text : List ℕ) (a b : Answer)
    → AreGiven words options → AreGiven words options'
    → IsAnswer options file text a → IsAnswer options' file text b → a ≡ b

-- ---- the names of files

-- Names that differ are spelled in different ways.
abbrev pub SpelledNamesDiffer : Type 0
SpelledNamesDiffer =
    (a b : List ℕ) → AllByRecursion (λ byte. byte < 256) a → AllByRecursion (λ byte. byte < 256) b → spelled a ≡ spelled b → a ≡ b

-- A letter of such a spelling: none that a folder gives a meaning, and none of which a capital is another letter.
abbrev pub is_letter : ℕ → Bool
is_letter byte = is_small byte || (byte == 95 || byte == 61)

abbrev pub SpelledNamesArePlain : Type 0
SpelledNamesArePlain = (name : List ℕ) → AllByRecursion (λ byte. byte < 256) name → list_all is_letter (spelled name) ≡ true
