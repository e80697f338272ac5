-- DrawOptions, a font's file and the text of waivers have an answer.
use Rattle.std.proofs.Common.{◌++◌, ℕ, Bool, true, false, List, [], ◌∷◌, Option, None, Some, Result, Ok, Err, IfOk, refl, arith}
use Rattle.t1_char.specs.declared.edition.Edition.{Edition}
use Rattle.t1_font.specs.Fonts.{FontValue}
use Rattle.t1_font.specs.Laws.Limits.{FontsWithinLimits}
use Rattle.t1_report.specs.Refusals.{Refusal}
use Rattle.t1_picture.specs.Laws.{HasPicture}
use Rattle.t1_picture.specs.Extents.{IsShown, shown_with}
use Rattle.t1_picture.specs.Subjects.{ShownValue, everything, up_to}
use Rattle.t1_picture.specs.declared.extent.Extent.{Extent}
use Rattle.t1_picture.specs.declared.extent.Extent.TheVariants as extent
use Rattle.t1_report.specs.Checked.{CheckedFont, checked}
use Rattle.t1_report.specs.Numbered.{numbered}
use Rattle.t1_report.specs.Waivers.{Waiver}
use Rattle.t1_report.proofs.HasReport.{has_report}
use Rattle.t1_rules.specs.Components.{glyph_named}
use Rattle.t1_run.proofs.FewRead.{AreFew, HasFew, of_file, of_text}
use Rattle.t1_run.specs.FontFiles.{font_of}
use Rattle.t1_run.specs.Programs.{asks_waivers}
use Rattle.t1draw.specs.Answers.{drawing}
use Rattle.t1draw.specs.CommandLine.{AskedValue, all_faulty, one_glyph}
use Rattle.t1draw.specs.Draws.{AreFiles, ArePictures, subject}
use Rattle.t1draw.specs.Folders.{FolderFile, faulty_glyphs, index_file, picture_name_of}
use Rattle.t1draw.specs.Laws.{Answer, HasAnAnswer, IsAnswerAt, IsAnswerTo, IsAnswerToAsked, IsAnswerToShown, IsPictureAs, Sheet, Wish, waived_by, wish_of}
use Rattle.t1draw.specs.Laws.Answer.{Files, NoFault, NoGlyph, Picture, Unread as NotRead}

of_asked : (edition : Edition) (asked : Bool) (text : List ℕ) → IfOk (waived_by edition asked text) AreFew
of_asked edition true text = of_text edition text
of_asked edition false text = omega arith

has_picture : HasPicture → (sheet : Sheet) (glyph : ℕ) (visible : ShownValue) → HasFew sheet.font → AreFew sheet.waivers
    → (answer : Answer) × IsPictureAs sheet glyph visible answer
has_picture has sheet glyph visible few are =
    let it = has (subject sheet.font sheet.edition sheet.waivers glyph visible) few are in
    (Picture it.0, (it.0, (it.1, refl)))

has_shown : (font : CheckedFont) (waivers : List Waiver) (glyph : ℕ) (wanted : Extent) → (shown : Option ShownValue) × IsShown wanted font waivers glyph shown
has_shown font waivers glyph extent.All = (Some everything, refl)
has_shown font waivers glyph (extent.UpTo step) = (Some (up_to step), refl)
has_shown font waivers glyph (extent.Fault number) =
    let report = has_report font waivers in
    let found = numbered report.0 number in
    (shown_with glyph found, (found, record { faults = report.0; reported = report.1; is = refl }, refl))

has_of_shown : HasPicture → (sheet : Sheet) (glyph : ℕ) (shown : Option ShownValue) → HasFew sheet.font → AreFew sheet.waivers
    → (answer : Answer) × IsAnswerToShown sheet glyph shown answer
has_of_shown has sheet glyph None few are = (NoFault, refl)
has_of_shown has sheet glyph (Some visible) few are = has_picture has sheet glyph visible few are

has_at : HasPicture → (sheet : Sheet) (wanted : Extent) (glyph : Option ℕ) → HasFew sheet.font → AreFew sheet.waivers
    → (answer : Answer) × IsAnswerAt sheet wanted glyph answer
has_at has sheet wanted None few are = (NoGlyph, refl)
has_at has sheet wanted (Some glyph) few are =
    let shown = has_shown (checked sheet.font sheet.edition) sheet.waivers glyph wanted in
    let it = has_of_shown has sheet glyph shown.0 few are in
    (it.0, (shown.0, (shown.1, it.1)))

has_pictures : HasPicture → (sheet : Sheet) (glyphs : List ℕ) → HasFew sheet.font → AreFew sheet.waivers
    → (files : List FolderFile) × ArePictures sheet.font sheet.edition sheet.waivers glyphs files
has_pictures has sheet [] few are = ([], tt)
has_pictures has sheet (glyph ∷ glyphs) few are =
    let it = has (subject sheet.font sheet.edition sheet.waivers glyph everything) few are in
    let rest = has_pictures has sheet glyphs few are in
    (record { name = picture_name_of sheet.font glyph; text = it.0 } ∷ rest.0, (refl, it.1, rest.1))

has_files : HasPicture → (sheet : Sheet) → HasFew sheet.font → AreFew sheet.waivers
    → (files : List FolderFile) × AreFiles sheet.font sheet.edition sheet.waivers files
has_files has sheet few are =
    let report = has_report (checked sheet.font sheet.edition) sheet.waivers in
    let pictures = has_pictures has sheet (faulty_glyphs sheet.font report.0) few are in (
      pictures.0 ++ (index_file sheet.font sheet.waivers report.0 ∷ []),
      record { faults = report.0; reported = report.1; pictures = pictures.0; are_pictures = pictures.1; are = refl },
    )

has_asked : HasPicture → (sheet : Sheet) (asked : AskedValue) → HasFew sheet.font → AreFew sheet.waivers
    → (answer : Answer) × IsAnswerToAsked sheet asked answer
has_asked has sheet (one_glyph name wanted) few are = has_at has sheet wanted (glyph_named sheet.font name) few are
has_asked has sheet (all_faulty folder) few are =
    let it = has_files has sheet few are in
    (Files it.0, (it.0, (it.1, refl)))

has_to : HasPicture → (wish : Wish) (read : Result FontValue Refusal) (waived : Result (List Waiver) Refusal) → IfOk read HasFew → IfOk waived AreFew
    → (answer : Answer) × IsAnswerTo wish read waived answer
has_to has wish (Err why) waived few are = (NotRead why, refl)
has_to has wish (Ok font) (Err why) few are = (NotRead why, refl)
has_to has wish (Ok font) (Ok waivers) few are =
    has_asked has (record { font = font; edition = wish.edition; waivers = waivers }) wish.asked few are

pub an_answer : HasPicture → FontsWithinLimits → HasAnAnswer
an_answer has limits options file text =
    has_to has (wish_of options) (font_of file) (waived_by (wish_of options).edition (asks_waivers drawing options) text) (of_file limits file) (of_asked (wish_of options).edition (asks_waivers drawing options) text)
