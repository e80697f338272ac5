-- DrawOptions, a font's file and the text of waivers have one answer.
use Rattle.std.proofs.Common.{◌≡◌, ◌++◌, ℕ, Bool, List, [], ◌∷◌, Option, None, Some, Result, Ok, Err, ap, ap₂, refl, subst, sym, ◌∙◌}
use Rattle.std.specs.Option.{is_some}
use Rattle.clap.specs.Words.{Text}
use Rattle.t1_char.specs.declared.edition.Edition.{Edition}
use Rattle.t1_char.proofs.EditionLemmas.{one_edition}
use Rattle.t1_font.specs.Fonts.{FontValue}
use Rattle.t1_report.specs.Refusals.{Refusal}
use Rattle.t1_picture.specs.Laws.{HasNoOtherPicture}
use Rattle.t1_picture.specs.Extents.{IsShown, shown_with}
use Rattle.t1_picture.specs.Subjects.{ShownValue}
use Rattle.t1_picture.specs.declared.extent.Extent.{Extent}
use Rattle.t1_picture.specs.declared.extent.Extent.TheVariants as extent
use Rattle.t1_report.specs.Checked.{checked}
use Rattle.t1_report.specs.Faults.{FaultValue}
use Rattle.t1_report.specs.Numbered.{IsNumbered, numbered}
use Rattle.t1_report.specs.Reports.{IsReport, IsTold, path_at}
use Rattle.t1_report.specs.Waivers.{Waiver}
use Rattle.t1_report.proofs.OneReport.{one_report}
use Rattle.t1_rules.specs.Components.{glyph_named}
use Rattle.t1_run.specs.FontFiles.{font_of}
use Rattle.t1_run.specs.Programs.{asks_waivers}
use Rattle.t1_run.specs.Words.{IsEditionOrFirst}
use Rattle.t1draw.specs.Answers.{drawing}
use Rattle.t1draw.specs.CommandLine.{AreGiven, AskedValue, all_faulty, asked_in, asked_value, given_by, one_glyph}
use Rattle.t1draw.specs.Draws.{AreFiles, ArePictures}
use Rattle.t1draw.specs.Folders.{FolderFile, faulty_glyphs, index_file}
use Rattle.t1draw.specs.Laws.{Answer, HasNoOtherAnswer, IsAnswerAt, IsAnswerTo, IsAnswerToAsked, IsAnswerToShown, IsPictureAs, Sheet, Wish, waived_by, wish_of}
use Rattle.t1draw.specs.Laws.Answer.{Files, Picture}
use Rattle.t1draw.specs.declared.options.DrawOptions.{DrawOptions}

-- ---- the answer

one_picture : HasNoOtherPicture → (sheet : Sheet) (glyph : ℕ) (visible : ShownValue) (a b : Answer)
    → IsPictureAs sheet glyph visible a → IsPictureAs sheet glyph visible b → a ≡ b
one_picture no_other sheet glyph visible a b (p, (shown, at)) (q, (shown', at')) = at ∙ ap Picture (no_other _ p q shown shown') ∙ sym at'

one_of_report : (sheet : Sheet) (faults faults' : List FaultValue) → IsReport (checked sheet.font sheet.edition) sheet.waivers faults
    → IsReport (checked sheet.font sheet.edition) sheet.waivers faults' → faults ≡ faults'
one_of_report sheet faults faults' is is' =
    one_report (IsTold (checked sheet.font sheet.edition) sheet.waivers) (path_at (checked sheet.font sheet.edition)) faults faults' is is'

one_found : (sheet : Sheet) (number : ℕ) (a b : Option FaultValue) → IsNumbered (checked sheet.font sheet.edition) sheet.waivers number a
    → IsNumbered (checked sheet.font sheet.edition) sheet.waivers number b → a ≡ b
one_found sheet number a b is is' =
    is.is ∙ ap (λ (fs : List FaultValue). numbered fs number) (one_of_report sheet is.faults is'.faults is.reported is'.reported) ∙ sym is'.is

one_shown : (sheet : Sheet) (glyph : ℕ) (wanted : Extent) (a b : Option ShownValue) → IsShown wanted (checked sheet.font sheet.edition) sheet.waivers glyph a
    → IsShown wanted (checked sheet.font sheet.edition) sheet.waivers glyph b → a ≡ b
one_shown sheet glyph extent.All a b is is' = is ∙ sym is'
one_shown sheet glyph (extent.UpTo step) a b is is' = is ∙ sym is'
one_shown sheet glyph (extent.Fault number) a b (found, has, is) (found', has', is') =
    is ∙ ap (shown_with glyph) (one_found sheet number found found' has has') ∙ sym is'

one_of_shown : HasNoOtherPicture → (sheet : Sheet) (glyph : ℕ) (shown : Option ShownValue) (a b : Answer)
    → IsAnswerToShown sheet glyph shown a → IsAnswerToShown sheet glyph shown b → a ≡ b
one_of_shown no_other sheet glyph None a b is is' = is ∙ sym is'
one_of_shown no_other sheet glyph (Some visible) a b is is' = one_picture no_other sheet glyph visible a b is is'

one_at : HasNoOtherPicture → (sheet : Sheet) (wanted : Extent) (glyph : Option ℕ) (a b : Answer)
    → IsAnswerAt sheet wanted glyph a → IsAnswerAt sheet wanted glyph b → a ≡ b
one_at no_other sheet wanted None a b is is' = is ∙ sym is'
one_at no_other sheet wanted (Some glyph) a b (shown, (has, is)) (shown', (has', is')) =
    one_of_shown no_other sheet glyph shown a b is
    (subst (λ (s : Option ShownValue). IsAnswerToShown sheet glyph s b) (one_shown sheet glyph wanted shown' shown has' has) is')

file_of : List ℕ → List ℕ → FolderFile
file_of name text = record { name = name; text = text }

one_file : (a b : FolderFile) → a.name ≡ b.name → a.text ≡ b.text → a ≡ b
unfolding file_of
one_file a b name text = ap₂ file_of name text

one_pictures : HasNoOtherPicture → (sheet : Sheet) (glyphs : List ℕ) (files files' : List FolderFile)
    → ArePictures sheet.font sheet.edition sheet.waivers glyphs files → ArePictures sheet.font sheet.edition sheet.waivers glyphs files'
    → files ≡ files'
one_pictures no_other sheet [] [] [] are are' = refl
one_pictures no_other sheet [] [] (f ∷ fs) are are' = absurd are'
one_pictures no_other sheet [] (f ∷ fs) files' are are' = absurd are
one_pictures no_other sheet (glyph ∷ glyphs) [] files' are are' = absurd are
one_pictures no_other sheet (glyph ∷ glyphs) (f ∷ fs) [] are are' = absurd are'
one_pictures no_other sheet (glyph ∷ glyphs) (f ∷ fs) (f' ∷ fs') (name, picture, rest) (name', picture', rest') =
    ap₂ (λ (x : FolderFile) (xs : List FolderFile). x ∷ xs) (one_file f f' (name ∙ sym name') (no_other _ f.text f'.text picture picture'))
    (one_pictures no_other sheet glyphs fs fs' rest rest')

one_files : HasNoOtherPicture → (sheet : Sheet) (files files' : List FolderFile) → AreFiles sheet.font sheet.edition sheet.waivers files
    → AreFiles sheet.font sheet.edition sheet.waivers files' → files ≡ files'
one_files no_other sheet files files' is is' =
    let faults = one_of_report sheet is'.faults is.faults is'.reported is.reported in
    let pictures = one_pictures no_other sheet (faulty_glyphs sheet.font is.faults) is.pictures is'.pictures is.are_pictures
    (subst (λ (fs : List FaultValue). ArePictures sheet.font sheet.edition sheet.waivers (faulty_glyphs sheet.font fs) is'.pictures) faults is'.are_pictures) in
    is.are
    ∙ ap₂ (λ (ps : List FolderFile) (fs : List FaultValue). ps ++ (index_file sheet.font sheet.waivers fs ∷ [])) pictures (sym faults)
    ∙ sym is'.are

one_asked : HasNoOtherPicture → (sheet : Sheet) (asked : AskedValue) (a b : Answer)
    → IsAnswerToAsked sheet asked a → IsAnswerToAsked sheet asked b → a ≡ b
one_asked no_other sheet (one_glyph name wanted) a b is is' = one_at no_other sheet wanted (glyph_named sheet.font name) a b is is'
one_asked no_other sheet (all_faulty folder) a b (files, (are, at)) (files', (are', at')) =
    at ∙ ap Files (one_files no_other sheet files files' are are') ∙ sym at'

one_to : HasNoOtherPicture → (wish : Wish) (read : Result FontValue Refusal) (waived : Result (List Waiver) Refusal) (a b : Answer)
    → IsAnswerTo wish read waived a → IsAnswerTo wish read waived b → a ≡ b
one_to no_other wish (Err why) waived a b is is' = is ∙ sym is'
one_to no_other wish (Ok font) (Err why) a b is is' = is ∙ sym is'
one_to no_other wish (Ok font) (Ok waivers) a b is is' =
    one_asked no_other (record { font = font; edition = wish.edition; waivers = waivers }) wish.asked a b is is'

-- ---- options of the same words

same_edition : (text : Option Text) (e e' : Edition) → IsEditionOrFirst text e → IsEditionOrFirst text e' → e ≡ e'
same_edition None e e' is is' = is ∙ sym is'
same_edition (Some text) e e' is is' = one_edition e e' (is.1 ∙ sym is'.1)

some_or : {A : Type 0} → A → Option A → A
some_or x (Some y) = y
some_or x None = x

one_some : {A : Type 0} (o : Option A) (x y : A) → o ≡ Some x → o ≡ Some y → x ≡ y
unfolding some_or
one_some o x y is is' = ap (some_or x) (sym is ∙ is')

same_wish : (words : List Text) (options options' : DrawOptions) → AreGiven words options → AreGiven words options' → wish_of options' ≡ wish_of options
same_wish words options options' given given' =
    let edition = same_edition _ options'.edition options.edition given'.edition given.edition in
    let asked = one_some (asked_in (given_by words)) (asked_value options'.asked) (asked_value options.asked) given'.asked given.asked in
    rw (edition, asked) refl

same_asking : (words : List Text) (options options' : DrawOptions) → AreGiven words options → AreGiven words options'
    → asks_waivers drawing options' ≡ asks_waivers drawing options
same_asking words options options' given given' =
    ap is_some (given'.waive ∙ sym given.waive)

pub one_answer : HasNoOtherPicture → HasNoOtherAnswer
one_answer no_other words options options' file text a b given given' is is' =
    one_to no_other (wish_of options) (font_of file) (waived_by (wish_of options).edition (asks_waivers drawing options) text) a b is
    (subst (λ (asked : Bool). IsAnswerTo (wish_of options) (font_of file) (waived_by (wish_of options).edition asked text) b) (same_asking words options options' given given')
    (subst (λ (wish : Wish). IsAnswerTo wish (font_of file) (waived_by wish.edition (asks_waivers drawing options') text) b) (same_wish words options options' given given') is'))
