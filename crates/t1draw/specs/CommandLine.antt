-- The command line: its arguments as clap sees them, and the options that words give by clap's rules.
use Rattle.std.specs.Prelude.{◌≡◌, ◌∷◌, ◌||◌, ◌&&◌, ℕ, nat_lt, List, [], Bool, true, false, Option, None, Some, fold, if◌then◌else◌, option_map, codes, string_bytes, unwrap_or}
use Rattle.std.specs.Option.{is_some}
use Rattle.std.specs.Str.Parse.{digits_value, without_leading_plus}
use Rattle.clap.specs.Words.{App, Row, Rule, Text, count_of, fault_of, first_of, matches_of, new_app, new_rule, with_rule}
use Rattle.clap.specs.declared.builder.action.ArgAction.TheVariants.{Count, Set}
use Rattle.clap.specs.declared.builder.value_parser.ValueParser.TheVariants as parser
use Rattle.t1_run.specs.Words.{AreRefused, IsEditionOrFirst, edition_rule, waive_rule}
use Rattle.t1_run.specs.declared.usage.UsageError.{UsageError}
use Rattle.t1_run.specs.declared.usage.UsageError.TheVariants.{Usage}
use Rattle.t1_forms.specs.NameWords.{name_of_word}
use Rattle.t1_picture.specs.declared.extent.Extent.{Extent}
use Rattle.t1_picture.specs.declared.extent.Extent.TheVariants.{All, Fault, UpTo}
use Rattle.t1draw.specs.declared.complaint.Complaint.{Complaint}
use Rattle.t1draw.specs.declared.complaint.Complaint.TheVariants as complaint
use Rattle.t1draw.specs.declared.options.Asked.{Asked}
use Rattle.t1draw.specs.declared.options.Asked.TheVariants as asked
use Rattle.t1draw.specs.declared.options.DrawOptions.{DrawOptions}

-- ---- the arguments

-- --step N and --fault N, N a number of 64 bits from 1 on
abbrev pub positive_rule : Text → Rule
positive_rule name = record (new_rule name) {
  long = Some name;
  value_names = 1;
  parser = Some (parser.Unsigned 1 18446744073709551615);
}

abbrev pub step_rule : Rule
step_rule = positive_rule (codes "step")

abbrev pub fault_rule : Rule
fault_rule = positive_rule (codes "fault")

-- --faulty, which may be given again
abbrev pub faulty_rule : Rule
faulty_rule = record (new_rule (codes "faulty")) { long = Some (codes "faulty"); action = Some Count }

-- -o FOLDER
abbrev pub folder_rule : Rule
folder_rule = record (new_rule (codes "folder")) { short = Some 111; value_names = 1 }

-- GLYPH, which has to be there; with --faulty it is FONT
abbrev pub glyph_rule : Rule
glyph_rule = record (new_rule (codes "glyph")) { value_names = 1; action = Some Set; required = true }

-- FONT
abbrev pub font_rule : Rule
font_rule = record (new_rule (codes "font")) { value_names = 1 }

abbrev pub rules : List Rule
rules = edition_rule ∷ waive_rule ∷ step_rule ∷ fault_rule ∷ faulty_rule ∷ folder_rule ∷ glyph_rule ∷ font_rule ∷ []

unfoldable pub t1draw : App
t1draw = fold with_rule (new_app (codes "t1draw")) rules

-- ---- what words give

-- The number that an argument is given, as clap reads it: a plus before its digits doesn't count.
abbrev pub number_in : Text → ℕ
number_in text = digits_value 10 (without_leading_plus text)

-- What is given for each argument but the edition and the waivers.
pub record GivenValue : Type 0 where
  pub step : Option ℕ
  pub fault : Option ℕ
  pub faulty : Bool
  pub folder : Option Text
  pub word : Text
  pub font : Option Text

abbrev pub given_in : List Row → GivenValue
given_in rows = record {
  step = option_map number_in (first_of (codes "step") rows);
  fault = option_map number_in (first_of (codes "fault") rows);
  faulty = nat_lt 0 (count_of (codes "faulty") rows);
  folder = first_of (codes "folder") rows;
  word = unwrap_or (first_of (codes "glyph") rows) [];
  font = first_of (codes "font") rows;
}

abbrev pub given_by : List Text → GivenValue
given_by words = given_in (matches_of t1draw words)

-- A folder is named, and not by an empty name.
abbrev pub has_folder : Option Text → Bool
has_folder None = false
has_folder (Some []) = false
has_folder (Some (letter ∷ letters)) = true

-- What is wrong with arguments together: the first of these.
abbrev pub wrong_in : GivenValue → Option Complaint
wrong_in given =
    if given.faulty then
    (if is_some given.step || is_some given.fault then Some complaint.StepOfFaulty
    else (if has_folder given.folder then (if is_some given.font then Some complaint.GlyphOfFaulty else None)
    else Some complaint.NoFolder))
    else (if is_some given.folder then Some complaint.FolderOfNone
    else (if is_some given.step && is_some given.fault then Some complaint.StepAndFault else None))

-- What is to be drawn: the glyph of this name, and how much of it; or the glyphs that have faults, into a folder.
pub data AskedValue : Type 0 where
  one_glyph : List ℕ → Extent → AskedValue
  all_faulty : List ℕ → AskedValue

abbrev pub asked_value : Asked → AskedValue
asked_value (asked.Glyph name extent) = one_glyph name.items extent
asked_value (asked.Faulty folder) = all_faulty (string_bytes folder)

abbrev pub extent_by : Option ℕ → Option ℕ → Extent
extent_by (Some step) fault = UpTo step
extent_by None (Some fault) = Fault fault
extent_by None None = All

abbrev pub faulty_into : Option Text → Option AskedValue
faulty_into folder = Some (all_faulty (unwrap_or folder []))

-- Nothing, where the word is no name.
abbrev pub glyph_of_word : Text → Extent → Option AskedValue
glyph_of_word word extent = option_map (λ name. one_glyph name extent) (name_of_word word)

abbrev pub asked_in : GivenValue → Option AskedValue
asked_in given = if given.faulty then faulty_into given.folder else glyph_of_word given.word (extent_by given.step given.fault)

-- The font's file. With --faulty no GLYPH is before it.
abbrev pub font_in : GivenValue → Option Text
font_in given = if given.faulty then Some given.word else given.font

-- The options are those that the words give.
pub record AreGiven (words : List Text) (options : DrawOptions) : Type 0 where
  pub edition : IsEditionOrFirst (first_of (codes "edition") (matches_of t1draw words)) options.edition
  pub waive : option_map string_bytes options.waive ≡ first_of (codes "waive") (matches_of t1draw words)
  pub fitting : wrong_in (given_by words) ≡ None
  pub asked : asked_in (given_by words) ≡ Some (asked_value options.asked)
  pub font : option_map string_bytes options.font ≡ font_in (given_by words)

-- They are, and clap's rules find no fault in the words.
pub record AreTaken (words : List Text) (options : DrawOptions) : Type 0 where
  pub given : AreGiven words options
  pub sound : fault_of t1draw words ≡ []

-- What is printed for words that give no options.
abbrev pub complaint_text : Complaint → List ℕ
complaint_text complaint.StepOfFaulty =
    codes "error: --faulty draws each glyph that has faults, and takes neither --step nor --fault\n\nFor more information, try '--help'.\n"
complaint_text complaint.NoFolder = codes "error: --faulty needs -o FOLDER\n\nFor more information, try '--help'.\n"
complaint_text complaint.GlyphOfFaulty =
    codes "error: --faulty takes no GLYPH, only FONT\n\nFor more information, try '--help'.\n"
complaint_text complaint.FolderOfNone = codes "error: -o FOLDER needs --faulty\n\nFor more information, try '--help'.\n"
complaint_text complaint.StepAndFault =
    codes "error: --step and --fault exclude one another\n\nFor more information, try '--help'.\n"
complaint_text complaint.BadName =
    codes "error: in GLYPH a backslash stands in front of another one, or of x and two hexadecimal digits\n\nFor more information, try '--help'.\n"

-- The arguments don't fit together, or GLYPH is no name.
pub data IsWrong (given : GivenValue) : Complaint → Type 0 where
  together : (what : Complaint) → wrong_in given ≡ Some what → IsWrong given what
  no_name : wrong_in given ≡ None → asked_in given ≡ None → IsWrong given complaint.BadName

-- The words give no options: clap's rules refuse them, help was requested, or memory ran out; or what they say is wrong.
pub data AreUntaken (words : List Text) (error : UsageError) : Type 0 where
  refused : AreRefused t1draw words error → AreUntaken words error
  wrong :
      (what : Complaint) → (text : _) → fault_of t1draw words ≡ [] → IsWrong (given_by words) what
      → error ≡ Usage text → string_bytes text ≡ complaint_text what → AreUntaken words error
