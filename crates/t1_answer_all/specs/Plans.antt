-- What a run over many fonts is to do, by the options.
use Rattle.std.specs.Prelude.{◌&&◌, ◌||◌, not, ℕ, Bool, true, false, List, [], ◌∷◌, map, string_bytes}
use Rattle.t1_answer_all.specs.Layouts.{LayoutValue, is_terminal, layout_of, layout_value}
use Rattle.t1_answer_all.specs.Listing.{FontsValue, unlisted_of}
use Rattle.t1_answer_all.specs.Modes.{ModeValue, anew, beyond, judges_of, mode_value, told, waived}
use Rattle.t1_answer_all.specs.Unlisted.{unlisted_in}
use Rattle.t1_answer_all.specs.declared.plan.Asked.{Asked}
use Rattle.t1_answer_all.specs.declared.plan.Plan.{Plan}
use Rattle.t1_char.specs.declared.edition.Edition.{Edition}
use Rattle.t1_forms.specs.PageValues.{PageValue, page_value}
use Rattle.t1_forms.specs.Tellings.{ToldValue}
use Rattle.t1_many.specs.Calls.{Calls}
use Rattle.t1_many.specs.Choice.{Choice, choice_of}
use Rattle.t1_many.specs.Files.{Files, files_by}
use Rattle.t1_many.specs.KnownFaults.{RowValue}
use Rattle.t1_many.specs.Outcomes.{Report}
use Rattle.t1_many.specs.declared.font_files.WaiverFiles.{WaiverFiles}
use Rattle.t1_many.specs.declared.font_files.WaiverFiles.TheVariants as files
use Rattle.t1_many.specs.declared.verdict.Verdict.{Verdict}
use Rattle.t1_options.specs.declared.asked.Baseline.{Baseline}
use Rattle.t1_options.specs.declared.asked.Baseline.TheVariants as faults
use Rattle.t1_options.specs.declared.asked.Options.{Options}
use Rattle.t1_options.specs.declared.asked.Waivers.{Waivers}
use Rattle.t1_options.specs.declared.asked.Waivers.TheVariants as waivers
use Rattle.t1_report.specs.Faults.{FaultValue}
use Rattle.t1_rules.specs.declared.mask.Mask.{Mask}

-- The fonts that are checked, by which edition and rules; which of their lines are chosen, and how they are written, after what couldn't be
-- listed; and what is printed of known faults and in a summary, and makes the status that of faults.
pub record PlanValue : Type 0 where
  pub names : List (List ℕ)
  pub edition : Edition
  pub rules : Mask
  pub mode : ModeValue
  pub choice : Choice
  pub failing : Mask
  pub layout : LayoutValue
  pub unlisted : List ToldValue
  pub quiet : Bool
  pub tells_edition : Bool

abbrev pub plan_value : Plan → PlanValue
plan_value plan = record {
  names = map string_bytes plan.names.now;
  edition = plan.edition;
  rules = plan.rules;
  mode = mode_value plan.mode;
  choice = choice_of plan.choice;
  failing = plan.failing;
  layout = layout_value plan.layout;
  unlisted = unlisted_in plan.unlisted;
  quiet = plan.quiet;
  tells_edition = plan.tells_edition;
}

-- A run: what it is to do, and the files that it reads.
pub record Run : Type 1 where
  pub plan : PlanValue
  pub files : Files

-- The run of a plan of the program, over files that calls change.
abbrev pub run_of : {F : Type 0} → Plan → Calls F → F → F → Run
run_of plan calls old new = record { plan = plan_value plan; files = files_by calls plan.beside old new }

-- How the faults of the report of a font of this name are judged.
abbrev pub judges_in : PlanValue → List ℕ → Report → FaultValue → Verdict
judges_in plan = judges_of plan.mode plan.rules

-- ---- by what is requested

-- The options, and the pages that a document of SARIF has.
pub record AskedValue : Type 0 where
  pub options : Options
  pub pages : List PageValue

abbrev pub asked_value : Asked → AskedValue
asked_value asked = record { options = asked.options.now; pages = map page_value asked.pages.now }

-- The files of waivers beside fonts are read unless they are left aside or written.
abbrev pub beside_of : Waivers → WaiverFiles
beside_of waivers.Read = files.Read
beside_of waivers.LeftAside = files.LeftAside
beside_of waivers.Written = files.LeftAside
beside_of waivers.Overwritten = files.LeftAside

-- By the file of known faults, whose rows these are.
abbrev pub mode_of_file : Baseline → List RowValue → ModeValue
mode_of_file faults.Unnamed rows = told
mode_of_file (faults.Compared file) rows = beyond rows
mode_of_file (faults.Updated file) rows = anew rows

-- Waivers that are to be written go before known faults.
abbrev pub mode_by : Waivers → Baseline → List RowValue → ModeValue
mode_by waivers.Read file rows = mode_of_file file rows
mode_by waivers.LeftAside file rows = mode_of_file file rows
mode_by waivers.Written file rows = waived
mode_by waivers.Overwritten file rows = waived

-- No summary is printed where there is no font, as in an empty shard.
abbrev pub has_none : List (List ℕ) → Bool
has_none [] = true
has_none (name ∷ names) = false

abbrev pub is_quiet : Options → FontsValue → Bool
is_quiet options fonts = options.quiet || has_none fonts.names

-- The summary says by which edition fonts were checked where lines are written as on a terminal, and no edition was named.
abbrev pub tells_edition : Options → LayoutValue → Bool
tells_edition options layout = not options.names_edition && is_terminal layout

-- What is requested of these fonts, given the rows of the file of known faults.
abbrev pub plan_by : AskedValue → List RowValue → FontsValue → PlanValue
plan_by asked rows fonts = record {
  names = fonts.names;
  edition = asked.options.edition;
  rules = asked.options.rules;
  mode = mode_by asked.options.waivers asked.options.known_faults rows;
  choice = record { only = map string_bytes asked.options.only.items; except = map string_bytes asked.options.except.items };
  failing = asked.options.failing;
  layout = layout_of asked.pages asked.options;
  unlisted = unlisted_of fonts;
  quiet = is_quiet asked.options fonts;
  tells_edition = tells_edition asked.options (layout_of asked.pages asked.options);
}
