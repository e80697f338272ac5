-- The statements of laws: of the same bytes t1check writes the same.
use Rattle.std.specs.Prelude.{◌≡◌, ℕ, false, List, [], ◌∷◌, None, Some, Result, Ok, Err}
use Rattle.t1_answer.specs.Answers.{Answer, IsAnswer, waived_by}
use Rattle.t1_answer.specs.Waived.{asks_waivers}
use Rattle.t1_answer.specs.declared.asked.CheckOptions.{CheckOptions}
use Rattle.t1_font.specs.Fonts.{FontValue}
use Rattle.t1_report.specs.Refusals.{refusal_code_of, Refusal}
use Rattle.t1_font.specs.declared.unread.RefusalCode.{RefusalCode}
use Rattle.t1_pieces.specs.Forms.{lines_as}
use Rattle.t1_pieces.specs.declared.form.Form.TheVariants.{Text}
use Rattle.t1_report.specs.Checked.{checked}
use Rattle.t1_report.specs.Faults.{FaultValue}
use Rattle.t1_report.specs.Reports.{IsReport}
use Rattle.t1_report.specs.Waivers.{Waiver}
use Rattle.t1_run.specs.Failures.{refusal_line}
use Rattle.t1_run.specs.FontFiles.{font_of}
use Rattle.t1_run.specs.WaiverFiles.{waivers_in}
use Rattle.t1_run.specs.declared.status.Status.{Status}
use Rattle.t1_run.specs.declared.status.Status.TheVariants.{Clean, Faults, Refused}

-- Options of t1check that request a whole report: by the waivers of a file, or by none.
pub record AskAll (options : CheckOptions) : Type 0 where
  pub after : options.after ≡ 0
  pub max : options.max ≡ None
  pub trace : options.trace ≡ None

-- The status says whether there is a fault.
abbrev pub IsStatusOf : List FaultValue → Status → Type 0
IsStatusOf [] status = status ≡ Clean
IsStatusOf (fault ∷ more) status = status ≡ Faults

-- Of bytes that are parsed t1check writes the lines of the report and nothing else.
abbrev pub T1checkWritesThem : Type 0
T1checkWritesThem =
    (options : CheckOptions) (bytes text : List ℕ) (font : FontValue) (waivers : List Waiver) (faults : List FaultValue) (answer : Answer)
    → AskAll options → font_of bytes ≡ Ok font → waived_by options text ≡ Ok waivers
    → IsReport (checked font options.edition) waivers faults → IsAnswer options bytes text answer
    → (answer.output ≡ lines_as Text (checked font options.edition) waivers faults) × (answer.told ≡ []) × IsStatusOf faults answer.status

-- It takes the waivers that the same text has. None are given where none are requested, and none are taken then.
abbrev pub T1checkTakesWaivers : Type 0
T1checkTakesWaivers =
    (options : CheckOptions) (text : List ℕ)
    → ((asks_waivers options ≡ false → text ≡ []) → waived_by options text ≡ waivers_in options.edition text)
    × (asks_waivers options ≡ false → waived_by options text ≡ Ok [])

-- For the reason why they aren't it prints the same code and text, and nothing else.
abbrev pub IsRefusedFor : {A B : Type 0} → Result A Refusal → Result B Refusal → Refusal → Type 0
IsRefusedFor (Err why) waived reason = why ≡ reason
IsRefusedFor (Ok font) (Err why) reason = why ≡ reason
IsRefusedFor (Ok font) (Ok waivers) reason = ⊥

abbrev pub T1checkRefusesThem : Type 0
T1checkRefusesThem =
    (options : CheckOptions) (bytes text : List ℕ) (reason : Refusal) (code : RefusalCode) (answer : Answer)
    → AskAll options → IsRefusedFor (font_of bytes) (waived_by options text) reason → refusal_code_of reason ≡ Some code
    → IsAnswer options bytes text answer → (answer.output ≡ []) × (answer.told ≡ refusal_line code) × (answer.status ≡ Refused)
