-- What t1check answers to the same bytes.
use Rattle.std.proofs.Common.{◌≡◌, ◌∙◌, ℕ, Bool, true, false, if◌then◌else◌, List, [], ◌∷◌, Option, None, Some, Result, Ok, Err, ap, drop, option_map, refl, string_bytes, subst, sym}
use Rattle.t1_answer.specs.Answers.{Answer, IsAnswerTo, IsReported, IsShown, at_most, refused, reported, selection, status_of, waived_by}
use Rattle.t1_answer.specs.Waived.{asks_waivers}
use Rattle.t1_answer.specs.Told.{program, told_of}
use Rattle.t1_answer.specs.declared.asked.CheckOptions.{CheckOptions}
use Rattle.t1_char.specs.declared.edition.Edition.{Edition}
use Rattle.t1_font.specs.Fonts.{FontValue}
use Rattle.t1_report.specs.Refusals.{refusal_code_of, Refusal}
use Rattle.t1_font.specs.declared.unread.RefusalCode.{RefusalCode}
use Rattle.t1_report.specs.Checked.{checked}
use Rattle.t1_report.specs.Faults.{FaultValue}
use Rattle.t1_report.specs.Laws.Reports.{HasNoOtherReport}
use Rattle.t1_report.specs.Waivers.{Waiver, lines_from, lines_read}
use Rattle.t1_run.specs.Failures.{failure_line, refusal_line, refused_by}
use Rattle.t1_run.specs.FontFiles.{font_of}
use Rattle.t1_run.specs.WaiverFiles.{waivers_in}
use Rattle.t1_run.specs.declared.status.Status.TheVariants as status
use Rattle.t1_pieces.specs.T1check.{AskAll, IsRefusedFor, IsStatusOf, T1checkRefusesThem, T1checkTakesWaivers, T1checkWritesThem}

-- These options request no trace.
untraced : (options : CheckOptions) (font : FontValue) (waived : Result (List Waiver) Refusal) (answer : Answer) → options.trace ≡ None
    → IsShown options font waived (option_map string_bytes options.trace) answer → IsReported options font waived answer
untraced options font waived answer none shown =
    subst (λ (trace : Option (List ℕ)). IsShown options font waived trace answer) (ap (option_map string_bytes) none) shown

whole : (options : CheckOptions) (faults : List FaultValue) → AskAll options → selection options faults ≡ faults
whole options faults all =
    ap (λ (max : Option ℕ). at_most max (drop options.after faults)) all.max ∙ ap (λ (k : ℕ). drop k faults) all.after

same_status : (faults : List FaultValue) → IsStatusOf faults (status_of faults)
same_status [] = refl
same_status (fault ∷ more) = refl

pub writes : HasNoOtherReport → T1checkWritesThem
writes no_other options bytes text font waivers faults answer all of_font of_waivers report is =
    let waived = subst (λ (w : Result (List Waiver) Refusal). IsAnswerTo options (font_of bytes) w answer) of_waivers is in
    let read = subst (λ (r : Result FontValue Refusal). IsAnswerTo options r (Ok waivers) answer) of_font waived in
    let shown = untraced options font (Ok waivers) answer all.trace read in
    let same = no_other (checked font options.edition) waivers shown.0 faults shown.1.0 report in
    let answered : answer ≡ reported font waivers faults =
    shown.1.1 ∙ ap (reported font waivers) (whole options shown.0 all ∙ same) in
    let status : IsStatusOf faults answer.status = subst (IsStatusOf faults) (sym (ap (λ (a : Answer). a.status) answered)) (same_status faults) in
    (ap (λ (a : Answer). a.output) answered, ap (λ (a : Answer). a.told) answered, status)

-- A refusal that is printed.
told : (reason : Refusal) (code : RefusalCode) (answer : Answer) → refusal_code_of reason ≡ Some code → answer ≡ refused (told_of reason)
    → (answer.output ≡ []) × (answer.told ≡ refusal_line code) × (answer.status ≡ status.Refused)
told reason code answer coded is = (
  ap (λ (a : Answer). a.output) is,
  ap (λ (a : Answer). a.told) is ∙ ap (λ (c : Option RefusalCode). failure_line program (refused_by c)) coded,
  ap (λ (a : Answer). a.status) is,
)

by_read : (options : CheckOptions) (read : Result FontValue Refusal) (waived : Result (List Waiver) Refusal) (reason : Refusal) (code : RefusalCode)
    (answer : Answer) → options.trace ≡ None → IsRefusedFor read waived reason → refusal_code_of reason ≡ Some code
    → IsAnswerTo options read waived answer → (answer.output ≡ []) × (answer.told ≡ refusal_line code) × (answer.status ≡ status.Refused)
by_read options (Err why) waived reason code answer none is coded answered =
    told reason code answer coded (answered ∙ ap (λ (r : Refusal). refused (told_of r)) is)
by_read options (Ok font) (Err why) reason code answer none is coded answered =
    told reason code answer coded (untraced options font (Err why) answer none answered ∙ ap (λ (r : Refusal). refused (told_of r)) is)
by_read options (Ok font) (Ok waivers) reason code answer none is coded answered = absurd is

pub refuses : T1checkRefusesThem
refuses options bytes text reason code answer all why coded is =
    by_read options (font_of bytes) (waived_by options text) reason code answer all.trace why coded is

-- ---- waivers

none_in : (edition : Edition) → Ok [] ≡ waivers_in edition []
unfolding waivers_in lines_read lines_from
none_in edition = refl

pub takes : T1checkTakesWaivers
takes options text = (λ none. same (asks_waivers options) refl none, λ unasked. rw unasked refl)
  where
    same : (asked : Bool) → asks_waivers options ≡ asked → (asks_waivers options ≡ false → text ≡ [])
        → (if asked then waivers_in options.edition text else Ok []) ≡ waivers_in options.edition text
    same true is none = refl
    same false is none = subst (λ (t : List ℕ). Ok [] ≡ waivers_in options.edition t) (sym (none is)) (none_in options.edition)
