-- The program's answer to the bytes of a source.
use Rattle.std.proofs.Common.{option_map, string_bytes, ◌≡◌, List, Option, None, Some, Result, Ok, Err, sym, ap, ◌∙◌, refl, ℕ}
use Rattle.t1_font.specs.Fonts.{FontValue}
use Rattle.t1_report.specs.Checked.{checked}
use Rattle.t1_report.specs.Faults.{FaultValue}
use Rattle.t1_report.specs.Laws.Reports.{HasNoOtherReport, HasReport}
use Rattle.t1_answer.specs.declared.asked.CheckOptions.{CheckOptions}
use Rattle.t1_report.specs.Refusals.{Refusal}
use Rattle.t1_answer.specs.Answers.{Answer, IsAnswerTo, IsShown, selection, refused as refusal, reported, IsReported, traced, waived_by}
use Rattle.t1_answer.specs.Laws.Answers.{HasAnAnswer, HasNoOtherAnswer}
use Rattle.t1_run.specs.FontFiles.{font_of}
use Rattle.t1_answer.specs.Told.{told_of}
use Rattle.t1_report.specs.Waivers.{Waiver}

-- there is an answer, as each font has a report
has_reported : HasReport → (options : CheckOptions) (font : FontValue) (waived : Result (List Waiver) Refusal) → (answer : Answer)
    × IsReported options font waived answer
has_reported reports options font (Ok waivers) =
    let (faults, is) = reports (checked font options.edition) waivers in
    (reported font waivers (selection options faults), (faults, (is, refl)))
has_reported reports options font (Err reason) = (refusal (told_of reason), refl)

has_shown : HasReport → (options : CheckOptions) (font : FontValue) (waived : Result (List Waiver) Refusal) (name : Option (List ℕ)) → (answer : Answer)
    × IsShown options font waived name answer
has_shown reports options font waived None = has_reported reports options font waived
has_shown reports options font waived (Some name) = (traced options.edition font name, refl)

has_by_read : HasReport → (options : CheckOptions) (read : Result FontValue Refusal) (waived : Result (List Waiver) Refusal) → (answer : Answer)
    × IsAnswerTo options read waived answer
has_by_read reports options (Ok font) waived = has_shown reports options font waived (option_map string_bytes options.trace)
has_by_read reports options (Err reason) waived = (refusal (told_of reason), refl)

pub has_answer : HasReport → HasAnAnswer
has_answer reports options input text = has_by_read reports options (font_of input) (waived_by options text)

-- the options and the bytes decide the answer, as a font has no other report
one_reported : HasNoOtherReport → (options : CheckOptions) (font : FontValue) (waived : Result (List Waiver) Refusal) (a b : Answer)
    → IsReported options font waived a → IsReported options font waived b → a ≡ b
one_reported no_other options font (Ok waivers) a b (xs, (p, e)) (ys, (q, f)) =
    e ∙ ap (λ (zs : List FaultValue). reported font waivers (selection options zs)) (no_other (checked font options.edition) waivers xs ys p q) ∙ sym f
one_reported no_other options font (Err reason) a b p q = p ∙ sym q

one_shown : HasNoOtherReport → (options : CheckOptions) (font : FontValue) (waived : Result (List Waiver) Refusal) (name : Option (List ℕ)) (a b : Answer)
    → IsShown options font waived name a → IsShown options font waived name b → a ≡ b
one_shown no_other options font waived None a b p q = one_reported no_other options font waived a b p q
one_shown no_other options font waived (Some name) a b p q = p ∙ sym q

one_by_read : HasNoOtherReport → (options : CheckOptions) (read : Result FontValue Refusal) (waived : Result (List Waiver) Refusal) (a b : Answer)
    → IsAnswerTo options read waived a → IsAnswerTo options read waived b → a ≡ b
one_by_read no_other options (Ok font) waived a b p q = one_shown no_other options font waived (option_map string_bytes options.trace) a b p q
one_by_read no_other options (Err reason) waived a b p q = p ∙ sym q

pub one_answer : HasNoOtherReport → HasNoOtherAnswer
one_answer no_other options input text a b p q = one_by_read no_other options (font_of input) (waived_by options text) a b p q
