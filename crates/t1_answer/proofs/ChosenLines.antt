-- The lines of the faults that are chosen of a report, one after another. What the marks of a walk count is a law of
-- t1_report, whose clauses these lemmas take.
use Rattle.std.proofs.Common.{◌≡◌, ℕ, suc, ◌+◌, ◌-◌, ◌^◌, ◌<◌, ◌≤◌, min, List, [], ◌∷◌, Option, None, Some, Result, Ok, Err, inl, inr, length, take, drop, get_or, slice_get, refl, sym, ap, subst, ◌∙◌, arith}
use Rattle.std.proofs.lemmas.Bool.{cases_lt}
use Rattle.std.proofs.lemmas.List.{drop_all, get_or-drop, get_or-take, length-drop, length-take, take_all}
use Rattle.std.proofs.lemmas.Option.{get_or_from_slice_get, slice_get_within}
use Rattle.std.specs.Option.{unwrap_or}
use Rattle.t1_font.specs.Fonts.{FontValue}
use Rattle.t1_report.specs.Checked.{CheckedFont}
use Rattle.std.specs.Result.{IsErrAnd}
use Rattle.t1_io.specs.Devices.{CallFailed, Delivered, Delivers, Flushed, PutFailed, SinkState, Wrote}
use Rattle.t1_io.proofs.SinkLemmas.{Delivers-flush, PutFailed-part, Wrote-part}
use Rattle.t1_report.specs.Faults.{FaultValue}
use Rattle.t1_report.specs.Lines.{line_of}
use Rattle.t1_report.specs.Reports.{IsReport}
use Rattle.t1_report.specs.Walks.{AreLater, HasNoneLater, IsNext, IsSoFar, first_mark, mark_of}
use Rattle.t1_report.specs.WalkViews.{WalkView}
use Rattle.t1_report.specs.declared.marks.Mark.{Mark}
use Rattle.t1_report.specs.Laws.Walks.{AllAreGivenAtLast, AreBehindTheCount, MarksGoOnCounting, NoneIsGivenAtFirst}
use Rattle.t1_answer.specs.declared.asked.CheckOptions.{CheckOptions}
use Rattle.t1_run.specs.declared.status.Status.{Status}
use Rattle.t1_run.specs.declared.status.Status.TheVariants.{Faults}
use Rattle.t1_answer.specs.Answers.{at_most, selection, status_of}
use Rattle.t1_answer.specs.Lines.{lines_of}
use Rattle.t1_report.specs.Waivers.{Waiver}

-- Of the faults from k on at most so many.
abbrev pub chosen : List FaultValue → ℕ → ℕ → List FaultValue
chosen faults k most = take most (drop k faults)

-- Of these the lines of the first i were written, and the mark is that of the last.
pub record HaveGone (font : FontValue) (waivers : List Waiver) (faults : List FaultValue) (k most i : ℕ) (mark : Mark) (old new : SinkState)
    (status : Status) : Type 0 where
  pub so_far : IsSoFar faults (k + i) mark
  pub wrote : Wrote old new (lines_of font waivers (take i (chosen faults k most)))
  pub status_is : status ≡ status_of (take i (chosen faults k most))

status_some : {A : Type 0} (xs : List A) (i : ℕ) → i < length xs → Faults ≡ status_of (take (suc i) xs)
status_some [] i less = absurd (omega (arith, less))
status_some (x ∷ xs) i less = refl

chosen_within : (faults : List FaultValue) (k most i : ℕ) (fault : FaultValue) → i < most → slice_get faults (k + i) ≡ Some fault
    → i < length (chosen faults k most)
chosen_within faults k most i fault less is =
    let within = slice_get_within faults (k + i) fault is in
    omega (arith, less, within, length-take most (drop k faults), length-drop k faults)

chosen_at : (faults : List FaultValue) (k most i : ℕ) (fault : FaultValue) → i < most → slice_get faults (k + i) ≡ Some fault
    → get_or (chosen faults k most) i fault ≡ fault
chosen_at faults k most i fault less is =
    get_or-take most (drop k faults) i fault less ∙ get_or-drop k faults i fault ∙ get_or_from_slice_get faults (k + i) fault fault is

pub none_gone : (font : FontValue) (waivers : List Waiver) (faults : List FaultValue) (k most : ℕ) (mark : Mark) (sink : SinkState) (status : Status)
    → IsSoFar faults k mark
    → Wrote sink sink [] → status ≡ status_of {A = FaultValue} [] → HaveGone font waivers faults k most 0 mark sink sink status
none_gone font waivers faults k most mark sink status so_far wrote is =
    let first : k ≡ k + 0 = omega arith in
    record { so_far = subst (λ n. IsSoFar faults n mark) first so_far; wrote = wrote; status_is = is }

pub one_gone : MarksGoOnCounting → (font : CheckedFont) (waivers : List Waiver) (faults : List FaultValue) (k most i : ℕ) (mark : Mark) (fault : FaultValue)
    (a b c : SinkState) (status : Status)
    → length font.value.glyphs ≤ 65535 → length waivers ≤ 1048576 → i < most → IsReport font waivers faults → IsNext font waivers mark fault
    → HaveGone font.value waivers faults k most i mark a b status → Wrote b c (line_of font.value waivers fault)
    → HaveGone font.value waivers faults k most (i + 1) (mark_of fault) a c Faults
one_gone counts font waivers faults k most i mark fault a b c status few few_waivers less report next gone more =
    let is = (counts font waivers faults (k + i) mark fault few few_waivers report gone.so_far next).0 in
    let within = chosen_within faults k most i fault less is in
    let on : (k + i) + 1 ≡ k + (i + 1) = omega arith in
    let count : suc i ≡ i + 1 = omega arith in
    record {
      so_far = subst (λ n. IsSoFar faults n (mark_of fault)) on (counts font waivers faults (k + i) mark fault few few_waivers report gone.so_far next).1;
      wrote = Wrote-part (line_of font.value waivers) (chosen faults k most) i fault a b c within gone.wrote
          (subst (λ f. Wrote b c (line_of font.value waivers f)) (sym (chosen_at faults k most i fault less is)) more);
      status_is = subst (λ n. Faults ≡ status_of (take n (chosen faults k most))) count (status_some (chosen faults k most) i within);
    }

pub one_failed : MarksGoOnCounting → (font : CheckedFont) (waivers : List Waiver) (faults : List FaultValue) (k most i : ℕ) (mark : Mark) (fault : FaultValue)
    (a b c : SinkState) (status : Status)
    → length font.value.glyphs ≤ 65535 → length waivers ≤ 1048576 → i < most → IsReport font waivers faults → IsNext font waivers mark fault
    → HaveGone font.value waivers faults k most i mark a b status → PutFailed b c (line_of font.value waivers fault)
    → PutFailed a c (lines_of font.value waivers (chosen faults k most))
one_failed counts font waivers faults k most i mark fault a b c status few few_waivers less report next gone broke =
    let is = (counts font waivers faults (k + i) mark fault few few_waivers report gone.so_far next).0 in
    PutFailed-part (line_of font.value waivers) (chosen faults k most) i fault a b c (chosen_within faults k most i fault less is) gone.wrote
    (subst (λ f. PutFailed b c (line_of font.value waivers f)) (sym (chosen_at faults k most i fault less is)) broke)

-- all of them
whole : (font : CheckedFont) (waivers : List Waiver) (faults : List FaultValue) (k most i : ℕ) (mark : Mark) (old new : SinkState) (status : Status)
    → HaveGone font.value waivers faults k most i mark old new status
    → length (chosen faults k most) ≤ i → Wrote old new (lines_of font.value waivers (chosen faults k most)) × (status ≡ status_of (chosen faults k most))
whole font waivers faults k most i mark old new status gone all =
    let same = take_all i (chosen faults k most) all in
    (subst (λ fs. Wrote old new (lines_of font.value waivers fs)) same gone.wrote, subst (λ (fs : List FaultValue). status ≡ status_of fs) same gone.status_is)

pub most_gone : (font : CheckedFont) (waivers : List Waiver) (faults : List FaultValue) (k most i : ℕ) (mark : Mark) (old new : SinkState) (status : Status)
    → HaveGone font.value waivers faults k most i mark old new status
    → most ≤ i → Wrote old new (lines_of font.value waivers (chosen faults k most)) × (status ≡ status_of (chosen faults k most))
most_gone font waivers faults k most i mark old new status gone all =
    whole font waivers faults k most i mark old new status gone (omega (arith, all, length-take most (drop k faults)))

pub all_gone : AllAreGivenAtLast → (font : CheckedFont) (waivers : List Waiver) (faults : List FaultValue) (k most i : ℕ) (mark : Mark) (old new : SinkState)
    (status : Status) → IsReport font waivers faults → HasNoneLater font waivers mark
    → HaveGone font.value waivers faults k most i mark old new status → Wrote old new (lines_of font.value waivers (chosen faults k most))
    × (status ≡ status_of (chosen faults k most))
all_gone ends font waivers faults k most i mark old new status report none gone =
    let last = ends font waivers faults (k + i) mark report gone.so_far none in
    whole font waivers faults k most i mark old new status gone (omega (arith, last, length-take most (drop k faults), length-drop k faults))

-- ---- what the options choose

drop_min : {A : Type 0} (n : ℕ) (xs : List A) → drop (min n (length xs)) xs ≡ drop n xs
drop_min n xs =
    elim (cases_lt (length xs) n) [
      | inl less ↦
          let same : min n (length xs) ≡ length xs = omega (arith, less) in
          ap (λ m. drop m xs) same ∙ drop_all (length xs) xs (omega arith) ∙ sym (drop_all n xs (omega (arith, less)))
      | inr within ↦
          let same : min n (length xs) ≡ n = omega (arith, within) in
          ap (λ m. drop m xs) same
    ]

most_are : (max : Option ℕ) (faults : List FaultValue) → length faults < 2 ^ 64 → take (unwrap_or max (2 ^ 64 - 1)) faults ≡ at_most max faults
most_are None faults few = take_all (2 ^ 64 - 1) faults (omega (arith, few))
most_are (Some max) faults few = refl

-- A fault's number is its place in the report, and no number is above the greatest of 64 bits.
few_behind : MarksGoOnCounting → (font : CheckedFont) (waivers : List Waiver) (faults : List FaultValue) (k : ℕ) (mark : Mark) (rest : List FaultValue)
    → length font.value.glyphs ≤ 65535 → length waivers ≤ 1048576
    → IsReport font waivers faults → IsSoFar faults k mark → AreLater font waivers mark rest → k < 2 ^ 64 → k + length rest < 2 ^ 64
few_behind counts font waivers faults k mark [] few few_waivers report so_far later small = omega (arith, small)
few_behind counts font waivers faults k mark (fault ∷ rest) few few_waivers report so_far (next, later) small =
    let on = (counts font waivers faults k mark fault few few_waivers report so_far next).1 in
    let number : fault.number ≡ k + 1 = on.number in
    let bounded : fault.number ≡ min (mark.number + 1) (2 ^ 64 - 1) = next.number in
    let below : k + 1 < 2 ^ 64 = omega (arith, number, bounded) in
    let count = few_behind counts font waivers faults (k + 1) (mark_of fault) rest few few_waivers report on later below in
    omega (arith, count)

few_faults : NoneIsGivenAtFirst → MarksGoOnCounting → AreBehindTheCount → (font : CheckedFont) (waivers : List Waiver) (faults : List FaultValue)
    → length font.value.glyphs ≤ 65535 → length waivers ≤ 1048576
    → IsReport font waivers faults → length faults < 2 ^ 64
few_faults starts counts behind font waivers faults few few_waivers report =
    let later = (behind font waivers faults 0 first_mark faults few few_waivers report (starts faults)).1 refl in
    let count = few_behind counts font waivers faults 0 first_mark faults few few_waivers report (starts faults) later (omega arith) in
    omega (arith, count)

chosen_are : NoneIsGivenAtFirst → MarksGoOnCounting → AreBehindTheCount → (font : CheckedFont) (waivers : List Waiver) (faults : List FaultValue)
    (options : CheckOptions) → length font.value.glyphs ≤ 65535 → length waivers ≤ 1048576 → IsReport font waivers faults
    → chosen faults (min options.after (length faults)) (unwrap_or options.max (2 ^ 64 - 1)) ≡ selection options faults
chosen_are starts counts behind font waivers faults options few few_waivers report =
    let count = few_faults starts counts behind font waivers faults few few_waivers report in
    ap (take (unwrap_or options.max (2 ^ 64 - 1))) (drop_min options.after faults)
    ∙ most_are options.max (drop options.after faults) (omega (arith, count, length-drop options.after faults))

-- ---- faults that are passed

pub one_passed : MarksGoOnCounting → (font : CheckedFont) (waivers : List Waiver) (faults : List FaultValue) (i : ℕ) (mark : Mark) (fault : FaultValue)
    → length font.value.glyphs ≤ 65535 → length waivers ≤ 1048576 → IsReport font waivers faults
    → IsNext font waivers mark fault → IsSoFar faults i mark → IsSoFar faults (i + 1) (mark_of fault)
one_passed counts font waivers faults i mark fault few few_waivers report next so_far =
    (counts font waivers faults i mark fault few few_waivers report so_far next).1

pub count_passed : (faults : List FaultValue) (count i : ℕ) (mark : Mark) → count ≡ i → IsSoFar faults i mark → IsSoFar faults (min count (length faults)) mark
count_passed faults count i mark is so_far =
    let within = so_far.given in
    let same : i ≡ min count (length faults) = omega (arith, is, within) in
    subst (λ n. IsSoFar faults n mark) same so_far

pub all_passed : AllAreGivenAtLast → (font : CheckedFont) (waivers : List Waiver) (faults : List FaultValue) (count i : ℕ) (mark : Mark)
    → IsReport font waivers faults → HasNoneLater font waivers mark → i < count → IsSoFar faults i mark
    → IsSoFar faults (min count (length faults)) mark
all_passed ends font waivers faults count i mark report none less so_far =
    let last = ends font waivers faults i mark report so_far none in
    let same : i ≡ min count (length faults) = omega (arith, last, less) in
    subst (λ n. IsSoFar faults n mark) same so_far

-- from before the first fault on
pub first_passed : NoneIsGivenAtFirst → (font : CheckedFont) (waivers : List Waiver) (begun : WalkView) (count : ℕ) (mark : Mark) → begun.font ≡ font
    → begun.waivers ≡ waivers → begun.mark ≡ first_mark
    → ((faults : List FaultValue) → IsReport begun.font begun.waivers faults → IsSoFar faults 0 begun.mark → IsSoFar faults (min count (length faults)) mark)
    → (faults : List FaultValue) → IsReport font waivers faults → IsSoFar faults (min count (length faults)) mark
first_passed starts font waivers begun count mark of_font of_waivers first passed faults report =
    passed faults
    (subst (λ (f : CheckedFont). IsReport f begun.waivers faults) (sym of_font) (subst (λ (w : List Waiver). IsReport font w faults) (sym of_waivers) report))
    (subst (λ (m : Mark). IsSoFar faults 0 m) (sym first) (starts faults))

pub chosen_by : NoneIsGivenAtFirst → MarksGoOnCounting → AreBehindTheCount → (font : CheckedFont) (waivers : List Waiver) (faults : List FaultValue)
    (options : CheckOptions) (most : ℕ) → most ≡ unwrap_or options.max (2 ^ 64 - 1) → length font.value.glyphs ≤ 65535 → length waivers ≤ 1048576
    → IsReport font waivers faults → chosen faults (min options.after (length faults)) most ≡ selection options faults
chosen_by starts counts behind font waivers faults options most is few few_waivers report = ap (λ n. take n (drop (min options.after (length faults)) faults))
    is ∙ chosen_are starts counts behind font waivers faults options few few_waivers report

-- ---- the flush after the lines

pub lines_delivered : (a b c : SinkState) (text : List ℕ) → Wrote a b text → Flushed b c → Delivered a c text
lines_delivered a b c text before flushed = Delivers-flush {X = ℕ} {E = ℕ} a b c text (Ok 0) before flushed

pub lines_unflushed : {X E : Type 0} (a b c : SinkState) (text : List ℕ) (r : Result X E) (P : E → Type 0) → IsErrAnd r P → Wrote a b text
    → CallFailed b c × (c.failed_puts ≡ b.failed_puts) → Delivers a c text r
lines_unflushed a b c text (Ok x) P never before failed = absurd never
lines_unflushed {X = X} {E = E} a b c text (Err e) P is before failed = Delivers-flush {X = X} {E = E} a b c text (Err e) before failed
