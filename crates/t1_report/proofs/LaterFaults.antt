-- The faults after a mark are those of the report that weren't returned.
use Rattle.std.proofs.Common.{◌≡◌, ◌↔◌, ℕ, zero, suc, ◌+◌, ◌-◌, ◌^◌, ◌<◌, ◌≤◌, inl, inr, List, [], ◌∷◌, drop, length, slice_get, take, Some, refl, sym, ap, subst, ◌∙◌, arith}
use Rattle.std.proofs.lemmas.List.{drop_all}
use Rattle.std.proofs.lemmas.Option.{get_or_from_slice_get, slice_get_cases, slice_get_within}
use Rattle.std.proofs.Math.Seq.{drop-cons}
use Rattle.t1_report.specs.Checked.{CheckedFont}
use Rattle.t1_report.specs.declared.marks.Mark.{Mark}
use Rattle.t1_report.specs.Faults.{FaultValue}
use Rattle.t1_report.specs.Laws.Walks.{AreBehindTheCount, AreTheReport, AreTheRest, GivenAreTheFront, MarksGoOnCounting}
use Rattle.t1_report.specs.Reports.{IsReport, IsReportOf, Place, path_at, IsTold}
use Rattle.t1_report.specs.Walks.{AreLater, AreLaterOf, IsSoFar, first_mark, mark_of}
use Rattle.t1_report.proofs.FewFaults.{few_faults}
use Rattle.t1_report.proofs.HasReport.{has_report}
use Rattle.t1_report.proofs.SoFar.{has_none_later, is_next, next_in_font, next_is, none_left, one_fault_more, one_more_in_font, so_far_at, so_far_start}
use Rattle.t1_report.specs.Waivers.{Waiver}

drop_next : (faults : List FaultValue) (k : ℕ) (fault : FaultValue) → slice_get faults k ≡ Some fault → drop k faults ≡ fault ∷ drop (k + 1) faults
drop_next faults k fault is =
    let next : suc k ≡ k + 1 = omega arith in
    drop-cons faults k fault (slice_get_within faults k fault is)
    ∙ ap (λ (f : FaultValue). f ∷ drop (suc k) faults) (get_or_from_slice_get faults k fault fault is)
    ∙ ap (λ (n : ℕ). fault ∷ drop n faults) next

module _ (Violated : Place → Type 0) (path_of : Place → List ℕ) where
  pub later_are : (faults : List FaultValue) (k : ℕ) (mark : Mark) (later : List FaultValue) → length faults < 2 ^ 64 → IsReportOf Violated path_of faults
      → IsSoFar faults k mark → AreLaterOf Violated path_of mark later → later ≡ drop k faults
  later_are faults k mark [] few report so_far none =
      let all = none_left Violated path_of faults k mark report so_far none in
      sym (drop_all k faults (omega (arith, all)))
  later_are faults k mark (fault ∷ rest) few report so_far (next, later) =
      let is = (next_is Violated path_of faults k mark fault few report so_far next).1 in
      ap (λ (fs : List FaultValue). fault ∷ fs)
      (later_are faults (k + 1) (mark_of fault) rest few report (one_fault_more Violated path_of faults k mark fault few report so_far next) later)
      ∙ sym (drop_next faults k fault is)

  later_from : (left : ℕ) (faults : List FaultValue) (k : ℕ) (mark : Mark) → k + left ≡ length faults → length faults < 2 ^ 64
      → IsReportOf Violated path_of faults
      → IsSoFar faults k mark → AreLaterOf Violated path_of mark (drop k faults)
  later_from zero faults k mark all few report so_far =
      subst (AreLaterOf Violated path_of mark) (sym (drop_all k faults (omega arith)))
      (has_none_later Violated path_of faults k mark report so_far (omega arith))
  later_from (suc left) faults k mark some few report so_far =
      elim (slice_get_cases faults k).1 [
        | inl (fault, less, is, at) ↦
            subst (AreLaterOf Violated path_of mark) (sym (drop_next faults k fault is)) (
              is_next Violated path_of faults k mark fault few report so_far is,
              later_from left faults (k + 1) (mark_of fault) (omega arith) few report (so_far_at faults k fault report.rising report.numbered is),
            )
        | inr (past, is) ↦ absurd (omega arith)
      ]

  pub rest_later : (faults : List FaultValue) (k : ℕ) (mark : Mark) → length faults < 2 ^ 64 → IsReportOf Violated path_of faults
      → IsSoFar faults k mark → AreLaterOf Violated path_of mark (drop k faults)
  rest_later faults k mark few report so_far = let within = so_far.given in later_from (length faults - k) faults k mark (omega arith) few report so_far

  pub rest_is : (faults : List FaultValue) (k : ℕ) (mark : Mark) (later : List FaultValue) → length faults < 2 ^ 64 → IsReportOf Violated path_of faults
      → IsSoFar faults k mark → AreLaterOf Violated path_of mark later ↔ (later ≡ drop k faults)
  rest_is faults k mark later few report so_far = (
    later_are faults k mark later few report so_far,
    λ same. subst (AreLaterOf Violated path_of mark) (sym same)
        (rest_later faults k mark few report so_far),
  )

-- ---- in a font

pub rest_in_font : (font : CheckedFont) (waivers : List Waiver) (faults : List FaultValue) (k : ℕ) (mark : Mark) (later : List FaultValue)
    → length font.value.glyphs ≤ 65535 → length waivers ≤ 1048576 → IsReport font waivers faults
    → IsSoFar faults k mark → AreLater font waivers mark later ↔ (later ≡ drop k faults)
rest_in_font font waivers faults k mark later few few_waivers report = rest_is (IsTold font waivers) (path_at font) faults k mark later
    (few_faults font waivers faults few few_waivers report) report

are_report : (font : CheckedFont) (waivers : List Waiver) (report faults : List FaultValue) → length font.value.glyphs ≤ 65535 → length waivers ≤ 1048576
    → IsReport font waivers report → AreLater font waivers first_mark faults → IsReport font waivers faults
are_report font waivers report faults few few_waivers is later =
    let same : faults ≡ report = (rest_in_font font waivers report 0 first_mark faults few few_waivers is (so_far_start report)).0 later in
    subst (IsReport font waivers) (sym same) is

pub the_report : AreTheReport
the_report font waivers faults few few_waivers =
    let some = has_report font waivers in (
      are_report font waivers some.0 faults few few_waivers some.1,
      λ report.
          (rest_in_font font waivers faults 0 first_mark faults few few_waivers report (so_far_start faults)).1 refl,
    )

pub the_rest : AreTheRest
the_rest font waivers faults k fault rest few few_waivers report is = rest_in_font font waivers faults (k + 1) (mark_of fault) rest few few_waivers report
    (so_far_at faults k fault report.rising report.numbered is)

-- ---- marks that count

pub marks_go_on_counting : MarksGoOnCounting
marks_go_on_counting font waivers faults k mark fault few few_waivers report so_far next = (
  (next_in_font font waivers faults k mark fault few few_waivers report so_far next).1,
  one_more_in_font font waivers faults k mark fault few
      few_waivers report so_far next,
)

pub are_behind_the_count : AreBehindTheCount
are_behind_the_count font waivers faults k mark rest few few_waivers report so_far = rest_in_font font waivers faults k mark rest few few_waivers report so_far

pub given_are_the_front : GivenAreTheFront
given_are_the_front font waivers faults k mark [] last few few_waivers report so_far led =
    (refl, subst (IsSoFar faults (k + 0)) led (subst (λ n. IsSoFar faults n mark) (omega arith) so_far))
given_are_the_front font waivers faults k mark (fault ∷ given) last few few_waivers report so_far led =
    let one = marks_go_on_counting font waivers faults k mark fault few few_waivers report so_far led.0 in
    let more = given_are_the_front font waivers faults (k + 1) (mark_of fault) given last few few_waivers report one.1 led.1 in (
      ap (λ (fs : List FaultValue). fault ∷ fs) more.0 ∙ ap (λ (fs : List FaultValue). take (suc (length given)) fs) (sym (drop_next faults k fault one.0)),
      subst (λ n. IsSoFar faults n last) (omega arith) more.1,
    )
