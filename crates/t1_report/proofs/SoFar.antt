-- How far a report was returned: the next fault, the mark after it, and the end.
-- Places of a report rise, so the first k faults are those up to its k-th place; the next one is the least place after these.
use Rattle.t1_io.specs.Devices.{one_more}
use Rattle.std.proofs.Common.{◌≡◌, ℕ, ◌+◌, ◌-◌, ◌^◌, length-take, length-drop, ◌<◌, ◌≤◌, ◌⊎◌, inl, inr, List, length, slice_get, slice_index_or, Some, refl, sym, ap, subst, ◌∙◌, arith}
use Rattle.std.proofs.lemmas.Bool.{cases_lt, cases_order}
use Rattle.std.proofs.lemmas.List.{get_or-drop, get_or-take}
use Rattle.std.proofs.lemmas.Option.{get_or_from_slice_get, slice_get_cases, slice_get_read, slice_get_within}
use Rattle.std.proofs.Math.Nat.{min-eq_left}
use Rattle.std.specs.List.{Any}
use Rattle.t1_report.specs.Checked.{CheckedFont}
use Rattle.t1_rules.specs.Book.{number_of}
use Rattle.t1_rules.proofs.Lemmas.Book.{in_book}
use Rattle.t1_report.specs.declared.marks.Mark.{Mark}
use Rattle.t1_report.specs.Faults.{FaultValue}
use Rattle.t1_report.specs.Reports.{AreNumbered, Comes, IsBefore, IsReport, IsReportOf, IsRising, IsViolationOf, Place, StandsAt, path_at, place_of, IsTold, spot}
use Rattle.t1_report.specs.Walks.{HasNoneLater, HasNoneLaterOf, IsLater, IsNext, IsNextOf, IsSoFar, first_mark, mark_of}
use Rattle.t1_report.proofs.FewFaults.{few_faults}
use Rattle.t1_report.proofs.Numbered.{number_there}
use Rattle.t1_report.proofs.OneReport.{both, itself, same_fault}
use Rattle.t1_report.specs.Waivers.{Waiver}

-- ---- the first mark

later_than_none : (unit step rule : ℕ) → 0 < rule → Comes (spot 0 0 0) (spot unit step rule)
later_than_none unit step rule some =
    elim (cases_lt 0 unit) [
      | inl more ↦ inl more
      | inr font ↦ elim (cases_lt 0 step) [
        | inl more ↦ inr (omega arith, inl more)
        | inr first ↦ inr (omega arith, inr (omega arith, some))
      ]
    ]

all_later : (p : Place) → IsLater first_mark p
all_later p = later_than_none p.unit p.step (number_of p.rule) (in_book p.rule).0

-- So far, place by place.
pub so_far_by_places : (faults : List FaultValue) (k : ℕ) (mark : Mark) → k ≤ length faults
    → ((i : ℕ) (d : FaultValue) → i < k → IsLater mark (place_of (slice_index_or faults i d)) → ⊥)
    → ((i : ℕ) (d : FaultValue) → k ≤ i → i < length faults → IsLater mark (place_of (slice_index_or faults i d)))
    → mark.number ≡ k → IsSoFar faults k mark
so_far_by_places faults k mark given passed coming number = record {
  given = given;
  passed = λ i d less later.
      let near : i < k = omega (arith, less, length-take k faults) in
      passed i d near (subst (λ (f : FaultValue). IsLater mark (place_of f)) (get_or-take k faults i d near) later);
  coming = λ i d less.
      subst (λ (f : FaultValue). IsLater mark (place_of f)) (sym (get_or-drop k faults i d))
      (coming (k + i) d (omega arith) (omega (arith, less, length-drop k faults)));
  number = number;
}

passed_at : (faults : List FaultValue) (k : ℕ) (mark : Mark) → IsSoFar faults k mark → (i : ℕ) (d : FaultValue) → i < k
    → IsLater mark (place_of (slice_index_or faults i d)) → ⊥
passed_at faults k mark so_far i d less later =
    let given = so_far.given in
    so_far.passed i d (omega (arith, less, given, length-take k faults))
    (subst (λ (f : FaultValue). IsLater mark (place_of f)) (sym (get_or-take k faults i d less)) later)

coming_at : (faults : List FaultValue) (k : ℕ) (mark : Mark) → IsSoFar faults k mark → (i : ℕ) (d : FaultValue) → k ≤ i → i < length faults
    → IsLater mark (place_of (slice_index_or faults i d))
coming_at faults k mark so_far i d past less =
    let at : k + (i - k) ≡ i = omega (arith, past) in
    subst (λ (f : FaultValue). IsLater mark (place_of f)) (get_or-drop k faults (i - k) d ∙ ap (λ (j : ℕ). slice_index_or faults j d) at)
    (so_far.coming (i - k) d (omega (arith, past, less, length-drop k faults)))

pub so_far_start : (faults : List FaultValue) → IsSoFar faults 0 first_mark
so_far_start faults = so_far_by_places faults 0 first_mark (omega arith) (λ i d less later. omega arith)
    (λ i d past less. all_later (place_of (slice_index_or faults i d))) refl

-- ---- the mark of a fault

behind_mark : (faults : List FaultValue) (k : ℕ) (fault : FaultValue) → IsRising faults → slice_get faults k ≡ Some fault
    → (i : ℕ) (d : FaultValue) → i < k + 1 → IsLater (mark_of fault) (place_of (slice_index_or faults i d)) → ⊥
behind_mark faults k fault rising is i d less later =
    let at : slice_index_or faults k d ≡ fault = get_or_from_slice_get faults k fault d is in
    let within = slice_get_within faults k fault is in
    elim (cases_order i k) [
      | inl same ↦ itself (place_of fault) (subst (λ (f : FaultValue). IsBefore (place_of fault) (place_of f)) (ap (λ (j : ℕ). slice_index_or faults j d) same
          ∙ at) later)
      | inr (inl before) ↦ both (place_of (slice_index_or faults i d)) (place_of fault)
          (subst (λ (f : FaultValue). IsBefore (place_of (slice_index_or faults i d)) (place_of f)) at (rising i k d before within)) later
      | inr (inr more) ↦ omega arith
    ]

before_mark : (faults : List FaultValue) (k : ℕ) (fault : FaultValue) → IsRising faults → slice_get faults k ≡ Some fault
    → (i : ℕ) (d : FaultValue) → k + 1 ≤ i → i < length faults → IsLater (mark_of fault) (place_of (slice_index_or faults i d))
before_mark faults k fault rising is i d past less =
    let at : slice_index_or faults k d ≡ fault = get_or_from_slice_get faults k fault d is in
    subst (λ (f : FaultValue). IsBefore (place_of f) (place_of (slice_index_or faults i d))) at (rising k i d (omega arith) less)

-- the fault of an index is numbered by it
number_at : (faults : List FaultValue) (k : ℕ) (fault : FaultValue) → AreNumbered 1 faults → slice_get faults k ≡ Some fault → fault.number ≡ k + 1
number_at faults k fault numbered is =
    ap (λ (f : FaultValue). f.number) (sym (get_or_from_slice_get faults k fault fault is)) ∙ number_there 1 faults numbered k fault
    (slice_get_within faults k fault is)

-- the fault of index k is the last of the first k + 1
pub so_far_at : (faults : List FaultValue) (k : ℕ) (fault : FaultValue) → IsRising faults → AreNumbered 1 faults → slice_get faults k ≡ Some fault
    → IsSoFar faults (k + 1) (mark_of fault)
so_far_at faults k fault rising numbered is =
    so_far_by_places faults (k + 1) (mark_of fault) (let within = slice_get_within faults k fault is in omega (arith, within))
    (behind_mark faults k fault rising is) (before_mark faults k fault rising is) (number_at faults k fault numbered is)

-- ---- the next fault

number_next : (number mark k count : ℕ) → number ≡ one_more mark → mark ≡ k → k < count → count < 2 ^ 64 → number ≡ k + 1
number_next number mark k count is at less few = is ∙ ap one_more at ∙ min-eq_left (omega arith)

-- what comes after the mark isn't among those returned
not_given : (faults : List FaultValue) (k : ℕ) (mark : Mark) → IsSoFar faults k mark → (j : ℕ) (x : FaultValue) → slice_index_or faults j x ≡ x
    → IsLater mark (place_of x) → k ≤ j
not_given faults k mark so_far j x at later =
    elim (cases_lt j k) [
      | inl less ↦ absurd (passed_at faults k mark so_far j x less (subst (λ (f : FaultValue). IsLater mark (place_of f)) (sym at) later))
      | inr past ↦ past
    ]

module _ (Violated : Place → Type 0) (path_of : Place → List ℕ) where
  -- the next fault is no further on than the first that is to come
  not_further : (faults : List FaultValue) (k : ℕ) (mark : Mark) (fault : FaultValue) → IsReportOf Violated path_of faults → IsSoFar faults k mark
      → IsNextOf Violated path_of mark fault → (j : ℕ) (x : FaultValue) → j < length faults → slice_index_or faults j x ≡ x → place_of x ≡ place_of fault
      → k < j → ⊥
  not_further faults k mark fault report so_far next j x within at same less =
      let first : FaultValue = slice_index_or faults k x in
      let before : IsBefore (place_of first) (place_of fault) =
      subst (λ (p : Place). IsBefore (place_of first) p) same
      (subst (λ (f : FaultValue). IsBefore (place_of first) (place_of f)) at (report.rising k j x less within)) in
      elim (next.first (place_of first) (report.violations k x (omega arith)).violated (coming_at faults k mark so_far k x (omega arith) (omega arith))) [
        | inl stands ↦ itself (place_of fault) (subst (λ (p : Place). IsBefore p (place_of fault)) (sym stands) before)
        | inr earlier ↦ both (place_of fault) (place_of first) earlier before
      ]

  -- a fault of the report that is where the next one does is that fault
  same_next : (faults : List FaultValue) (k : ℕ) (mark : Mark) (fault : FaultValue) → IsReportOf Violated path_of faults → IsSoFar faults k mark
      → IsNextOf Violated path_of mark fault → length faults < 2 ^ 64 → (x : FaultValue) → k < length faults → slice_index_or faults k x ≡ x
      → place_of x ≡ place_of fault → x ≡ fault
  same_next faults k mark fault report so_far next few x within at same =
      let is : IsViolationOf Violated path_of x = subst (IsViolationOf Violated path_of) at (report.violations k x within) in
      let number : x.number ≡ k + 1 = ap (λ (f : FaultValue). f.number) (sym at) ∙ number_there 1 faults report.numbered k x within in
      same_fault path_of x fault (number ∙ sym (number_next fault.number mark.number k (length faults) next.number so_far.number within few))
      same is.path next.violation.path

  found_next : (faults : List FaultValue) (k : ℕ) (mark : Mark) (fault : FaultValue) → IsReportOf Violated path_of faults → IsSoFar faults k mark
      → IsNextOf Violated path_of mark fault → length faults < 2 ^ 64 → Any (StandsAt (place_of fault)) faults
      → (k < length faults) × (slice_get faults k ≡ Some fault)
  found_next faults k mark fault report so_far next few (j, x, within, at, same) =
      let past : k ≤ j = not_given faults k mark so_far j x at (subst (IsLater mark) (sym same) next.later) in
      elim (cases_lt k j) [
        | inl less ↦ absurd (not_further faults k mark fault report so_far next j x within at same less)
        | inr here ↦
            let index : j ≡ k = omega arith in
            let less : k < length faults = omega arith in
            let place : slice_index_or faults k x ≡ x = ap (λ (i : ℕ). slice_index_or faults i x) (sym index) ∙ at in
            let is : x ≡ fault = same_next faults k mark fault report so_far next few x less place same in
            (less, slice_get_read faults (length faults) k x refl less (sym place) ∙ ap (λ (f : FaultValue). Some f) is)
      ]

  -- the next fault is the one after the first k
  pub next_is : (faults : List FaultValue) (k : ℕ) (mark : Mark) (fault : FaultValue) → length faults < 2 ^ 64 → IsReportOf Violated path_of faults
      → IsSoFar faults k mark → IsNextOf Violated path_of mark fault → (k < length faults) × (slice_get faults k ≡ Some fault)
  next_is faults k mark fault few report so_far next =
      found_next faults k mark fault report so_far next few (report.complete (place_of fault) next.violation.violated)

  pub one_fault_more : (faults : List FaultValue) (k : ℕ) (mark : Mark) (fault : FaultValue) → length faults < 2 ^ 64 → IsReportOf Violated path_of faults
      → IsSoFar faults k mark → IsNextOf Violated path_of mark fault → IsSoFar faults (k + 1) (mark_of fault)
  one_fault_more faults k mark fault few report so_far next =
      so_far_at faults k fault report.rising report.numbered (next_is faults k mark fault few report so_far next).1

  -- the fault after the first k is the next one
  next_at : (faults : List FaultValue) (k : ℕ) (mark : Mark) (fault : FaultValue) → IsReportOf Violated path_of faults → IsSoFar faults k mark
      → slice_get faults k ≡ Some fault → (p : Place) → IsLater mark p → Any (StandsAt p) faults → (place_of fault ≡ p) ⊎ IsBefore (place_of fault) p
  next_at faults k mark fault report so_far is p later (j, x, within, at, same) =
      let past : k ≤ j = not_given faults k mark so_far j x at (subst (IsLater mark) (sym same) later) in
      let here : slice_index_or faults k x ≡ fault = get_or_from_slice_get faults k fault x is in
      elim (cases_lt k j) [
        | inl less ↦ inr (subst (IsBefore (place_of fault)) same
            (subst (λ (f : FaultValue). IsBefore (place_of fault) (place_of f)) at
            (subst (λ (f : FaultValue). IsBefore (place_of f) (place_of (slice_index_or faults j x))) here (report.rising k j x less within))))
        | inr first ↦
            let index : k ≡ j = omega arith in
            inl (ap (λ (f : FaultValue). place_of f) (sym here ∙ ap (λ (i : ℕ). slice_index_or faults i x) index ∙ at) ∙ same)
      ]

  pub is_next : (faults : List FaultValue) (k : ℕ) (mark : Mark) (fault : FaultValue) → length faults < 2 ^ 64 → IsReportOf Violated path_of faults
      → IsSoFar faults k mark → slice_get faults k ≡ Some fault → IsNextOf Violated path_of mark fault
  is_next faults k mark fault few report so_far is =
      let here : slice_index_or faults k fault ≡ fault = get_or_from_slice_get faults k fault fault is in
      let within = slice_get_within faults k fault is in
      record {
        violation = subst (IsViolationOf Violated path_of) here (report.violations k fault within);
        later = subst (λ (f : FaultValue). IsLater mark (place_of f)) here (coming_at faults k mark so_far k fault (omega arith) within);
        first = λ p violated later. next_at faults k mark fault report so_far is p later (report.complete p violated);
        number = number_at faults k fault report.numbered is
            ∙ sym (number_next (one_more mark.number) mark.number k (length faults) refl so_far.number within few);
      }

  none_later : (faults : List FaultValue) (k : ℕ) (mark : Mark) → IsSoFar faults k mark → length faults ≤ k → (p : Place) → IsLater mark p
      → Any (StandsAt p) faults → ⊥
  none_later faults k mark so_far all p later (j, x, within, at, same) =
      let past : k ≤ j = not_given faults k mark so_far j x at (subst (IsLater mark) (sym same) later) in
      omega (arith, past, all, within)

  -- once all were returned no violation comes after the mark
  pub has_none_later : (faults : List FaultValue) (k : ℕ) (mark : Mark) → IsReportOf Violated path_of faults → IsSoFar faults k mark
      → length faults ≤ k → HasNoneLaterOf Violated mark
  has_none_later faults k mark report so_far all p violated later = none_later faults k mark so_far all p later (report.complete p violated)

  -- where no violation comes after the mark all were returned
  pub none_left : (faults : List FaultValue) (k : ℕ) (mark : Mark) → IsReportOf Violated path_of faults → IsSoFar faults k mark
      → HasNoneLaterOf Violated mark → k ≡ length faults
  none_left faults k mark report so_far none =
      elim (slice_get_cases faults k).1 [
        | inl (x, less, is, at) ↦ absurd (none (place_of x)
            (subst (λ (f : FaultValue). Violated (place_of f)) at (report.violations k x less).violated)
            (subst (λ (f : FaultValue). IsLater mark (place_of f)) at (coming_at faults k mark so_far k x (omega arith) less)))
        | inr (past, is) ↦ let within = so_far.given in omega (arith, within)
      ]

-- ---- in a font

pub next_in_font : (font : CheckedFont) (waivers : List Waiver) (faults : List FaultValue) (k : ℕ) (mark : Mark) (fault : FaultValue)
    → length font.value.glyphs ≤ 65535 → length waivers ≤ 1048576 → IsReport font waivers faults
    → IsSoFar faults k mark → IsNext font waivers mark fault → (k < length faults) × (slice_get faults k ≡ Some fault)
next_in_font font waivers faults k mark fault few few_waivers report = next_is (IsTold font waivers) (path_at font) faults k mark fault
    (few_faults font waivers faults few few_waivers report) report

pub one_more_in_font : (font : CheckedFont) (waivers : List Waiver) (faults : List FaultValue) (k : ℕ) (mark : Mark) (fault : FaultValue)
    → length font.value.glyphs ≤ 65535 → length waivers ≤ 1048576 → IsReport font waivers faults
    → IsSoFar faults k mark → IsNext font waivers mark fault → IsSoFar faults (k + 1) (mark_of fault)
one_more_in_font font waivers faults k mark fault few few_waivers report = one_fault_more (IsTold font waivers) (path_at font) faults k mark fault
    (few_faults font waivers faults few few_waivers report) report

pub none_left_in_font : (font : CheckedFont) (waivers : List Waiver) (faults : List FaultValue) (k : ℕ) (mark : Mark) → IsReport font waivers faults
    → IsSoFar faults k mark
    → HasNoneLater font waivers mark → k ≡ length faults
none_left_in_font font waivers = none_left (IsTold font waivers) (path_at font)
