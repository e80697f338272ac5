-- The faults of a unit are the report's of it, numbered anew.
use Rattle.std.proofs.Common.{◌≡◌, ℕ, zero, suc, ◌+◌, ◌^◌, ◌<◌, ◌≤◌, Bool, true, inl, inr, List, [], ◌∷◌, drop, length, map, slice_index_or, refl, sym, ap, subst, ◌∙◌, arith, cond, false}
use Rattle.std.specs.List.{Any, filter}
use Rattle.std.proofs.lemmas.Bool.{cases_lt, eq-eqb, eqb-true}
use Rattle.std.proofs.lemmas.List.Elements.{All-filter, filter_passes}
use Rattle.std.proofs.lemmas.List.Kept.{AllPairs-filter}
use Rattle.t1_rules.proofs.Lemmas.Book.{in_book}
use Rattle.t1_report.specs.Checked.{CheckedFont}
use Rattle.t1_report.specs.Faults.{FaultValue}
use Rattle.t1_report.specs.Laws.UnitFaults.{AllOfUnitAreGivenAtLast, AreTheReports, GivenAreTheReports, MarksOfUnitGoOnCounting, NoneOfUnitIsGivenAtFirst, UnitsHaveFaults, is_in_unit}
use Rattle.t1_report.specs.Laws.WaivedFaults.{bare}
use Rattle.t1_report.specs.Reports.{AreNumbered, IsBefore, IsReport, IsReportOf, IsTold, IsViolationOf, Place, StandsAt, path_at, place_of}
use Rattle.t1_report.specs.UnitFaults.{IsToldOf, first_mark_of}
use Rattle.t1_report.specs.Waivers.{Waiver}
use Rattle.t1_report.specs.Walks.{IsLater, IsSoFar}
use Rattle.t1_report.proofs.FewFaults.{few_faults}
use Rattle.t1_report.proofs.HasReport.{has_report}
use Rattle.t1_report.proofs.LaterFaults.{rest_is}
use Rattle.t1_report.proofs.Numbered.{numbered_head, numbered_tail}
use Rattle.t1_report.proofs.SoFar.{next_is, none_left, one_fault_more, so_far_by_places}
use Rattle.t1_report.proofs.WaivedFaults.{any_left}

-- ---- numbered anew

-- Faults with other numbers, from n on.
abbrev renumbered : ℕ → List FaultValue → List FaultValue
renumbered n [] = []
renumbered n (fault ∷ rest) = record fault { number = n } ∷ renumbered (n + 1) rest

length_kept : (n : ℕ) (faults : List FaultValue) → length (renumbered n faults) ≡ length faults
length_kept n [] = refl
length_kept n (fault ∷ rest) = ap (λ (m : ℕ). suc m) (length_kept (n + 1) rest)

numbered_anew : (n : ℕ) (faults : List FaultValue) → AreNumbered n (renumbered n faults)
numbered_anew n [] = refl
numbered_anew n (fault ∷ rest) = ap (λ (ms : List ℕ). n ∷ ms) (numbered_anew (n + 1) rest)

bare_kept : (n : ℕ) (faults : List FaultValue) → map bare (renumbered n faults) ≡ map bare faults
bare_kept n [] = refl
bare_kept n (fault ∷ rest) = ap (λ (fs : List FaultValue). bare fault ∷ fs) (bare_kept (n + 1) rest)

-- The fault of an index is the same but for its number.
bare_there : (n : ℕ) (faults : List FaultValue) (i : ℕ) (d : FaultValue) → bare (slice_index_or (renumbered n faults) i d) ≡ bare (slice_index_or faults i d)
bare_there n [] i d = refl
bare_there n (fault ∷ rest) zero d = refl
bare_there n (fault ∷ rest) (suc i) d = bare_there (n + 1) rest i d

stands_behind : (p : Place) (y : FaultValue) (ys : List FaultValue) → Any (StandsAt p) ys → Any (StandsAt p) (y ∷ ys)
stands_behind p y ys (k, x, less, at, is) = (suc k, x, omega (arith, less), at, is)

stands_kept : (p : Place) (n : ℕ) (faults : List FaultValue) → Any (StandsAt p) faults → Any (StandsAt p) (renumbered n faults)
stands_kept p n [] (k, x, less, at, is) = absurd (omega (arith, less))
stands_kept p n (fault ∷ rest) (zero, x, less, at, is) = (0, record fault { number = n }, omega arith, refl, subst (StandsAt p) (sym at) is)
stands_kept p n (fault ∷ rest) (suc k, x, less, at, is) =
    stands_behind p (record fault { number = n }) (renumbered (n + 1) rest) (stands_kept p (n + 1) rest (k, x, omega (arith, less), at, is))

-- Numbers from n on, and the rest the same: that is one list.
with_number : ℕ → FaultValue → FaultValue
with_number n fault = record fault { number = n }

renumbered_is : (n : ℕ) (xs ys : List FaultValue) → AreNumbered n xs → map bare xs ≡ map bare ys → xs ≡ renumbered n ys
unfolding with_number
renumbered_is n [] [] numbered same = refl
renumbered_is n [] (y ∷ ys) numbered same = let count = ap (λ (l : List FaultValue). length l) same in absurd (omega (arith, count))
renumbered_is n (x ∷ xs) [] numbered same = let count = ap (λ (l : List FaultValue). length l) same in absurd (omega (arith, count))
renumbered_is n (x ∷ xs) (y ∷ ys) numbered same =
    let head : bare x ≡ bare y = ap (λ (l : List FaultValue). slice_index_or l 0 (bare x)) same in
    let first : x ≡ with_number n y = ap (with_number x.number) head ∙ ap (λ (m : ℕ). with_number m y) (numbered_head n x xs numbered) in
    let rest : xs ≡ renumbered (n + 1) ys = renumbered_is (n + 1) xs ys (numbered_tail n x xs numbered)
    (ap (λ (l : List FaultValue). drop 1 l) same) in
    ap (λ (f : FaultValue). f ∷ xs) first ∙ ap (λ (fs : List FaultValue). with_number n y ∷ fs) rest

-- ---- the faults of a unit

few_kept : (test : FaultValue → Bool) (faults : List FaultValue) → length (filter test faults) ≤ length faults
few_kept test [] = omega arith
few_kept test (fault ∷ rest) = by_test (test fault) (few_kept test rest)
  where
    by_test : (b : Bool) → length (filter test rest) ≤ length rest → length (cond b (fault ∷ filter test rest) (filter test rest)) ≤ suc (length rest)
    by_test true few = omega (arith, few)
    by_test false few = omega (arith, few)

-- The first mark of a unit is before each place of it.
later_in_unit : (unit : ℕ) (p : Place) → p.unit ≡ unit → IsLater (first_mark_of unit) p
later_in_unit unit p at =
    elim (cases_lt 0 p.step) [
      | inl more ↦ inr (sym at, inl more)
      | inr none ↦ inr (sym at, inr (omega (arith, none), (in_book p.rule).0))
    ]

module _ (font : CheckedFont) (waivers : List Waiver) (unit : ℕ) where
  abbrev of_unit : FaultValue → Bool
  of_unit fault = is_in_unit unit (place_of fault)

  abbrev IsReportOfUnit : List FaultValue → Type 0
  IsReportOfUnit given = IsReportOf (IsToldOf font waivers unit) (path_at font) given

  -- A fault of the unit, whatever its number.
  violation_kept : (one other : FaultValue) → bare one ≡ bare other → IsViolationOf (IsTold font waivers) (path_at font) other → of_unit other ≡ true
      → IsViolationOf (IsToldOf font waivers unit) (path_at font) one
  violation_kept one other same is passes =
      let there : IsViolationOf (IsToldOf font waivers unit) (path_at font) (bare other) =
      record { violated = (eqb-true other.unit unit passes, is.violated); path = is.path } in
      let here : IsViolationOf (IsToldOf font waivers unit) (path_at font) (bare one) =
      subst (IsViolationOf (IsToldOf font waivers unit) (path_at font)) (sym same) there in
      record { violated = here.violated; path = here.path }

  -- What a report has of a unit, numbered anew, is the report of the unit.
  pub report_of_unit : (faults : List FaultValue) → IsReport font waivers faults → IsReportOfUnit (renumbered 1 (filter of_unit faults))
  report_of_unit faults report = record {
    rising = λ i j d less within.
        subst (λ (f : FaultValue). IsBefore (place_of f) (place_of (slice_index_or given j d))) (sym (bare_there 1 kept i d))
        (subst (λ (f : FaultValue). IsBefore (place_of (slice_index_or kept i d)) (place_of f)) (sym (bare_there 1 kept j d))
        (AllPairs-filter (λ a b. IsBefore (place_of a) (place_of b)) of_unit faults report.rising i j d less (omega (arith, within, length_kept 1 kept))));
    violations = λ k d less.
        let within : k < length kept = omega (arith, less, length_kept 1 kept) in
        violation_kept (slice_index_or given k d) (slice_index_or kept k d) (bare_there 1 kept k d)
        (All-filter of_unit (IsViolationOf (IsTold font waivers) (path_at font)) faults report.violations k d within)
        (filter_passes of_unit faults k d within);
    complete = λ p told. stands_kept p 1 kept (any_left (StandsAt p) of_unit faults (λ y stands. ap (is_in_unit unit) stands ∙ eq-eqb p.unit unit told.0)
        (report.complete p told.1));
    numbered = numbered_anew 1 kept;
  }
    where
      kept : List FaultValue
      kept = filter of_unit faults

      given : List FaultValue
      given = renumbered 1 kept

  few_given : (faults : List FaultValue) → length faults < 2 ^ 64 → length (renumbered 1 (filter of_unit faults)) < 2 ^ 64
  few_given faults few = omega (arith, few, length_kept 1 (filter of_unit faults), few_kept of_unit faults)

  the_reports : (faults given : List FaultValue) → AreTheReports faults unit given → given ≡ renumbered 1 (filter of_unit faults)
  the_reports faults given are = renumbered_is 1 given (filter of_unit faults) are.numbered are.same

  are_the_reports : (faults : List FaultValue) → AreTheReports faults unit (renumbered 1 (filter of_unit faults))
  are_the_reports faults = record { same = bare_kept 1 (filter of_unit faults); numbered = numbered_anew 1 (filter of_unit faults) }

  -- So is each list of these faults.
  is_report : (faults given : List FaultValue) → IsReport font waivers faults → AreTheReports faults unit given → IsReportOfUnit given
  is_report faults given report are = subst IsReportOfUnit (sym (the_reports faults given are)) (report_of_unit faults report)

  few_of_unit : (faults given : List FaultValue) → length faults < 2 ^ 64 → AreTheReports faults unit given → length given < 2 ^ 64
  few_of_unit faults given few are = subst (λ (fs : List FaultValue). length fs < 2 ^ 64) (sym (the_reports faults given are)) (few_given faults few)

  so_far_in_unit : (given : List FaultValue) → IsReportOfUnit given → IsSoFar given 0 (first_mark_of unit)
  so_far_in_unit given report = so_far_by_places given 0 (first_mark_of unit) (omega arith) (λ i d less later. omega arith)
      (λ i d past less. later_in_unit unit (place_of (slice_index_or given i d)) (report.violations i d less).violated.0) refl

-- ---- the laws

pub given_are_the_reports : GivenAreTheReports
given_are_the_reports font waivers unit faults given few few_waivers report =
    let count = few_faults font waivers faults few few_waivers report in
    let own = report_of_unit font waivers unit faults report in
    let rest = rest_is (IsToldOf font waivers unit) (path_at font) (renumbered 1 (filter (of_unit font waivers unit) faults)) 0 (first_mark_of unit) given
    (few_given font waivers unit faults count) own (so_far_in_unit font waivers unit (renumbered 1 (filter (of_unit font waivers unit) faults)) own) in (
      λ later. subst (AreTheReports faults unit) (sym (rest.0 later)) (are_the_reports font waivers unit faults),
      λ are. rest.1 (the_reports font waivers unit faults given are),
    )

pub units_have_faults : UnitsHaveFaults
units_have_faults font waivers unit few few_waivers =
    let (faults, report) = has_report font waivers in
    let given = renumbered 1 (filter (of_unit font waivers unit) faults) in
    (given, (given_are_the_reports font waivers unit faults given few few_waivers report).1 (are_the_reports font waivers unit faults))

pub none_of_unit_is_given_at_first : NoneOfUnitIsGivenAtFirst
none_of_unit_is_given_at_first font waivers unit faults given report are =
    so_far_in_unit font waivers unit given (is_report font waivers unit faults given report are)

pub marks_of_unit_go_on_counting : MarksOfUnitGoOnCounting
marks_of_unit_go_on_counting font waivers unit faults given k mark fault few few_waivers report are so_far next =
    let count = few_of_unit font waivers unit faults given (few_faults font waivers faults few few_waivers report) are in
    let own = is_report font waivers unit faults given report are in (
      (next_is (IsToldOf font waivers unit) (path_at font) given k mark fault count own so_far next).1,
      one_fault_more (IsToldOf font waivers unit) (path_at font) given k mark fault count own so_far next,
    )

pub all_of_unit_are_given_at_last : AllOfUnitAreGivenAtLast
all_of_unit_are_given_at_last font waivers unit faults given k mark report are so_far none =
    none_left (IsToldOf font waivers unit) (path_at font) given k mark (is_report font waivers unit faults given report are) so_far none
