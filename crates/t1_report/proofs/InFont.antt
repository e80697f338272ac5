-- The faults of a report are in the font.
use Rattle.std.proofs.Common.{◌≡◌, ◌≤◌, IfSome, MatchOption, Option, None, Some, ℕ, ◌*◌, ◌/◌, ◌∙◌, zero, suc, inl, inr, true, true≢false, List, [], ◌∷◌, map, length, slice_index_or, refl, sym, ap, subst, arith, ◌==◌, slice_get}
use Rattle.std.proofs.lemmas.Bool.{cases_lt, eqb-true}
use Rattle.std.proofs.lemmas.List.{length-map}
use Rattle.std.specs.List.{All}
use Rattle.t1_report.specs.Checked.{CheckedFont}
use Rattle.t1_rules.specs.Book.{number_of}
use Rattle.t1_report.specs.declared.faults.Fault.{Fault}
use Rattle.t1_report.specs.declared.marks.Mark.{Mark}
use Rattle.t1_report.specs.Faults.{FaultValue, fault_value, faults_of}
use Rattle.t1_report.specs.Lines.{IsInFont}
use Rattle.t1_report.specs.Reports.{IsReport, IsViolationOf, path_at, IsTold, is_told, is_unused, tells_unused}
use Rattle.t1_report.proofs.Broken.{past_keys}
use Rattle.t1_report.specs.UnitFaults.{HasNoneLaterInUnit, IsNextInUnit}
use Rattle.t1_report.specs.Waivers.{Waiver}
use Rattle.t1_report.specs.Walks.{HasNoneLater, IsNext}
use Rattle.t1_rules.specs.declared.rule.Rule.{Rule}
use Rattle.t1_rules.specs.declared.rule.Rule.TheVariants.{U01}
use Rattle.t1_rules.proofs.Lemmas.Book.{both, one_rule}
use Rattle.t1_report.proofs.Told.{first_waiver, no_waiver, told_in_font, told_of_waiver, told_within}
use Rattle.t1_rules.specs.Keys.{index_count, key_count}

key_within : (font : CheckedFont) (waivers : List Waiver) (unit step n : ℕ) → unit ≡ 0 → is_told font waivers unit step n ≡ true → step / 65536 ≤ 25
key_within font waivers unit step n first is =
    elim (cases_lt step (index_count * key_count)) [
      | inl less ↦ omega arith
      | inr past ↦ absurd (true≢false (sym is ∙ ap (λ (u : ℕ). is_told font waivers u step n) first ∙ told_in_font font waivers step n
          ∙ past_keys font step n past))
    ]

-- A waiver that isn't used has a step of the waivers, and its own rule.
waiver_told : (font : CheckedFont) (waivers : List Waiver) (step : ℕ) (rule : Rule) → tells_unused font waivers step (number_of rule) ≡ true → (rule ≡ U01)
    × ((1 ≤ step) × (step ≤ length waivers))
waiver_told font waivers step rule is =
    (by_rule step is, (some_step, few_steps))
  where
    by_rule : (s : ℕ) → tells_unused font waivers s (number_of rule) ≡ true → rule ≡ U01
    by_rule zero told = absurd (true≢false (sym told))
    by_rule (suc i) told = sym (one_rule U01 rule
        (eqb-true (number_of U01) (number_of rule) (both (number_of U01 == number_of rule) (is_unused font (slice_get waivers i)) told).0))

    some_step : 1 ≤ step
    some_step = elim (cases_lt step 1) [
      | inl none ↦ absurd (true≢false (sym is ∙ first_waiver font waivers step (number_of rule) none))
      | inr some ↦ omega (arith, some)
    ]

    few_steps : step ≤ length waivers
    few_steps = elim (cases_lt (length waivers) step) [
      | inl past ↦ absurd (true≢false (sym is ∙ no_waiver font waivers step (number_of rule) past))
      | inr within ↦ within
    ]

-- A violation is in its font.
pub in_font : (font : CheckedFont) (waivers : List Waiver) (fault : FaultValue) → IsViolationOf (IsTold font waivers) (path_at font) fault
    → IsInFont font.value waivers fault
in_font font waivers fault is = record {
  unit = told_within font waivers fault.unit fault.step (number_of fault.rule) is.violated;
  key = λ first. omega (arith, key_within font waivers fault.unit fault.step (number_of fault.rule) first is.violated);
  waiver = λ behind. waiver_told font waivers fault.step fault.rule (sym (told_of_waiver font waivers fault.unit fault.step (number_of fault.rule) behind)
      ∙ is.violated);
}

-- So does the fault that comes next after a mark.
pub next_stands_in_font : (font : CheckedFont) (waivers : List Waiver) (mark : Mark) (next : Option Fault)
    → MatchOption next (HasNoneLater font waivers mark) (λ fault. IsNext font waivers mark (fault_value fault))
    → IfSome next (λ fault. IsInFont font.value waivers (fault_value fault))
next_stands_in_font font waivers mark None none = tt
next_stands_in_font font waivers mark (Some fault) is = in_font font waivers (fault_value fault) is.violation

-- And the next one of a unit.
pub next_of_unit_stands_in_font : (font : CheckedFont) (waivers : List Waiver) (unit : ℕ) (mark : Mark) (next : Option Fault)
    → MatchOption next (HasNoneLaterInUnit font waivers unit mark) (λ fault. IsNextInUnit font waivers unit mark (fault_value fault))
    → IfSome next (λ fault. IsInFont font.value waivers (fault_value fault))
next_of_unit_stands_in_font font waivers unit mark None none = tt
next_of_unit_stands_in_font font waivers unit mark (Some fault) is =
    in_font font waivers (fault_value fault) (record { violated = is.violation.violated.1; path = is.violation.path })

value_at : (xs : List Fault) (k : ℕ) (d : Fault) → slice_index_or (map fault_value xs) k (fault_value d) ≡ fault_value (slice_index_or xs k d)
value_at [] k d = refl
value_at (x ∷ xs) zero d = refl
value_at (x ∷ xs) (suc k) d = value_at xs k d

pub all_in_font : (font : CheckedFont) (waivers : List Waiver) (faults : List Fault) → IsReport font waivers (faults_of faults)
    → All (λ fault. IsInFont font.value waivers (fault_value fault)) faults
all_in_font font waivers faults report k d lt =
    let within = length-map faults fault_value in
    in_font font waivers (fault_value (slice_index_or faults k d))
    (subst (IsViolationOf (IsTold font waivers) (path_at font)) (value_at faults k d) (report.violations k (fault_value d) (omega (arith, within))))
