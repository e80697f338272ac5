-- A prefix of a report within a unit: from rule to rule of a step, from step to step, and on to the next unit.
use Rattle.std.proofs.Common.{◌≡◌, ℕ, ◌+◌, ◌<◌, ◌≤◌, inl, inr, Bool, true, false, true≢false, List, refl, sym, ap, ◌∙◌, arith}
use Rattle.std.proofs.lemmas.Bool.{cases_lt}
use Rattle.t1_rules.specs.declared.rule.Rule.{Rule}
use Rattle.t1_rules.specs.Book.{last_number, number_of}
use Rattle.t1_report.specs.Faults.{FaultValue}
use Rattle.t1_report.specs.Reports.{Comes, IsReportOf, Place, spot}
use Rattle.t1_report.specs.Private.Fronts.{IsFrontOf}
use Rattle.t1_report.proofs.Fronts.{comes_on, front_ends, front_on}
use Rattle.t1_rules.proofs.Lemmas.Book.{in_book}

-- ---- the order of places

-- before a greater number of a rule
comes_up : (u s r unit step a b : ℕ) → a ≤ b → Comes (spot u s r) (spot unit step a) → Comes (spot u s r) (spot unit step b)
comes_up u s r unit step a b more (inl c) = inl c
comes_up u s r unit step a b more (inr (c, inl d)) = inr (c, inl d)
comes_up u s r unit step a b more (inr (c, inr (d, e))) = inr (c, inr (d, omega arith))

-- before a number of a rule that is less, unless it is between both
comes_back : (u s r unit step a b : ℕ) → (u ≡ unit → s ≡ step → a ≤ r → r < b → ⊥) → Comes (spot u s r) (spot unit step b)
    → Comes (spot u s r) (spot unit step a)
comes_back u s r unit step a b none (inl c) = inl c
comes_back u s r unit step a b none (inr (c, inl d)) = inr (c, inl d)
comes_back u s r unit step a b none (inr (c, inr (d, e))) =
    elim (cases_lt r a) [
      | inl less ↦ inr (c, inr (d, less))
      | inr past ↦ absurd (none c d past e)
    ]

-- before the next step there are no more rules than the book has
comes_last : (u s r unit step : ℕ) → r < last_number + 1 → Comes (spot u s r) (spot unit (step + 1) 0) → Comes (spot u s r) (spot unit step (last_number + 1))
comes_last u s r unit step few (inl c) = inl c
comes_last u s r unit step few (inr (c, inl d)) =
    elim (cases_lt s step) [
      | inl less ↦ inr (c, inl less)
      | inr here ↦ inr (c, inr (omega arith, few))
    ]
comes_last u s r unit step few (inr (c, inr (d, e))) = absurd (omega arith)

-- before the next unit, unless it is after the step
comes_within : (u s r unit step : ℕ) → (u ≡ unit → step ≤ s → ⊥) → Comes (spot u s r) (spot (unit + 1) 0 0) → Comes (spot u s r) (spot unit step 0)
comes_within u s r unit step none (inl c) =
    elim (cases_lt u unit) [
      | inl less ↦ inl less
      | inr here ↦ elim (cases_lt s step) [
        | inl less ↦ inr (omega arith, inl less)
        | inr past ↦ absurd (none (omega arith) past)
      ]
    ]
comes_within u s r unit step none (inr (c, inl d)) = absurd (omega arith)
comes_within u s r unit step none (inr (c, inr (d, e))) = absurd (omega arith)

-- ---- prefixes

-- Over any violations that a Bool decides by unit, step and the number of the rule.
module _ (broken : ℕ → ℕ → ℕ → Bool) (path_of : Place → List ℕ) where
  abbrev IsBroken : Place → Type 0
  IsBroken p = broken p.unit p.step (number_of p.rule) ≡ true

  abbrev Front : ℕ → ℕ → ℕ → List FaultValue → Type 0
  Front unit step rule faults = IsFrontOf IsBroken path_of unit step rule faults

  -- what is broken at a place isn't unbroken by another name of the place
  never : (u s unit step n : ℕ) → u ≡ unit → s ≡ step → broken u s n ≡ true → broken unit step n ≡ false → ⊥
  never u s unit step n at place is none =
      let no : true ≡ false = sym is ∙ ap (λ (v : ℕ). broken v s n) at ∙ ap (λ (t : ℕ). broken unit t n) place ∙ none in
      absurd (true≢false no)

  -- rule numbers begin at 1
  pub first_rule : (unit step : ℕ) (faults : List FaultValue) → Front unit step 0 faults → Front unit step 1 faults
  first_rule unit step faults front =
      front_on IsBroken path_of unit step 0 unit step 1 faults front (λ u s r. comes_up u s r unit step 0 1 (omega arith))
      (λ p is before. comes_back p.unit p.step (number_of p.rule) unit step 0 1
      (λ at place more less. let some = (in_book p.rule).0 in absurd (omega arith)) before)

  -- over a rule that isn't broken
  pub rule_passed : (unit step : ℕ) (rule : Rule) (faults : List FaultValue) → Front unit step (number_of rule) faults
      → broken unit step (number_of rule) ≡ false → Front unit step (number_of rule + 1) faults
  rule_passed unit step rule faults front none =
      front_on IsBroken path_of unit step (number_of rule) unit step (number_of rule + 1) faults front
      (λ u s r. comes_up u s r unit step (number_of rule) (number_of rule + 1) (omega arith))
      (λ p is before. comes_back p.unit p.step (number_of p.rule) unit step (number_of rule) (number_of rule + 1)
      (λ at place past less. let same : number_of p.rule ≡ number_of rule = omega arith in
      never p.unit p.step unit step (number_of p.rule) at place is (ap (λ (n : ℕ). broken unit step n) same ∙ none)) before)

  -- past the last rule of the book
  pub step_passed : (unit step : ℕ) (faults : List FaultValue) → Front unit step (last_number + 1) faults → Front unit (step + 1) 0 faults
  step_passed unit step faults front =
      front_on IsBroken path_of unit step (last_number + 1) unit (step + 1) 0 faults front
      (λ u s r before. comes_on u s r unit step (last_number + 1) unit (step + 1) 0 before (inr (refl, inl (omega arith))))
      (λ p is before. comes_last p.unit p.step (number_of p.rule) unit step (let last = (in_book p.rule).1 in omega arith) before)

  -- to the next unit, where nothing is broken after the step
  pub unit_ends : (unit step : ℕ) (faults : List FaultValue) → Front unit step 0 faults
      → ((s : ℕ) (rule : Rule) → step ≤ s → broken unit s (number_of rule) ≡ false) → Front (unit + 1) 0 0 faults
  unit_ends unit step faults front none =
      front_on IsBroken path_of unit step 0 (unit + 1) 0 0 faults front (λ u s r before. comes_on u s r unit step 0 (unit + 1) 0 0 before (inl (omega arith)))
      (λ p is before. comes_within p.unit p.step (number_of p.rule) unit step
      (λ at past. never p.unit p.step unit p.step (number_of p.rule) at refl is (none p.step p.rule past)) before)

  -- the whole report, where nothing is broken from this unit on
  pub all_units : (unit : ℕ) (faults : List FaultValue) → Front unit 0 0 faults
      → ((u s : ℕ) (rule : Rule) → unit ≤ u → broken u s (number_of rule) ≡ false) → IsReportOf IsBroken path_of faults
  all_units unit faults front none =
      front_ends IsBroken path_of unit 0 0 faults front
      (λ p is. elim (cases_lt p.unit unit) [
        | inl less ↦ inl less
        | inr past ↦ absurd (never p.unit p.step p.unit p.step (number_of p.rule) refl refl is (none p.unit p.step p.rule past))
      ])
