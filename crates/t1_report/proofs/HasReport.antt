-- Each font has a report: a prefix is carried over one rule, over a step, over a unit, and over all units.
use Rattle.std.proofs.Common.{◌≡◌, ℕ, zero, suc, ◌+◌, ◌*◌, ◌<◌, ◌≤◌, ◌==◌, ◌&&◌, inl, inr, Bool, true, false, List, [], ◌∷◌, ◌++◌, length, take, refl, sym, subst, arith, ◌∙◌}
use Rattle.std.proofs.lemmas.Bool.{cases_Bool, eqb-true, cases_order}
use Rattle.std.proofs.lemmas.List.{length-take}
use Rattle.t1_char.specs.Steps.{StepView, steps_of}
use Rattle.t1_report.specs.Checked.{CheckedFont, step_limit}
use Rattle.t1_rules.specs.declared.rule.Rule.{Rule}
use Rattle.t1_rules.specs.Book.{last_number, number_of, rules}
use Rattle.t1_rules.proofs.Lemmas.Book.{both}
use Rattle.t1_report.specs.Faults.{FaultValue}
use Rattle.t1_report.specs.Reports.{IsReport, IsReportOf, Place, is_broken, path_at, is_told}
use Rattle.t1_report.specs.Private.Fronts.{IsFrontOf}
use Rattle.t1_report.proofs.Broken.{past_keys, past_steps}
use Rattle.t1_report.proofs.Fronts.{fault_at, front_start, front_with}
use Rattle.t1_report.proofs.UnitFronts.{all_units, first_rule, rule_passed, step_passed, unit_ends}
use Rattle.t1_report.specs.Waivers.{Waiver}
use Rattle.t1_report.proofs.Told.{no_waiver, past_waivers, quiet_told, told_of_waiver}
use Rattle.t1_rules.specs.Keys.{index_count, key_count}

-- The numbers of these rules rise from n one by one.
rise_from : ℕ → List Rule → Bool
rise_from n [] = true
rise_from n (rule ∷ rest) = (number_of rule == n) && rise_from (suc n) rest

all_rise : rise_from 1 rules ≡ true
unfolding rise_from
all_rise = refl

rise_parts : (n : ℕ) (rule : Rule) (rest : List Rule) → rise_from n (rule ∷ rest) ≡ true → (number_of rule ≡ n) × (rise_from (suc n) rest ≡ true)
unfolding rise_from
rise_parts n rule rest order =
    let parts = both (number_of rule == n) (rise_from (suc n) rest) order in
    (eqb-true (number_of rule) n parts.0, parts.1)

-- Over any violations that a Bool decides by unit, step and the number of the rule.
module _ (broken : ℕ → ℕ → ℕ → Bool) (path_of : Place → List ℕ) where
  abbrev IsBroken : Place → Type 0
  IsBroken p = broken p.unit p.step (number_of p.rule) ≡ true

  -- there is a prefix up to a place
  abbrev HasFront : ℕ → ℕ → ℕ → Type 0
  HasFront unit step rule = (faults : List FaultValue) × IsFrontOf IsBroken path_of unit step rule faults

  -- nothing is broken in a unit from a step on
  abbrev IsQuietFrom : ℕ → ℕ → Type 0
  IsQuietFrom unit from = (s : ℕ) (rule : Rule) → from ≤ s → broken unit s (number_of rule) ≡ false

  over_rule : (unit step : ℕ) (rule : Rule) → HasFront unit step (number_of rule) → HasFront unit step (number_of rule + 1)
  over_rule unit step rule (faults, front) =
      elim (cases_Bool (broken unit step (number_of rule))) [
        | inl is ↦ (
          faults ++ fault_at (length faults + 1) (record { unit = unit; step = step; rule = rule })
              (path_of (record { unit = unit; step = step; rule = rule })) ∷ [],
          front_with IsBroken path_of (record { unit = unit; step = step; rule = rule }) faults front is,
        )
        | inr none ↦ (faults, rule_passed broken path_of unit step rule faults front none)
      ]

  over_rules : (unit step : ℕ) (all : List Rule) (n : ℕ) → rise_from n all ≡ true → HasFront unit step n → HasFront unit step (n + length all)
  over_rules unit step [] n order front = subst (HasFront unit step) (omega arith) front
  over_rules unit step (rule ∷ rest) n order front =
      let parts = rise_parts n rule rest order in
      let first = parts.0 in
      let next : number_of rule + 1 ≡ suc n = omega (arith, first) in
      let all : suc n + length rest ≡ n + suc (length rest) = omega arith in
      subst (HasFront unit step) all (over_rules unit step rest (suc n) parts.1
      (subst (HasFront unit step) next (over_rule unit step rule (subst (HasFront unit step) (sym first) front))))

  over_book : (unit step : ℕ) → HasFront unit step 1 → HasFront unit step (last_number + 1)
  over_book unit step front = over_rules unit step rules 1 all_rise front

  from_first : (unit step : ℕ) → HasFront unit step 0 → HasFront unit step 1
  from_first unit step (faults, front) = (faults, first_rule broken path_of unit step faults front)

  past_last : (unit step : ℕ) → HasFront unit step (last_number + 1) → HasFront unit (step + 1) 0
  past_last unit step (faults, front) = (faults, step_passed broken path_of unit step faults front)

  over_step : (unit step : ℕ) → HasFront unit step 0 → HasFront unit (step + 1) 0
  over_step unit step front = past_last unit step (over_book unit step (from_first unit step front))

  over_steps : (unit count : ℕ) → HasFront unit 0 0 → HasFront unit count 0
  over_steps unit zero front = front
  over_steps unit (suc n) front = subst (λ (s : ℕ). HasFront unit s 0) (omega arith) (over_step unit n (over_steps unit n front))

  to_next : (unit step : ℕ) → IsQuietFrom unit step → HasFront unit step 0 → HasFront (unit + 1) 0 0
  to_next unit step quiet (faults, front) = (faults, unit_ends broken path_of unit step faults front quiet)

  over_units : ((unit : ℕ) → (count : ℕ) × IsQuietFrom unit count) → (units : ℕ) → HasFront units 0 0
  over_units ends zero = ([], front_start IsBroken path_of)
  over_units ends (suc unit) =
      subst (λ (u : ℕ). HasFront u 0 0) (omega arith) (to_next unit (ends unit).0 (ends unit).1 (over_steps unit (ends unit).0 (over_units ends unit)))

  past_units : (units : ℕ) → ((u s : ℕ) (rule : Rule) → units ≤ u → broken u s (number_of rule) ≡ false) → HasFront units 0 0
      → (faults : List FaultValue) × IsReportOf IsBroken path_of faults
  past_units units quiet (faults, front) = (faults, all_units broken path_of units faults front quiet)

  -- each unit ends at some step, and there is a last unit
  report_of : ((unit : ℕ) → (count : ℕ) × IsQuietFrom unit count) → (units : ℕ)
      → ((u s : ℕ) (rule : Rule) → units ≤ u → broken u s (number_of rule) ≡ false) → (faults : List FaultValue) × IsReportOf IsBroken path_of faults
  report_of ends units quiet = past_units units quiet (over_units ends units)

-- ---- the units of a font

few_steps : (limit step : ℕ) (steps : List StepView) → limit + 2 ≤ step → length (take (limit + 1) steps) < step
few_steps limit step steps past = let count = length-take (limit + 1) steps in omega (arith, count)

-- After the first step past the limit a glyph breaks nothing.
pub quiet_behind : (font : CheckedFont) (glyph s : ℕ) (rule : Rule) → step_limit font + 2 ≤ s → is_broken font (suc glyph) s (number_of rule) ≡ false
quiet_behind font glyph s rule past = past_steps font (suc glyph) glyph s (number_of rule) (omega arith)
    (few_steps (step_limit font) s (steps_of font.value glyph) past)

unit_end : (font : CheckedFont) (unit : ℕ) → (count : ℕ) × ((s : ℕ) (rule : Rule) → count ≤ s → is_broken font unit s (number_of rule) ≡ false)
unit_end font zero = (index_count * key_count, λ s rule past. past_keys font s (number_of rule) past)
unit_end font (suc glyph) = (step_limit font + 2, quiet_behind font glyph)

told_end : (font : CheckedFont) (waivers : List Waiver) (unit : ℕ) → (count : ℕ)
    × ((s : ℕ) (rule : Rule) → count ≤ s → is_told font waivers unit s (number_of rule) ≡ false)
told_end font waivers unit = elim (cases_order unit (length font.value.glyphs + 1)) [
  | inl same ↦ (
    length waivers + 1,
    λ s rule past. told_of_waiver font waivers unit s (number_of rule) same
        ∙ no_waiver font waivers s (number_of rule) (omega (arith, past)),
  )
  | inr (inl less) ↦ (
    (unit_end font unit).0,
    λ s rule past. quiet_told font waivers unit s (number_of rule) (omega (arith, less))
        ((unit_end font unit).1 s rule past),
  )
  | inr (inr more) ↦ (0, λ s rule past. past_waivers font waivers unit s (number_of rule) more)
]

has_report_at : (font : CheckedFont) (waivers : List Waiver) → (faults : List FaultValue)
    × IsReportOf (λ p. is_told font waivers p.unit p.step (number_of p.rule) ≡ true) (path_at font) faults
has_report_at font waivers =
    report_of (is_told font waivers) (path_at font) (told_end font waivers) (length font.value.glyphs + 2)
    (λ u s rule past. past_waivers font waivers u s (number_of rule) (omega (arith, past)))

pub has_report : (font : CheckedFont) (waivers : List Waiver) → (faults : List FaultValue) × IsReport font waivers faults
has_report font waivers = has_report_at font waivers
