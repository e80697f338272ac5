-- A report has fewer than 2^64 faults: an ordinal rises with their places.
use Rattle.std.proofs.Common.{◌≡◌, ℕ, zero, suc, ◌+◌, ◌*◌, ◌^◌, ◌<◌, ◌≤◌, inl, inr, true, true≢false, List, [], ◌∷◌, length, take, slice_index_or, sym, ap, ◌∙◌, arith, mul-le-mul_right, suc-mul, false}
use Rattle.std.proofs.lemmas.Bool.{cases_lt, cases_Bool}
use Rattle.std.proofs.lemmas.List.{length-take}
use Rattle.t1_char.proofs.EditionLemmas.{limit_few}
use Rattle.t1_char.specs.Steps.{StepView, steps_of}
use Rattle.t1_report.specs.Checked.{CheckedFont, step_limit}
use Rattle.t1_rules.specs.Book.{last_number, number_of}
use Rattle.t1_rules.proofs.Lemmas.Book.{in_book}
use Rattle.t1_report.specs.Faults.{FaultValue}
use Rattle.t1_report.specs.Reports.{Comes, IsReport, IsRising, is_broken, is_told, spot}
use Rattle.t1_report.proofs.Broken.{past_keys, past_steps}
use Rattle.t1_report.specs.Waivers.{Waiver}
use Rattle.t1_report.proofs.Told.{no_waiver, quiet_told, told_of_waiver, told_within}
use Rattle.t1_rules.specs.Keys.{index_count, key_count}

-- ---- ordinals

joined : ℕ → ℕ → ℕ → ℕ
joined width a b = a * width + b

joined_less : (width a b a' b' : ℕ) → a < a' → b < width → joined width a b < joined width a' b'
unfolding joined
joined_less width a b a' b' less low =
    let more : suc a * width ≤ a' * width = mul-le-mul_right width less in
    let next = suc-mul a width in
    omega (arith, more, next)

joined_near : (width a b a' b' : ℕ) → a ≡ a' → b < b' → joined width a b < joined width a' b'
unfolding joined
joined_near width a b a' b' same less = let same_width = ap (λ (n : ℕ). n * width) same in omega (arith, same_width)

-- of a unit, a step and the number of a rule
ordinal : ℕ → ℕ → ℕ → ℕ → ℕ
ordinal width unit step rule = joined (last_number + 1) (joined width unit step) rule

ordinal_rises : (width u s r u' s' r' : ℕ) → s < width → r < last_number + 1 → Comes (spot u s r) (spot u' s' r') → ordinal width u s r < ordinal width u' s' r'
unfolding ordinal
ordinal_rises width u s r u' s' r' low few (inl unit) = joined_less (last_number + 1) (joined width u s) r (joined width u' s') r' (joined_less width u s u' s' unit low) few
ordinal_rises width u s r u' s' r' low few (inr (unit, inl step)) =
    joined_less (last_number + 1) (joined width u s) r (joined width u' s') r' (joined_near width u s u' s' unit step) few
ordinal_rises width u s r u' s' r' low few (inr (unit, inr (step, rule))) =
    joined_near (last_number + 1) (joined width u s) r (joined width u' s') r' (ap (λ (n : ℕ). joined width n s) unit ∙ ap (joined width u') step) rule

ordinal_below : (width u s r units : ℕ) → u < units → s < width → r < last_number + 1 → ordinal width u s r < joined (last_number + 1) (joined width units 0) 0
unfolding ordinal
ordinal_below width u s r units less low few = joined_less (last_number + 1) (joined width u s) r (joined width units 0) 0 (joined_less width u s units 0 less low) few

-- ---- lists

-- numbers that rise are no less than their indices
index_below : (at : ℕ → ℕ) (count : ℕ) → ((i j : ℕ) → i < j → j < count → at i < at j) → (i : ℕ) → i < count → i ≤ at i
index_below at count rise zero less = omega arith
index_below at count rise (suc i) less =
    let before = index_below at count rise i (omega arith) in
    let next = rise i (suc i) (omega arith) less in
    omega (arith, before, next)

-- so there are no more than the least that is above all
count_below : (at : ℕ → ℕ) (count bound : ℕ) → ((i j : ℕ) → i < j → j < count → at i < at j) → ((i : ℕ) → i < count → at i < bound) → count ≤ bound
count_below at zero bound rise below = omega arith
count_below at (suc n) bound rise below =
    let last = index_below at (suc n) rise n (omega arith) in
    let top = below n (omega arith) in
    omega (arith, last, top)

ordinal_of : ℕ → FaultValue → ℕ
ordinal_of width fault = ordinal width fault.unit fault.step (number_of fault.rule)

fault_rises : (width : ℕ) (a b : FaultValue) → a.step < width → Comes (spot a.unit a.step (number_of a.rule)) (spot b.unit b.step (number_of b.rule))
    → ordinal_of width a < ordinal_of width b
unfolding ordinal_of
fault_rises width a b low before =
    let few = (in_book a.rule).1 in
    ordinal_rises width a.unit a.step (number_of a.rule) b.unit b.step (number_of b.rule) low (omega arith) before

fault_below : (width units : ℕ) (a : FaultValue) → a.unit < units → a.step < width → ordinal_of width a < joined (last_number + 1) (joined width units 0) 0
unfolding ordinal_of
fault_below width units a less low =
    let few = (in_book a.rule).1 in
    ordinal_below width a.unit a.step (number_of a.rule) units less low (omega arith)

few_rising : (width units : ℕ) (faults : List FaultValue) → IsRising faults
    → ((i : ℕ) (d : FaultValue) → i < length faults → ((slice_index_or faults i d).unit < units) × ((slice_index_or faults i d).step < width))
    → length faults ≤ joined (last_number + 1) (joined width units 0) 0
few_rising width units [] rising within = omega arith
few_rising width units (first ∷ rest) rising within =
    count_below (λ (i : ℕ). ordinal_of width (slice_index_or (first ∷ rest) i first)) (length (first ∷ rest)) (joined (last_number + 1) (joined width units 0) 0)
    (λ i j before less. fault_rises width (slice_index_or (first ∷ rest) i first) (slice_index_or (first ∷ rest) j first) (within i first (omega arith)).1
    (rising i j first before less))
    (λ i less. let low = within i first less in fault_below width units (slice_index_or (first ∷ rest) i first) low.0 low.1)

-- ---- the places of a font

many_steps : (limit step : ℕ) (steps : List StepView) → limit + 1 < step → length (take (limit + 1) steps) < step
many_steps limit step steps past = let count = length-take (limit + 1) steps in omega (arith, count)

step_few : (width : ℕ) (font : CheckedFont) (unit step n : ℕ) → index_count * key_count ≤ width → step_limit font + 1 < width → is_broken font unit step n ≡ true
    → step < width
step_few width font zero step n keys steps is =
    elim (cases_lt step width) [
      | inl less ↦ less
      | inr past ↦ absurd (true≢false (sym is ∙ past_keys font step n (omega arith)))
    ]
step_few width font (suc glyph) step n keys steps is =
    elim (cases_lt step width) [
      | inl less ↦ less
      | inr past ↦ absurd (true≢false (sym is ∙ past_steps font (suc glyph) glyph step n (omega arith)
          (many_steps (step_limit font) step (steps_of font.value glyph) (omega arith))))
    ]

told_few : (width : ℕ) (font : CheckedFont) (waivers : List Waiver) (unit step n : ℕ) → index_count * key_count ≤ width → step_limit font + 1 < width
    → length waivers < width → is_told font waivers unit step n ≡ true → (unit < length font.value.glyphs + 2) × (step < width)
told_few width font waivers unit step n keys steps few is =
    let within = told_within font waivers unit step n is in (
      omega (arith, within),
      elim (cases_lt step width) [
        | inl less ↦ less
        | inr past ↦ absurd (true≢false (sym is ∙ none past within))
      ],
    )
  where
    quiet : width ≤ step → unit ≤ length font.value.glyphs → is_broken font unit step n ≡ false
    quiet past low = elim (cases_Bool (is_broken font unit step n)) [
      | inl broken ↦ absurd (omega (arith, past, step_few width font unit step n keys steps broken))
      | inr unbroken ↦ unbroken
    ]

    none : width ≤ step → unit ≤ length font.value.glyphs + 1 → is_told font waivers unit step n ≡ false
    none past low = elim (cases_lt unit (length font.value.glyphs + 1)) [
      | inl less ↦ quiet_told font waivers unit step n (omega (arith, less)) (quiet past (omega (arith, less)))
      | inr behind ↦ told_of_waiver font waivers unit step n (omega (arith, low, behind)) ∙ no_waiver font waivers step n (omega (arith, past, few))
    ]

few_at : (width : ℕ) (font : CheckedFont) (waivers : List Waiver) (faults : List FaultValue) → index_count * key_count ≤ width → step_limit font + 1 < width
    → length waivers < width → IsReport font waivers faults
    → length faults ≤ joined (last_number + 1) (joined width (length font.value.glyphs + 2) 0) 0
few_at width font waivers faults keys steps few report =
    few_rising width (length font.value.glyphs + 2) faults report.rising
    (λ i d less. let is = (report.violations i d less).violated in
    let fault : FaultValue = slice_index_or faults i d in
    told_few width font waivers fault.unit fault.step (number_of fault.rule) keys steps few is)

count_few : (glyphs : ℕ) → glyphs ≤ 65535 → joined (last_number + 1) (joined (index_count * key_count) (glyphs + 2) 0) 0 < 2 ^ 64
unfolding joined
count_few glyphs few = omega arith

pub few_faults : (font : CheckedFont) (waivers : List Waiver) (faults : List FaultValue) → length font.value.glyphs ≤ 65535 → length waivers ≤ 1048576
    → IsReport font waivers faults → length faults < 2 ^ 64
few_faults font waivers faults few few_waivers report =
    let count = few_at (index_count * key_count) font waivers faults (omega arith) (omega (arith, limit_few font.edition)) (omega (arith, few_waivers)) report in
    let below = count_few (length font.value.glyphs) few in
    omega (arith, count, below)
