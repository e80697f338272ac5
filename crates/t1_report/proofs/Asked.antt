-- How many steps are requested for a glyph, and for waivers.
-- Sums over places, one place further at a time.
use Rattle.std.proofs.Common.{◌≡◌, ℕ, zero, suc, ◌+◌, ◌-◌, ◌*◌, ◌<◌, ◌≤◌, inl, inr, Bool, true, false, true≢false, if◌then◌else◌, Option, None, Some, List, [], ◌∷◌, length, length-take, length-drop, drop, take, slice_get, slice_range, get_or, refl, sym, ap, ◌∙◌, arith}
use Rattle.std.specs.List.{sum_by, range_with_len}
use Rattle.std.proofs.lemmas.Bool.{cases_lt, eq-eqb, le-ltb, lt-ltb, ne_eqb}
use Rattle.std.proofs.lemmas.List.{get_or-drop}
use Rattle.std.proofs.lemmas.List.Sums.{sum_by-cons, sum_by_more}
use Rattle.std.proofs.lemmas.Option.{slice_get-get_or}
use Rattle.t1_char.proofs.EditionLemmas.{limit_few}
use Rattle.t1_char.specs.Steps.{StepView, steps_of}
use Rattle.t1_report.specs.Checked.{CheckedFont, step_limit}
use Rattle.t1_rules.specs.declared.rule.Rule.TheVariants.{C01}
use Rattle.t1_report.specs.Reports.{is_broken, is_broken_below}
use Rattle.t1_report.specs.Waivers.{Waiver}
use Rattle.t1_report.specs.Walks.{first_asked, turns_asked, turns_for, turns_of_glyph, turns_of_waiver, turns_up_to}
use Rattle.t1_report.specs.Private.Units.{turns_if_any}
use Rattle.t1_report.proofs.Broken.{past_steps}
use Rattle.t1_report.proofs.Told.{none_below, some_below}

-- ---- a glyph

-- A sum over places, from its first one on.
pub places_first : (f : ℕ → ℕ) (from n : ℕ) → sum_by f (range_with_len from (suc n)) ≡ f from + sum_by f (range_with_len (suc from) n)
places_first f from n =
    let next : from + 1 ≡ suc from = omega arith in
    sum_by-cons f from (range_with_len (from + 1) n) ∙ ap (λ (u : ℕ). f from + sum_by f (range_with_len u n)) next

-- A sum over places with one more.
pub places_more : (f : ℕ → ℕ) (from n : ℕ) → sum_by f (range_with_len from (suc n)) ≡ sum_by f (range_with_len from n) + f (from + n)
places_more f from zero =
    let place : from ≡ from + 0 = omega arith in
    let last = ap f place in
    omega (arith, places_first f from 0, last)
places_more f from (suc n) =
    let rest = places_more f (suc from) n in
    let place : suc from + n ≡ from + suc n = omega arith in
    let last = ap f place in
    omega (arith, places_first f from (suc n), places_first f from n, rest, last)

pub few_turns : (font : CheckedFont) (glyph : ℕ) → turns_of_glyph font glyph ≤ step_limit font + 1
unfolding turns_of_glyph
few_turns font glyph = by_limit (step_limit font) (steps_of font.value glyph)
  where
    by_limit : (limit : ℕ) (all : List StepView) → length (take limit all) + 1 ≤ limit + 1
    by_limit limit all = omega (arith, length-take limit all)

-- ---- a waiver

no_turn : (font : CheckedFont) (unit n : ℕ) → turns_up_to font unit n 0 ≡ 0
unfolding turns_up_to
no_turn font unit n = refl

one_turn_more : (font : CheckedFont) (unit n turns : ℕ)
    → turns_up_to font unit n (suc turns) ≡ turns_up_to font unit n turns + (if is_broken_below font unit (suc turns) n then 0 else 1)
unfolding turns_up_to
one_turn_more font unit n turns =
    let place : 1 + turns ≡ suc turns = omega arith in
    places_more (λ (turn : ℕ). if is_broken_below font unit turn n then 0 else 1) 1 turns
    ∙ ap (λ (turn : ℕ). turns_up_to font unit n turns + (if is_broken_below font unit turn n then 0 else 1)) place

-- Where no step below breaks the rule, all turns are requested.
pub all_turns : (font : CheckedFont) (unit n turns : ℕ) → ((s : ℕ) → s < turns → is_broken font unit s n ≡ false) → turns_up_to font unit n turns ≡ turns
all_turns font unit n zero quiet = no_turn font unit n
all_turns font unit n (suc turns) quiet =
    let before = all_turns font unit n turns (λ s less. quiet s (omega (arith, less))) in
    one_turn_more font unit n turns ∙ rw (none_below font unit (suc turns) n quiet) (omega (arith, before))

-- Else those up to the first step that does.
pub turns_to_first : (font : CheckedFont) (unit n first turns : ℕ) → ((s : ℕ) → s < first → is_broken font unit s n ≡ false) → is_broken font unit first n
    ≡ true → first ≤ turns → turns_up_to font unit n turns ≡ first
turns_to_first font unit n first zero quiet broken within = all_turns font unit n zero (λ s less. absurd (omega (arith, less))) ∙ omega (arith, within)
turns_to_first font unit n first (suc turns) quiet broken within =
    elim (cases_lt first (suc turns)) [
      | inl less ↦ one_more first turns less broken (turns_to_first font unit n first turns quiet broken (omega (arith, less)))
      | inr past ↦
          let here : first ≡ suc turns = omega (arith, past, within) in
          all_turns font unit n (suc turns) (λ s less. quiet s (omega (arith, less, here))) ∙ sym here
    ]
  where
    one_more : (first turns : ℕ) → first < suc turns → is_broken font unit first n ≡ true → turns_up_to font unit n turns ≡ first
        → turns_up_to font unit n (suc turns) ≡ first
    one_more first turns less broken so_far =
        one_turn_more font unit n turns ∙ rw (some_below font unit (suc turns) n first less broken) (omega (arith, so_far))

-- As many at most as there are.
few_up_to : (font : CheckedFont) (unit n turns : ℕ) → turns_up_to font unit n turns ≤ turns
few_up_to font unit n zero = omega (arith, no_turn font unit n)
few_up_to font unit n (suc turns) =
    let so_far = one_more (turns_up_to font unit n turns) (is_broken_below font unit (suc turns) n) (few_up_to font unit n turns) in
    omega (arith, one_turn_more font unit n turns, so_far)
  where
    one_more : (count : ℕ) (b : Bool) → count ≤ turns → count + (if b then 0 else 1) ≤ suc turns
    one_more count true few = omega (arith, few)
    one_more count false few = omega (arith, few)

few_for : (font : CheckedFont) (n : ℕ) (glyph : Option ℕ) → turns_for font n glyph ≤ step_limit font + 1
few_for font n None = omega arith
few_for font n (Some glyph) = omega (arith, few_up_to font (suc glyph) n (turns_of_glyph font glyph), few_turns font glyph)

few_of_waiver : (font : CheckedFont) (w : Waiver) → turns_of_waiver font w ≤ step_limit font + 1
few_of_waiver font w = few_for font _ _

-- ---- the waivers of a walk

pub first_before : (font : CheckedFont) (waivers : List Waiver) (from first : ℕ) → from < length font.value.glyphs + 1 → first_asked font waivers from first ≡ 0
first_before font waivers from first less = rw (lt-ltb from (length font.value.glyphs + 1) less) refl

pub first_at : (font : CheckedFont) (waivers : List Waiver) (from first : ℕ) → from ≡ length font.value.glyphs + 1
    → first_asked font waivers from first ≡ first - 1
first_at font waivers from first at = rw (le-ltb from (length font.value.glyphs + 1) (omega (arith, at)), eq-eqb from (length font.value.glyphs + 1) at) refl

pub first_behind : (font : CheckedFont) (waivers : List Waiver) (from first : ℕ) → length font.value.glyphs + 1 < from
    → first_asked font waivers from first ≡ length waivers
first_behind font waivers from first past =
    rw (le-ltb from (length font.value.glyphs + 1) (omega (arith, past)), ne_eqb from (length font.value.glyphs + 1) (λ e. omega (arith, e, past))) refl

-- None up to the first.
no_sum : {X : Type 0} (f : X → ℕ) (xs : List X) (a b : ℕ) → b ≤ a → sum_by f (slice_range xs a b) ≡ 0
no_sum f xs a b near = let none : b - a ≡ 0 = omega (arith, near) in ap (λ n. sum_by f (take n (drop a xs))) none

pub asked_none : (font : CheckedFont) (waivers : List Waiver) (from first to : ℕ) → to ≤ first_asked font waivers from first
    → turns_asked font waivers from first to ≡ 0
unfolding turns_asked
asked_none font waivers from first to near = no_sum (turns_of_waiver font) waivers (first_asked font waivers from first) to near

-- One waiver more.
sum_more : {X : Type 0} (f : X → ℕ) (xs : List X) (a b : ℕ) (d : X) → a ≤ b → b < length xs → sum_by f (slice_range xs a (b + 1))
    ≡ sum_by f (slice_range xs a b) + f (get_or xs b d)
sum_more f xs a b d past within =
    let count : b + 1 - a ≡ b - a + 1 = omega (arith, past) in
    let here : a + (b - a) ≡ b = omega (arith, past) in
    ap (λ n. sum_by f (take n (drop a xs))) count
    ∙ sum_by_more f (drop a xs) (b - a) d (omega (arith, past, within, length-drop a xs))
    ∙ ap (λ x. sum_by f (slice_range xs a b) + f x) (get_or-drop a xs (b - a) d ∙ ap (λ i. get_or xs i d) here)

pub asked_more : (font : CheckedFont) (waivers : List Waiver) (from first to : ℕ) → first_asked font waivers from first ≤ to → to < length waivers
    → turns_asked font waivers from first (to + 1) ≡ turns_asked font waivers from first to + turns_if_any font (slice_get waivers to)
unfolding turns_asked
asked_more font waivers from first to past within =
    sum_more (turns_of_waiver font) waivers (first_asked font waivers from first) to ([], C01) past within
    ∙ ap (λ w. turns_asked font waivers from first to + turns_if_any font w) (sym (slice_get-get_or waivers to ([], C01) within))

pub mul_mono : (m a b : ℕ) → a ≤ b → m * a ≤ m * b
mul_mono zero a b less = omega arith
mul_mono (suc m) a b less =
    let one : suc m * a ≡ m * a + a = omega arith in
    let other : suc m * b ≡ m * b + b = omega arith in
    omega (arith, less, mul_mono m a b less, one, other)

-- One more than the limit for each at most.
few_sum : {X : Type 0} (f : X → ℕ) (most : ℕ) → ((x : X) → f x ≤ most) → (xs : List X) → sum_by f xs ≤ most * length xs
few_sum f most few [] = omega arith
few_sum f most few (x ∷ xs) =
    let product : most * suc (length xs) ≡ most * length xs + most = omega arith in
    omega (arith, sum_by-cons f x xs, few x, few_sum f most few xs, product)

few_in_range : {X : Type 0} (f : X → ℕ) (most : ℕ) (xs : List X) (a b : ℕ) → ((x : X) → f x ≤ most) → sum_by f (slice_range xs a b) ≤ most * b
few_in_range f most xs a b few =
    let fewer : most * length (slice_range xs a b) ≤ most * b = mul_mono most (length (slice_range xs a b)) b
    (omega (arith, length-take (b - a) (drop a xs))) in
    omega (arith, few_sum f most few (slice_range xs a b), fewer)

pub asked_few : (font : CheckedFont) (waivers : List Waiver) (from first to : ℕ) → turns_asked font waivers from first to ≤ (step_limit font + 1) * to
unfolding turns_asked
asked_few font waivers from first to =
    few_in_range (turns_of_waiver font) (step_limit font + 1) waivers (first_asked font waivers from first) to (few_of_waiver font)

-- At most 1,000,001 for each.
pub asked_most : (font : CheckedFont) (waivers : List Waiver) (from first to : ℕ) → turns_asked font waivers from first to ≤ 1000001 * to
unfolding turns_asked
asked_most font waivers from first to =
    few_in_range (turns_of_waiver font) 1000001 waivers (first_asked font waivers from first) to
    (λ w. omega (arith, few_of_waiver font w, limit_few font.edition))

-- ---- laws

-- A rule is broken within the turns of its glyph.
first_within : (font : CheckedFont) (glyph n first : ℕ) → is_broken font (suc glyph) first n ≡ true
    → first ≤ length (take (step_limit font) (steps_of font.value glyph)) + 1
first_within font glyph n first broken =
    elim (cases_lt (length (take (step_limit font + 1) (steps_of font.value glyph))) first) [
      | inl past ↦ absurd (true≢false (sym broken ∙ past_steps font (suc glyph) glyph first n (omega arith) past))
      | inr near ↦ omega (arith, near, length-take (step_limit font + 1) (steps_of font.value glyph), length-take (step_limit font) (steps_of font.value glyph))
    ]

first_in_turns : (font : CheckedFont) (glyph n first : ℕ) → is_broken font (suc glyph) first n ≡ true → first ≤ turns_of_glyph font glyph
unfolding turns_of_glyph
first_in_turns font glyph n first broken = first_within font glyph n first broken

pub asked_to_first : (font : CheckedFont) (glyph n first : ℕ) → ((s : ℕ) → s < first → is_broken font (suc glyph) s n ≡ false)
    → is_broken font (suc glyph) first n ≡ true → turns_for font n (Some glyph) ≡ first
asked_to_first font glyph n first quiet broken = turns_to_first font (suc glyph) n first (turns_of_glyph font glyph) quiet broken
    (first_in_turns font glyph n first broken)

pub asked_to_end : (font : CheckedFont) (glyph n : ℕ) → ((s : ℕ) → is_broken font (suc glyph) s n ≡ false)
    → turns_for font n (Some glyph) ≡ turns_of_glyph font glyph
asked_to_end font glyph n quiet = all_turns font (suc glyph) n (turns_of_glyph font glyph) (λ s less. quiet s)

no_range : {X : Type 0} (f : X → ℕ) (a b : ℕ) → sum_by f (slice_range [] a b) ≡ 0
no_range f a b = let few = few_sum_none f a b in few
  where
    none_left : {X : Type 0} (a : ℕ) → drop {A = X} a [] ≡ []
    none_left zero = refl
    none_left (suc a) = refl

    none_taken : {X : Type 0} (n : ℕ) → take {A = X} n [] ≡ []
    none_taken zero = refl
    none_taken (suc n) = refl

    few_sum_none : {X : Type 0} (f : X → ℕ) (a b : ℕ) → sum_by f (slice_range [] a b) ≡ 0
    few_sum_none f a b = ap (λ xs. sum_by f (take (b - a) xs)) (none_left a) ∙ ap (sum_by f) (none_taken (b - a))

pub asked_without : (font : CheckedFont) (from first to : ℕ) → turns_asked font [] from first to ≡ 0
unfolding turns_asked
asked_without font from first to = no_range (turns_of_waiver font) (first_asked font [] from first) to
