-- A search from unit to unit: what was passed, and what is first.
-- What was passed grows by one unit in which nothing is broken; then the first fault of the next unit is the first of all.
use Rattle.std.proofs.Common.{◌≡◌, ℕ, zero, suc, ◌+◌, ◌-◌, ◌*◌, ◌<◌, ◌≤◌, inl, inr, true, false, true≢false, List, length, refl, sym, ap, subst, ◌∙◌, arith, ◌⊎◌}
use Rattle.std.proofs.lemmas.Bool.{cases_lt}
use Rattle.t1_char.proofs.EditionLemmas.{limit_few}
use Rattle.t1_report.specs.Checked.{CheckedFont, step_limit}
use Rattle.t1_rules.specs.Book.{number_of}
use Rattle.t1_report.specs.declared.walk.found.Found.{Found}
use Rattle.t1_report.specs.Reports.{Place, path_in, IsTold, is_told}
use Rattle.t1_report.specs.Private.Units.{IsFontPlaces, IsRun, executed}
use Rattle.t1_rules.specs.Components.{AreOf}
use Rattle.t1_report.specs.declared.walk.font_places.FontPlaces.{FontPlaces}
use Rattle.t1_report.specs.declared.walk.search.Part.{Part}
use Rattle.t1_report.specs.declared.walk.search.Part.TheVariants.{Font, Glyph, Over, Waivers}
use Rattle.t1_report.specs.declared.walk.search.Search.{Search}
use Rattle.t1_report.specs.Private.Searches.{HasNoneFrom, checked_in, IsFirstPlace, IsFrom, IsOfFont, IsPart, IsSearch, is_over, step_of_part, turns_in, AreBegun, IsDone, IsFirstTold, IsPartBegun, TellsNoneFrom}
use Rattle.t1_report.specs.Walks.{turns_of_glyph, turns_of_unit, turns_of, turns_before, first_asked, turns_asked}
use Rattle.t1_report.specs.Waivers.{Waiver}
use Rattle.t1_char.specs.Turns.{MachineView}
use Rattle.t1_rules.specs.declared.watches.Watches.{Watches}
use Rattle.t1_report.proofs.Asked.{asked_few, asked_most, asked_none, few_turns, first_at, first_before, first_behind, mul_mono, places_first, places_more}
use Rattle.t1_report.proofs.Told.{past_waivers, told_no_step, told_within}

-- ---- turns

pub few_turns_of : (machine : MachineView) (watches : Watches) → IsRun machine watches → machine.counted ≤ step_limit (executed machine) + 1
few_turns_of machine watches is = omega (arith, is.counted, few_turns (executed machine) machine.glyph)

pub few_steps : (font : CheckedFont) (glyph counted : ℕ) → counted ≤ turns_of_glyph font glyph → counted + 1 ≤ 1600000
few_steps font glyph counted few = omega (arith, few, few_turns font glyph, limit_few font.edition)

few_in_unit : (font : CheckedFont) (unit : ℕ) → turns_of_unit font unit ≤ step_limit font + 1
few_in_unit font zero = omega arith
few_in_unit font (suc glyph) = few_turns font glyph

-- The first unit's, and then those of the units after it.
turns_first : (font : CheckedFont) (from n : ℕ) → turns_of font from (suc n) ≡ turns_of_unit font from + turns_of font (suc from) n
unfolding turns_of
turns_first font from n = places_first (turns_of_unit font) from n

few_over : (most : ℕ) (font : CheckedFont) (from n : ℕ) → ((unit : ℕ) → turns_of_unit font unit ≤ most) → turns_of font from n ≤ most * n
unfolding turns_of
few_over most font from zero few = omega arith
few_over most font from (suc n) few =
    let first = few from in
    let rest = few_over most font (suc from) n few in
    let product : most * suc n ≡ most * n + most = omega arith in
    omega (arith, turns_first font from n, first, rest, product)

-- At most 1,000,001 a unit.
pub few_before : (font : CheckedFont) (from unit : ℕ) → turns_before font from unit ≤ 1000001 * (unit - from)
few_before font from unit =
    few_over 1000001 font from (unit - from) (λ u. omega (arith, few_in_unit font u, limit_few font.edition))

-- None for the font, and at most one more than the limit a glyph.
few_from_font : (most : ℕ) (font : CheckedFont) (n : ℕ) → ((unit : ℕ) → turns_of_unit font unit ≤ most) → turns_of font 0 (suc n) ≤ most * n
unfolding turns_of
few_from_font most font n few = omega (arith, turns_first font 0 n, few_over most font 1 n few)

few_to_glyph : (most : ℕ) (font : CheckedFont) (from n : ℕ) → ((unit : ℕ) → turns_of_unit font unit ≤ most) → turns_before font from (suc n) ≤ most * n
few_to_glyph most font zero n few =
    let all : suc n ≡ suc n - 0 = omega arith in
    subst (λ m. turns_of font 0 m ≤ most * n) all (few_from_font most font n few)
few_to_glyph most font (suc from) n few = at_most_all (few_over most font (suc from) (suc n - suc from) few)
  where
    at_most_all : turns_of font (suc from) (suc n - suc from) ≤ most * (suc n - suc from) → turns_of font (suc from) (suc n - suc from) ≤ most * n
    at_most_all less =
        let fewer : most * (suc n - suc from) ≤ most * n = mul_mono most (suc n - suc from) n (omega arith) in
        omega (arith, less, fewer)

-- Those of one unit more.
turns_more : (font : CheckedFont) (from n : ℕ) → turns_of font from (suc n) ≡ turns_of font from n + turns_of_unit font (from + n)
unfolding turns_of
turns_more font from n = places_more (turns_of_unit font) from n

pub turns_next : (font : CheckedFont) (from unit : ℕ) → from ≤ unit → turns_before font from (unit + 1) ≡ turns_before font from unit + turns_of_unit font unit
unfolding turns_of
turns_next font from unit past =
    let more : unit + 1 - from ≡ suc (unit - from) = omega (arith, past) in
    let here : from + (unit - from) ≡ unit = omega (arith, past) in
    ap (turns_of font from) more ∙ turns_more font from (unit - from)
    ∙ ap (λ u. turns_of font from (unit - from) + turns_of_unit font u) here

-- None before the unit that one begins with.
pub turns_none : (font : CheckedFont) (from unit : ℕ) → unit ≤ from → turns_before font from unit ≡ 0
unfolding turns_of
turns_none font from unit near = let none : unit - from ≡ 0 = omega (arith, near) in ap (turns_of font from) none

-- ---- places

-- From one place on no violation comes before another.
pub record IsPassed (font : CheckedFont) (waivers : List Waiver) (unit step unit' step' : ℕ) : Type 0 where
  pub on : IsFrom unit step unit' step'
  pub passed : (p : Place) → IsTold font waivers p → IsFrom unit step p.unit p.step → IsFrom unit' step' p.unit p.step

pub passed_none : (font : CheckedFont) (waivers : List Waiver) (unit step : ℕ) → IsPassed font waivers unit step unit step
passed_none font waivers unit step = record { on = inr (refl, omega arith); passed = λ p is from. from }

-- A unit is done.
pub unit_passed : (font : CheckedFont) (waivers : List Waiver) (unit step u s u' s' : ℕ) → IsPassed font waivers unit step u s → TellsNoneFrom font waivers u s
    → u' ≡ u + 1 → s' ≤ 1 → ((p : Place) → IsTold font waivers p → p.unit ≡ u' → s' ≤ p.step) → IsPassed font waivers unit step u' s'
unit_passed font waivers unit step u s u' s' so_far quiet next low begins =
    record { on = later so_far.on; passed = λ p is from. beyond p is (so_far.passed p is from) }
  where
    later : IsFrom unit step u s → IsFrom unit step u' s'
    later (inl less) = inl (omega (arith, less, next))
    later (inr (same, past)) = inl (omega (arith, same, next))

    beyond : (p : Place) → IsTold font waivers p → IsFrom u s p.unit p.step → IsFrom u' s' p.unit p.step
    beyond p is (inl less) =
        elim (cases_lt u' p.unit) [
          | inl far ↦ inl far
          | inr near ↦ let at : p.unit ≡ u' = omega (arith, near, less, next) in inr (sym at, begins p is at)
        ]
    beyond p is (inr (same, past)) =
        absurd (true≢false (sym is ∙ ap (λ v. is_told font waivers v p.step (number_of p.rule)) (sym same) ∙ quiet p.step p.rule past))

-- What was found in a unit is the first from where the search began.
pub first_found : (font : CheckedFont) (waivers : List Waiver) (unit step u s : ℕ) (found : Found) → IsPassed font waivers unit step u s
    → u ≤ length font.value.glyphs + 1 → IsFirstTold font waivers u s found → IsFirstPlace font waivers unit step found
first_found font waivers unit step u s found so_far within is =
    record {
      behind = behind so_far.on;
      within = omega (arith, within, is.unit_is);
      first = λ p broken from. ahead p broken (so_far.passed p broken from);
      rules = λ n. is.rules n ∙ ap (λ v. is_told font waivers v found.step n) (sym is.unit_is);
      path = is.path ∙ ap (λ v. path_in font.value v found.step) (sym is.unit_is);
    }
  where
    behind : IsFrom unit step u s → IsFrom unit step found.unit found.step
    behind (inl less) = inl (omega (arith, less, is.unit_is))
    behind (inr (same, past)) = inr (same ∙ sym is.unit_is, omega (arith, past, is.behind))

    ahead : (p : Place) → IsTold font waivers p → IsFrom u s p.unit p.step → IsFrom found.unit found.step p.unit p.step
    ahead p broken (inl less) = inl (omega (arith, less, is.unit_is))
    ahead p broken (inr (same, past)) =
        elim (cases_lt p.step found.step) [
          | inl less ↦ absurd (true≢false (sym broken ∙ ap (λ v. is_told font waivers v p.step (number_of p.rule)) (sym same)
              ∙ is.quiet p.step p.rule past less))
          | inr later ↦ inr (is.unit_is ∙ same, later)
        ]

-- The same in the unit of the search.
pub first_in_unit : (font : CheckedFont) (waivers : List Waiver) (unit step : ℕ) (found : Found) → unit ≤ length font.value.glyphs + 1
    → IsFirstTold font waivers unit step found → IsFirstPlace font waivers unit step found
first_in_unit font waivers unit step found within is = first_found font waivers unit step unit step found (passed_none font waivers unit step) within is

-- Past the last glyph there is none.
pub none_past : (font : CheckedFont) (waivers : List Waiver) (unit step u s : ℕ) → IsPassed font waivers unit step u s → length font.value.glyphs + 1 < u
    → HasNoneFrom font waivers unit step
none_past font waivers unit step u s so_far past p broken from = over (so_far.passed p broken from)
  where
    over : IsFrom u s p.unit p.step → ⊥
    over (inl less) = omega (arith, less, past, told_within font waivers p.unit p.step (number_of p.rule) broken)
    over (inr (same, later)) = omega (arith, same, past, told_within font waivers p.unit p.step (number_of p.rule) broken)

-- ---- parts

-- Steps of glyphs begin at 1.
pub begins_at : (font : CheckedFont) (waivers : List Waiver) (unit step : ℕ) → 0 < unit → step ≤ 1 → (p : Place) → IsTold font waivers p → p.unit ≡ unit
    → step ≤ p.step
begins_at font waivers unit step glyph low p is at =
    elim (cases_lt p.step 1) [
      | inl none ↦ absurd (true≢false (sym is ∙ told_no_step font waivers p.unit p.step (number_of p.rule) (omega (arith, glyph, at)) none))
      | inr some ↦ omega (arith, some, low)
    ]

pub next_passed : (font : CheckedFont) (waivers : List Waiver) (unit step u s u' s' : ℕ) → IsPassed font waivers unit step u s → TellsNoneFrom font waivers u s
    → u' ≡ u + 1 → s' ≤ 1 → IsPassed font waivers unit step u' s'
next_passed font waivers unit step u s u' s' so_far quiet next low =
    unit_passed font waivers unit step u s u' s' so_far quiet next low (begins_at font waivers u' s' (omega (arith, next)) low)

-- A part that isn't over is that of a unit that there is.
pub record IsOpen (font : CheckedFont) (from unit passed : ℕ) : Type 0 where
  pub begins : from ≤ unit
  pub within : unit ≤ length font.value.glyphs + 1
  pub passed_are : passed ≡ turns_before font from unit

pub open_part : (font : CheckedFont) (waivers : List Waiver) (from first unit passed checked : ℕ) (part : Part) → IsPart font waivers from first unit passed
    checked part → is_over part ≡ false → IsOpen font from unit passed
open_part font waivers from first unit passed checked (Font places) (is, none) still =
    record {
      begins = omega (arith, is.begins);
      within = omega (arith, is.unit_is);
      passed_are = is.none_passed ∙ sym (turns_none font from unit (omega (arith, is.unit_is)));
    }
open_part font waivers from first unit passed checked (Glyph run) (is, none) still =
    let there : run.machine.glyph < length font.value.glyphs =
    subst (λ (f : CheckedFont). run.machine.glyph < length f.value.glyphs) is.font_is is.runs.there in
    record { begins = is.begins; within = omega (arith, is.unit_is, there); passed_are = is.passed_are }
open_part font waivers from first unit passed checked (Waivers next) is still =
    record { begins = is.begins; within = omega (arith, is.unit_is); passed_are = is.passed_are }
open_part font waivers from first unit passed checked Over is still = absurd (true≢false still)

-- A unit begins where the search does, or at its first step.
abbrev pub IsStart : ℕ → ℕ → ℕ → ℕ → Type 0
IsStart from first unit step = ((from < unit) × (step ≡ 0)) ⊎ ((from ≡ unit) × (step ≡ first))

-- No waiver was tested before those that are begun.
waivers_begun : (font : CheckedFont) (waivers : List Waiver) (from first glyph step next : ℕ) → AreBegun font waivers glyph step next
    → IsStart from first (glyph + 1) step
    → ((first_asked font waivers from first < next) ⊎ (length waivers < next)) × (next - 1 ≤ first_asked font waivers from first)
waivers_begun font waivers from first glyph step next is (inl (before, none)) =
    let at : first_asked font waivers from first ≡ 0 = first_before font waivers from first (omega (arith, before, is.behind)) in
    elim is.near [
      | inl low ↦ (inl (omega (arith, at, is.first)), omega (arith, low))
      | inr less ↦ (inl (omega (arith, at, is.first)), omega (arith, less, none))
    ]
waivers_begun font waivers from first glyph step next is (inr (here, same)) =
    let at : first_asked font waivers from first ≡ first - 1 = first_at font waivers from first (omega (arith, here, is.behind)) in (
      elim is.past [ inl past ↦ inl (omega (arith, at, past, same, is.first)) | inr all ↦ inr all ],
      elim is.near [ inl low ↦ omega (arith, low) | inr less ↦ omega (arith, less, same, at) ],
    )

-- A unit that is begun, after the font or a glyph.
begun_part : (font : CheckedFont) (waivers : List Waiver) (from first glyph step passed checked : ℕ) (part : Part) → IsPartBegun font waivers glyph step part
    → length font.value.glyphs ≤ 65535 → length waivers ≤ 1048576 → from ≤ glyph + 1 → IsStart from first (glyph + 1) step
    → passed ≡ turns_before font from (glyph + 1) → (length font.value.glyphs < glyph → (passed ≡ turns_before font from (length font.value.glyphs + 1))
    × (turns_asked font waivers from first (length waivers) ≡ 0)) → checked ≡ 0 → IsPart font waivers from first (glyph + 1) passed checked part
begun_part font waivers from first glyph step passed checked (Font places) is few few_waivers begins starts passed_are over none = absurd is
begun_part font waivers from first glyph step passed checked (Glyph run) is few few_waivers begins starts passed_are over none = (
  record {
    begins = begins;
    unit_is = ap (λ g. g + 1) (sym is.glyph_is);
    font_is = is.font_is;
    runs = is.runs;
    draws = is.draws;
    passed_are = passed_are;
    few = few;
  },
  none,
)
begun_part font waivers from first glyph step passed checked (Waivers next) is few few_waivers begins starts passed_are over none =
    let begun = waivers_begun font waivers from first glyph step next is starts in
    record {
      begins = begins;
      unit_is = omega (arith, is.behind);
      first = is.first;
      within = is.within;
      passed_are = passed_are;
      begun = begun.0;
      checked_are = none ∙ sym (asked_none font waivers from first (next - 1) begun.1);
      few = few;
      few_waivers = few_waivers;
    }
begun_part font waivers from first glyph step passed checked Over is few few_waivers begins starts passed_are over none =
    (record { past = omega (arith, is); passed_are = (over is).0; few = few }, (none ∙ sym (over is).1, few_waivers))

-- The search begins with a glyph, or with the waivers.
part_begun : (font : CheckedFont) (waivers : List Waiver) (glyph step : ℕ) (part : Part) → IsPartBegun font waivers glyph step part
    → length font.value.glyphs ≤ 65535 → length waivers ≤ 1048576 → IsPart font waivers (glyph + 1) step (glyph + 1) 0 0 part
part_begun font waivers glyph step part is few few_waivers =
    begun_part font waivers (glyph + 1) step glyph step 0 0 part is few few_waivers (omega arith) (inr (refl, refl))
    (sym (turns_none font (glyph + 1) (glyph + 1) (omega arith)))
    (λ over. (
      sym (turns_none font (glyph + 1) (length font.value.glyphs + 1) (omega (arith, over))),
      asked_none font waivers (glyph + 1) step (length waivers) (omega (arith, first_behind font waivers (glyph + 1) step (omega (arith, over)))),
    )) refl

-- It goes on to the next unit.
sum_next : (font : CheckedFont) (from unit passed turns : ℕ) → IsOpen font from unit passed → turns ≡ turns_of_unit font unit
    → passed + turns ≡ turns_before font from (unit + 1)
sum_next font from unit passed turns still done =
    ap (λ n. n + turns) still.passed_are ∙ ap (λ n. turns_before font from unit + n) done ∙ sym (turns_next font from unit still.begins)

pub part_next : (font : CheckedFont) (waivers : List Waiver) (from first unit passed checked : ℕ) (old new : Part) → IsPart font waivers from first unit passed
    checked old → is_over old ≡ false → IsDone font waivers unit old
    → IsPartBegun font waivers unit 0 new → length font.value.glyphs ≤ 65535 → length waivers ≤ 1048576 → IsPart font waivers from first (unit + 1)
    (passed + turns_in old) checked new
part_next font waivers from first unit passed checked (Font places) new is still done begun few few_waivers =
    let ongoing = open_part font waivers from first unit passed checked (Font places) is still in
    let none : 0 ≡ turns_of_unit font unit = ap (turns_of_unit font) (sym is.0.unit_is) in
    begun_part font waivers from first unit 0 (passed + 0) checked new begun few few_waivers (omega (arith, ongoing.begins))
    (inl (omega (arith, ongoing.begins), refl)) (sum_next font from unit passed 0 ongoing none)
    (λ over. absurd (omega (arith, over, is.0.unit_is))) is.1
part_next font waivers from first unit passed checked (Glyph run) new is still done begun few few_waivers =
    let ongoing = open_part font waivers from first unit passed checked (Glyph run) is still in
    let there : run.machine.glyph < length font.value.glyphs = subst (λ (f : CheckedFont). run.machine.glyph < length f.value.glyphs)
    is.0.font_is is.0.runs.there in
    begun_part font waivers from first unit 0 (passed + run.machine.counted) checked new begun few few_waivers (omega (arith, ongoing.begins))
    (inl (omega (arith, ongoing.begins), refl)) (sum_next font from unit passed run.machine.counted ongoing done)
    (λ over. absurd (omega (arith, over, is.0.unit_is, there))) is.1
part_next font waivers from first unit passed checked (Waivers next) new is still done begun few few_waivers = over new begun
  where
    sum : passed + 0 ≡ turns_before font from (length font.value.glyphs + 1)
    sum = omega arith ∙ is.passed_are ∙ ap (turns_before font from) is.unit_is

    all : checked ≡ turns_asked font waivers from first (length waivers)
    all = is.checked_are ∙ ap (turns_asked font waivers from first) (let last : next - 1 ≡ length waivers = omega (arith, is.within, done) in last)

    over : (part : Part) → IsPartBegun font waivers unit 0 part → IsPart font waivers from first (unit + 1) (passed + 0) checked part
    over (Font places) at = absurd at
    over (Glyph run) at =
        let there : run.machine.glyph < length font.value.glyphs =
        subst (λ (f : CheckedFont). run.machine.glyph < length f.value.glyphs) at.font_is at.runs.there in
        absurd (omega (arith, there, at.glyph_is, is.unit_is))
    over (Waivers other) at = absurd (omega (arith, at.behind, is.unit_is))
    over Over at = (record { past = omega (arith, at); passed_are = sum; few = few }, (all, few_waivers))
part_next font waivers from first unit passed checked Over new is still done begun few few_waivers = absurd (true≢false still)

-- It begins no later than the first reported step from a step on.
pub starts_near : (font : CheckedFont) (waivers : List Waiver) (glyph step s : ℕ) (part : Part) → IsPartBegun font waivers glyph step part → step ≤ s → 1 ≤ s
    → step_of_part part ≤ s
starts_near font waivers glyph step s (Font places) is past some = absurd is
starts_near font waivers glyph step s (Glyph run) is past some = omega (arith, is.counted, some)
starts_near font waivers glyph step s (Waivers next) is past some = elim is.near [ inl low ↦ omega (arith, low, some) | inr less ↦ omega (arith, less, past) ]
starts_near font waivers glyph step s Over is past some = omega arith

-- So few turns that no sum of them overflows.
pub few_passed : (s : Search) → IsSearch s → (s.passed ≤ 65537065537) × (s.checked ≤ 1048577048576)
few_passed s is = by_part s.part is.part_is
  where
    by_part : (part : Part) → IsPart (checked_in s) s.waivers.now s.from s.first s.unit s.passed s.checked part → (s.passed ≤ 65537065537)
        × (s.checked ≤ 1048577048576)
    by_part (Font places) at = (omega (arith, at.0.none_passed), omega (arith, at.1))
    by_part (Glyph run) at =
        let still = open_part (checked_in s) s.waivers.now s.from s.first s.unit s.passed s.checked (Glyph run) at refl in
        let few = few_before (checked_in s) s.from s.unit in
        (omega (arith, at.0.passed_are, few, still.within, at.0.few), omega (arith, at.1))
    by_part (Waivers next) at =
        let few = few_before (checked_in s) s.from s.unit in
        let asked = asked_most (checked_in s) s.waivers.now s.from s.first (next - 1) in
        (omega (arith, at.passed_are, few, at.unit_is, at.few), omega (arith, at.checked_are, asked, at.within, at.few_waivers))
    by_part Over at =
        let few = few_before (checked_in s) s.from (length s.font.now.glyphs + 1) in
        let asked = asked_most (checked_in s) s.waivers.now s.from s.first (length s.waivers.now) in
        (omega (arith, at.0.passed_are, few, at.0.few), omega (arith, at.1.0, asked, at.1.1))

-- No more than the steps up to the limit of all glyphs, and one for each; and as many for each waiver.
pub few_turns_in_all : (s : Search) → IsSearch s → s.passed + turns_in s.part + s.checked ≤ (step_limit (checked_in s) + 1) *
    (length s.font.now.glyphs + length s.waivers.now)
few_turns_in_all s is = by_part s.part is.part_is
  where
    font : CheckedFont
    font = checked_in s

    most : ℕ
    most = step_limit font + 1

    both : most * (length font.value.glyphs + length s.waivers.now) ≡ most * length font.value.glyphs + most * length s.waivers.now
    both = omega arith

    by_part : (part : Part) → IsPart font s.waivers.now s.from s.first s.unit s.passed s.checked part → s.passed + turns_in part + s.checked
        ≤ most * (length font.value.glyphs + length s.waivers.now)
    by_part (Font places) at = omega (arith, at.0.none_passed, at.1)
    by_part (Glyph run) at =
        let unit : s.unit ≡ suc run.machine.glyph = omega (arith, at.0.unit_is) in
        let passed : s.passed ≤ most * run.machine.glyph =
        subst (λ n. n ≤ most * run.machine.glyph) (sym (at.0.passed_are ∙ ap (turns_before font s.from) unit))
        (few_to_glyph most font s.from run.machine.glyph (few_in_unit font)) in
        let there : run.machine.glyph < length font.value.glyphs = subst (λ (f : CheckedFont). run.machine.glyph < length f.value.glyphs)
        at.0.font_is at.0.runs.there in
        let counted : run.machine.counted ≤ most = subst (λ (f : CheckedFont). run.machine.counted ≤ step_limit f + 1) at.0.font_is
        (omega (arith, at.0.runs.counted, few_turns (executed run.machine) run.machine.glyph)) in
        let product : most * suc run.machine.glyph ≡ most * run.machine.glyph + most = omega arith in
        let fewer : most * suc run.machine.glyph ≤ most * length font.value.glyphs = mul_mono most (suc run.machine.glyph)
        (length font.value.glyphs) (omega (arith, there)) in
        omega (arith, passed, counted, product, fewer, both, at.1)
    by_part (Waivers next) at =
        let unit : s.unit ≡ suc (length font.value.glyphs) = omega (arith, at.unit_is) in
        let passed : s.passed ≤ most * length font.value.glyphs =
        subst (λ n. n ≤ most * length font.value.glyphs) (sym (at.passed_are ∙ ap (turns_before font s.from) unit))
        (few_to_glyph most font s.from (length font.value.glyphs) (few_in_unit font)) in
        let asked : s.checked ≤ most * (next - 1) = subst (λ n. n ≤ most * (next - 1)) (sym at.checked_are)
        (asked_few font s.waivers.now s.from s.first (next - 1)) in
        let fewer : most * (next - 1) ≤ most * length s.waivers.now = mul_mono most (next - 1) (length s.waivers.now) (omega (arith, at.within)) in
        omega (arith, passed, asked, fewer, both)
    by_part Over at =
        let last : length font.value.glyphs + 1 ≡ suc (length font.value.glyphs) = omega arith in
        let passed : s.passed ≤ most * length font.value.glyphs =
        subst (λ n. n ≤ most * length font.value.glyphs) (sym (at.0.passed_are ∙ ap (turns_before font s.from) last))
        (few_to_glyph most font s.from (length font.value.glyphs) (few_in_unit font)) in
        let asked : s.checked ≤ most * length s.waivers.now = subst (λ n. n ≤ most * length s.waivers.now) (sym at.1.0)
        (asked_few font s.waivers.now s.from s.first (length s.waivers.now)) in
        omega (arith, passed, asked, both)

pub over_past : (font : CheckedFont) (waivers : List Waiver) (from first unit passed checked : ℕ) (part : Part) → IsPart font waivers from first unit passed
    checked part → is_over part ≡ true → length font.value.glyphs + 1 < unit
over_past font waivers from first unit passed checked (Font places) is over = absurd (true≢false (sym over))
over_past font waivers from first unit passed checked (Glyph run) is over = absurd (true≢false (sym over))
over_past font waivers from first unit passed checked (Waivers next) is over = absurd (true≢false (sym over))
over_past font waivers from first unit passed checked Over is over = is.0.past

-- A search that isn't over is in a unit that there is; one that is has nothing more.
pub under_way : (s : Search) → IsSearch s → is_over s.part ≡ false → s.unit ≤ length s.font.now.glyphs + 1
under_way s is still = (open_part (checked_in s) s.waivers.now s.from s.first s.unit s.passed s.checked s.part is.part_is still).within

pub none_when_over : (s : Search) → IsSearch s → is_over s.part ≡ true → TellsNoneFrom (checked_in s) s.waivers.now s.unit (step_of_part s.part)
none_when_over s is over t rule past = past_waivers (checked_in s) s.waivers.now s.unit t (number_of rule)
    (over_past (checked_in s) s.waivers.now s.from s.first s.unit s.passed s.checked s.part is.part_is over)

-- A search begins in the font, with a glyph, or with the waivers.
pub font_begun : (s : Search) (places : FontPlaces) → AreOf s.font.now s.sidebearings.now → s.from ≡ 0 → s.unit ≡ 0 → s.passed ≡ 0 → s.checked ≡ 0
    → s.part ≡ Font places → IsFontPlaces (checked_in s) places → IsSearch s
font_begun s places components begins unit passed checked part are =
    record {
      part_is = subst (λ part. IsPart (checked_in s) s.waivers.now s.from s.first s.unit s.passed s.checked part) (sym part)
          (record { begins = begins; unit_is = unit; none_passed = passed; places_are = are }, checked);
      components_are = components;
    }

pub search_begun : (s : Search) (glyph step : ℕ) → AreOf s.font.now s.sidebearings.now → s.from ≡ glyph + 1 → s.first ≡ step → s.unit ≡ glyph + 1 → s.passed ≡ 0
    → s.checked ≡ 0 → IsPartBegun (checked_in s) s.waivers.now glyph step s.part → length s.font.now.glyphs ≤ 65535 → length s.waivers.now ≤ 1048576
    → IsSearch s
search_begun s glyph step components begins first unit passed checked is few few_waivers =
    record {
      part_is = subst (λ f. IsPart (checked_in s) s.waivers.now f s.first s.unit s.passed s.checked s.part) (sym begins)
          (subst (λ f. IsPart (checked_in s) s.waivers.now (glyph + 1) f s.unit s.passed s.checked s.part) (sym first)
          (subst (λ u. IsPart (checked_in s) s.waivers.now (glyph + 1) step u s.passed s.checked s.part) (sym unit)
          (subst (λ n. IsPart (checked_in s) s.waivers.now (glyph + 1) step (glyph + 1) n s.checked s.part) (sym passed)
          (subst (λ n. IsPart (checked_in s) s.waivers.now (glyph + 1) step (glyph + 1) 0 n s.part) (sym checked)
          (part_begun (checked_in s) s.waivers.now glyph step s.part is few few_waivers)))));
      components_are = components;
    }

-- What is under way is of the font.
pub part_of_font : (font : CheckedFont) (waivers : List Waiver) (from first unit passed checked : ℕ) (part : Part) → IsPart font waivers from first unit passed
    checked part → IsOfFont font.value part
part_of_font font waivers from first unit passed checked (Font places) is = tt
part_of_font font waivers from first unit passed checked (Glyph run) (is, none) = ap (λ f. f.value) is.font_is
part_of_font font waivers from first unit passed checked (Waivers next) is = tt
part_of_font font waivers from first unit passed checked Over is = tt
