-- What a walk has in hand: the next of its rules, the next place, and that there is none.
-- The rules in hand that are above the mark's are still to be returned; where there is none, the next place comes, or the end.
use Rattle.t1_io.specs.Devices.{one_more}
use Rattle.std.proofs.Common.{◌≡◌, ◌⊎◌, ℕ, suc, ◌+◌, ◌-◌, ◌*◌, ◌<◌, ◌≤◌, inl, inr, true, false, true≢false, List, length, refl, sym, ap, subst, ◌∙◌, arith, cond}
use Rattle.std.proofs.lemmas.Bool.{cases_lt, eq-eqb, le-leb, lt-leb, ne_eqb}
use Rattle.t1_report.specs.Private.Units.{executed}
use Rattle.t1_report.specs.Checked.{CheckedFont}
use Rattle.t1_rules.specs.declared.rule.Rule.{Rule}
use Rattle.t1_rules.specs.Book.{number_of}
use Rattle.t1_rules.specs.Mask.{HasNoneAbove, IsLeastAbove, has}
use Rattle.t1_rules.proofs.Lemmas.Book.{in_book, one_rule}
use Rattle.t1_report.specs.declared.faults.Fault.{Fault}
use Rattle.t1_report.specs.declared.marks.Mark.{Mark}
use Rattle.t1_report.specs.declared.walk.found.Found.{Found}
use Rattle.t1_report.specs.declared.walk.search.Part.{Part}
use Rattle.t1_report.specs.declared.walk.search.Part.TheVariants.{Font, Glyph, Over, Waivers}
use Rattle.t1_report.specs.declared.walk.search.Search.{Search}
use Rattle.t1_report.specs.Private.Courses.{AreToBeFound, HasInHand, IsFloor, IsInHand, turns_so_far}
use Rattle.t1_report.specs.Faults.{FaultValue, fault_value}
use Rattle.t1_report.specs.Reports.{Comes, Place, path_in, IsTold, is_told, spot, spot_of}
use Rattle.t1_report.specs.Private.Searches.{Aim, HasNoneFrom, IsDone, aim_of, checked_in, IsFirstPlace, IsFirstTold, IsFrom, IsPart, IsSearch, TellsNoneFrom, step_of_part, turns_in}
use Rattle.t1_report.specs.UnitFaults.{HasNoneLaterInUnit, IsNextInUnit, turns_of_whole}
use Rattle.t1_report.specs.Walks.{HasNoneLater, IsLater, IsNext, mark_of, turns_at, turns_before, turns_asked, turns_in_all, turns_of_unit}
use Rattle.t1_report.proofs.Fronts.{comes_on}
use Rattle.t1_report.proofs.Units.{few_steps, turns_none}
use Rattle.t1_report.specs.Waivers.{Waiver}

-- ---- the beginning

pub hand_begun : (s : Search) (found : Found) (mark : Mark) → ((n : ℕ) → has found.rules n ≡ false) → s.unit ≡ mark.unit
    → ((p : Place) → IsTold (checked_in s) s.waivers.now p → p.unit ≡ mark.unit → mark.step ≤ p.step → step_of_part s.part ≤ p.step) → HasInHand s found mark
hand_begun s found mark none unit behind =
    record {
      broken = λ n has_it. absurd (true≢false (sym has_it ∙ none n));
      path = λ n has_it. absurd (true≢false (sym has_it ∙ none n));
      ahead = λ n has_it. absurd (true≢false (sym has_it ∙ none n));
      complete = λ p is later. inr (from p is later);
    }
  where
    from : (p : Place) → IsTold (checked_in s) s.waivers.now p → IsLater mark p → IsFrom s.unit (step_of_part s.part) p.unit p.step
    from p is (inl less) = inl (omega (arith, less, unit))
    from p is (inr (same, inl less)) = inr (unit ∙ same, behind p is (sym same) (omega (arith, less)))
    from p is (inr (same, inr (here, above))) = inr (unit ∙ same, behind p is (sym same) (omega (arith, here)))

-- ---- the next rule in hand

abbrev place : ℕ → ℕ → Rule → Place
place u t r = record { unit = u; step = t; rule = r }

in_hand_later : (s : Search) (found : Found) (mark : Mark) (floor : ℕ) (rule : Rule) → HasInHand s found mark → IsFloor mark found.unit found.step floor
    → IsLeastAbove found.rules floor rule
    → (p : Place) → IsTold (checked_in s) s.waivers.now p → IsLater mark p → (place found.unit found.step rule ≡ p)
    ⊎ Comes (spot found.unit found.step (number_of rule)) (spot_of p)
in_hand_later s found mark floor rule hand is_floor least p is later = by_kind (hand.complete p is later)
  where
    ordered : IsInHand found p → (place found.unit found.step rule ≡ p) ⊎ Comes (spot found.unit found.step (number_of rule)) (spot_of p)
    ordered (unit, step, there) =
        let above : floor < number_of p.rule =
        is_floor.below (number_of p.rule) (in_book p.rule).0
        (subst (λ u. Comes (spot mark.unit mark.step mark.rule) (spot u found.step (number_of p.rule))) unit
        (subst (λ t. Comes (spot mark.unit mark.step mark.rule) (spot p.unit t (number_of p.rule))) step later)) in
        elim (cases_lt (number_of p.rule) (number_of rule)) [
          | inl less ↦ absurd (true≢false (sym there ∙ least.least (number_of p.rule) above less))
          | inr past ↦ elim (cases_lt (number_of rule) (number_of p.rule)) [
            | inl more ↦ inr (inr (sym unit, inr (sym step, more)))
            | inr near ↦ inl (ap (λ u. place u found.step rule) (sym unit) ∙ ap (λ t. place p.unit t rule) (sym step)
                ∙ ap (λ r. place p.unit p.step r) (one_rule rule p.rule (omega (arith, past, near))))
          ]
        ]

    beyond : IsFrom s.unit (step_of_part s.part) p.unit p.step → (place found.unit found.step rule ≡ p)
        ⊎ Comes (spot found.unit found.step (number_of rule)) (spot_of p)
    beyond from = inr (on (hand.ahead (number_of rule) least.is_in) from)
      where
        on : (s.unit ≡ found.unit) × (step_of_part s.part ≡ found.step + 1) → IsFrom s.unit (step_of_part s.part) p.unit p.step
            → Comes (spot found.unit found.step (number_of rule)) (spot_of p)
        on (unit, step) (inl less) = inl (omega (arith, less, unit))
        on (unit, step) (inr (same, past)) = inr (sym unit ∙ same, inl (omega (arith, past, step)))

    by_kind : IsInHand found p ⊎ IsFrom s.unit (step_of_part s.part) p.unit p.step → (place found.unit found.step rule ≡ p)
        ⊎ Comes (spot found.unit found.step (number_of rule)) (spot_of p)
    by_kind (inl in_hand) = ordered in_hand
    by_kind (inr from) = beyond from

abbrev value : ℕ → ℕ → ℕ → Rule → List ℕ → FaultValue
value n u t r path = record { number = n; unit = u; step = t; rule = r; path = path }

next_value : (s : Search) (found : Found) (mark : Mark) (floor : ℕ) (rule : Rule) → HasInHand s found mark → IsFloor mark found.unit found.step floor
    → IsLeastAbove found.rules floor rule
    → IsNext (checked_in s) s.waivers.now mark (value (one_more mark.number) found.unit found.step rule found.path.items)
next_value s found mark floor rule hand is_floor least =
    record {
      violation = record { violated = hand.broken (number_of rule) least.is_in; path = hand.path (number_of rule) least.is_in };
      later = is_floor.above (number_of rule) least.greater (in_book rule).1;
      first = λ p is later. in_hand_later s found mark floor rule hand is_floor least p is later;
      number = refl;
    }

-- The fault of the next rule in hand is the next one, and its mark leaves the rest.
pub record IsFaultOf (found : Found) (mark : Mark) (rule : Rule) (fault : Fault) : Type 0 where
  pub number_is : fault.number ≡ one_more mark.number
  pub unit_is : fault.unit ≡ found.unit
  pub step_is : fault.step ≡ found.step
  pub rule_is : fault.rule ≡ rule
  pub path_is : fault.path.items ≡ found.path.items

value_is : (found : Found) (mark : Mark) (rule : Rule) (fault : Fault) → IsFaultOf found mark rule fault → value (one_more mark.number) found.unit
    found.step rule found.path.items ≡ fault_value fault
value_is found mark rule fault is =
    ap (λ n. value n found.unit found.step rule found.path.items) (sym is.number_is)
    ∙ ap (λ u. value fault.number u found.step rule found.path.items) (sym is.unit_is)
    ∙ ap (λ t. value fault.number fault.unit t rule found.path.items) (sym is.step_is)
    ∙ ap (λ r. value fault.number fault.unit fault.step r found.path.items) (sym is.rule_is)
    ∙ ap (λ path. value fault.number fault.unit fault.step fault.rule path) (sym is.path_is)

pub next_fault : (s : Search) (found : Found) (mark : Mark) (floor : ℕ) (rule : Rule) (fault : Fault) → HasInHand s found mark
    → IsFloor mark found.unit found.step floor → IsLeastAbove found.rules floor rule
    → IsFaultOf found mark rule fault → IsNext (checked_in s) s.waivers.now mark (fault_value fault)
next_fault s found mark floor rule fault hand is_floor least is =
    subst (λ v. IsNext (checked_in s) s.waivers.now mark v) (value_is found mark rule fault is) (next_value s found mark floor rule hand is_floor least)

pub hand_marked : (s : Search) (found : Found) (mark : Mark) (fault : FaultValue) → HasInHand s found mark → IsNext (checked_in s) s.waivers.now mark fault
    → HasInHand s found (mark_of fault)
hand_marked s found mark fault hand next =
    record {
      broken = hand.broken;
      path = hand.path;
      ahead = hand.ahead;
      complete = λ p is later. hand.complete p is (comes_on mark.unit mark.step mark.rule fault.unit fault.step (number_of fault.rule) p.unit p.step
          (number_of p.rule) next.later later);
    }

-- ---- turns

turns_in_unit : (font : CheckedFont) (waivers : List Waiver) (from first unit passed checked u t : ℕ) (part : Part) → IsPart font waivers from first unit passed
    checked part → unit ≡ u → step_of_part part ≡ t + 1 → passed + turns_in part + checked ≡ turns_at font waivers from first u t
turns_in_unit font waivers from first unit passed checked u t (Font places) (is, none) at step = omega (arith, is.none_passed, none)
    ∙ ap (λ v. turns_at font waivers from first v t) (sym is.unit_is ∙ at)
turns_in_unit font waivers from first unit passed checked u t (Glyph run) (is, none) at step =
    let glyph : suc run.machine.glyph ≡ u = omega (arith, is.unit_is, at) in
    let counted : passed + run.machine.counted + checked ≡ passed + t = omega (arith, step, none) in
    let there : run.machine.glyph < length font.value.glyphs =
    subst (λ (f : CheckedFont). run.machine.glyph < length f.value.glyphs) is.font_is is.runs.there in
    counted
    ∙ ap (λ n. n + t) (is.passed_are ∙ ap (turns_before font from) (at ∙ sym glyph))
    ∙ ap (λ b. turns_before font from (suc run.machine.glyph) + cond b (turns_asked font waivers from first t) t)
    (sym (ne_eqb run.machine.glyph (length font.value.glyphs) (λ e. omega (arith, e, there))))
    ∙ ap (λ v. turns_at font waivers from first v t) glyph
turns_in_unit font waivers from first unit passed checked u t (Waivers next) is at step =
    let behind : suc (length font.value.glyphs) ≡ u = omega (arith, is.unit_is, at) in
    let last : next - 1 ≡ t = omega (arith, step) in
    let asked : checked ≡ turns_asked font waivers from first t = is.checked_are ∙ ap (turns_asked font waivers from first) last in
    let sum : passed + 0 + checked ≡ passed + turns_asked font waivers from first t = omega (arith, asked) in
    sum
    ∙ ap (λ n. n + turns_asked font waivers from first t) (is.passed_are ∙ ap (turns_before font from) (at ∙ sym behind))
    ∙ ap (λ b. turns_before font from (suc (length font.value.glyphs)) + cond b (turns_asked font waivers from first t) t)
    (sym (eq-eqb (length font.value.glyphs) (length font.value.glyphs) refl))
    ∙ ap (λ v. turns_at font waivers from first v t) behind
turns_in_unit font waivers from first unit passed checked u t Over is at step = absurd (omega (arith, step))

pub turns_found : (s : Search) (found : Found) (mark : Mark) (rule : Rule) (fault : Fault) → IsSearch s → HasInHand s found mark
    → has found.rules (number_of rule) ≡ true → IsFaultOf found mark rule fault
    → turns_so_far s ≡ turns_at (checked_in s) s.waivers.now s.from s.first fault.unit fault.step
turns_found s found mark rule fault search hand there is =
    let ahead = hand.ahead (number_of rule) there in
    turns_in_unit (checked_in s) s.waivers.now s.from s.first s.unit s.passed s.checked fault.unit fault.step s.part search.part_is (ahead.0 ∙ sym is.unit_is)
    (ahead.1 ∙ ap (λ t. t + 1) (sym is.step_is))

turns_past : (font : CheckedFont) (waivers : List Waiver) (from first unit passed checked : ℕ) (part : Part) → IsPart font waivers from first unit passed
    checked part → length font.value.glyphs + 1 < unit → passed + turns_in part + checked ≡ turns_in_all font waivers from first
turns_past font waivers from first unit passed checked (Font places) (is, none) past = absurd (omega (arith, is.unit_is, past))
turns_past font waivers from first unit passed checked (Glyph run) (is, none) past =
    let there : run.machine.glyph < length font.value.glyphs =
    subst (λ (f : CheckedFont). run.machine.glyph < length f.value.glyphs) is.font_is is.runs.there in
    absurd (omega (arith, is.unit_is, past, there))
turns_past font waivers from first unit passed checked (Waivers next) is past = absurd (omega (arith, is.unit_is, past))
turns_past font waivers from first unit passed checked Over (is, asked) past = omega (arith, is.passed_are, asked.0)

pub turns_over : (s : Search) → IsSearch s → length s.font.now.glyphs + 1 < s.unit → turns_so_far s ≡ turns_in_all (checked_in s) s.waivers.now s.from s.first
turns_over s search past = turns_past (checked_in s) s.waivers.now s.from s.first s.unit s.passed s.checked s.part search.part_is past

-- ---- turns of one unit

whole_unit : (font : CheckedFont) (waivers : List Waiver) (unit : ℕ) → unit ≤ length font.value.glyphs
    → turns_of_whole font waivers unit ≡ turns_of_unit font unit
whole_unit font waivers unit within =
    ap (λ b. cond b (turns_of_unit font unit) (turns_asked font waivers unit 0 (length waivers))) (le-leb unit (length font.value.glyphs) within)

whole_waivers : (font : CheckedFont) (waivers : List Waiver) (unit first : ℕ) → length font.value.glyphs < unit → first ≡ 0
    → turns_of_whole font waivers unit ≡ turns_asked font waivers unit first (length waivers)
whole_waivers font waivers unit first behind none =
    ap (λ b. cond b (turns_of_unit font unit) (turns_asked font waivers unit 0 (length waivers))) (lt-leb unit (length font.value.glyphs) behind)
    ∙ ap (λ (f : ℕ). turns_asked font waivers unit f (length waivers)) (sym none)

turns_of_part : (font : CheckedFont) (waivers : List Waiver) (first unit passed checked : ℕ) (part : Part)
    → IsPart font waivers unit first unit passed checked part → IsDone font waivers unit part → first ≡ 0
    → passed + turns_in part + checked ≡ turns_of_whole font waivers unit
turns_of_part font waivers first unit passed checked (Font places) (is, none) done start =
    let never : passed + 0 + checked ≡ 0 = omega (arith, is.none_passed, none) in
    let within : unit ≤ length font.value.glyphs = omega (arith, is.unit_is) in
    never ∙ ap (turns_of_unit font) (sym is.unit_is) ∙ sym (whole_unit font waivers unit within)
turns_of_part font waivers first unit passed checked (Glyph run) (is, none) done start =
    let there : run.machine.glyph < length font.value.glyphs =
    subst (λ (f : CheckedFont). run.machine.glyph < length f.value.glyphs) is.font_is is.runs.there in
    let before : turns_before font unit unit ≡ 0 = turns_none font unit unit (omega arith) in
    let sum : passed + run.machine.counted + checked ≡ turns_of_unit font unit = omega (arith, is.passed_are, before, none, done) in
    let within : unit ≤ length font.value.glyphs = omega (arith, is.unit_is, there) in
    sum ∙ sym (whole_unit font waivers unit within)
turns_of_part font waivers first unit passed checked (Waivers next) is done start =
    let before : turns_before font unit unit ≡ 0 = turns_none font unit unit (omega arith) in
    let last : next - 1 ≡ length waivers = omega (arith, is.within, done) in
    let sum : passed + 0 + checked ≡ turns_asked font waivers unit first (next - 1) = omega (arith, is.passed_are, before, is.checked_are) in
    let behind : length font.value.glyphs < unit = omega (arith, is.unit_is) in
    sum ∙ ap (turns_asked font waivers unit first) last ∙ sym (whole_waivers font waivers unit first behind start)
turns_of_part font waivers first unit passed checked Over (is, asked) done start =
    let before : turns_before font unit (length font.value.glyphs + 1) ≡ 0 =
    turns_none font unit (length font.value.glyphs + 1) (omega (arith, is.past)) in
    let sum : passed + 0 + checked ≡ turns_asked font waivers unit first (length waivers) = omega (arith, is.passed_are, before, asked.0) in
    let behind : length font.value.glyphs < unit = omega (arith, is.past) in
    sum ∙ sym (whole_waivers font waivers unit first behind start)

-- A search that began with the unit and has done with it.
pub turns_of_done : (s new : Search) → IsSearch new → aim_of new ≡ aim_of s → new.unit ≡ s.unit → s.from ≡ s.unit → s.first ≡ 0
    → IsDone (checked_in s) s.waivers.now s.unit new.part → turns_so_far new ≡ turns_of_whole (checked_in s) s.waivers.now s.unit
turns_of_done s new search aim unit begins first done =
    turns_of_part (checked_in s) s.waivers.now s.first s.unit new.passed new.checked new.part
    (subst (λ (f : ℕ). IsPart (checked_in s) s.waivers.now f s.first s.unit new.passed new.checked new.part) begins
    (subst (λ (u : ℕ). IsPart (checked_in s) s.waivers.now s.from s.first u new.passed new.checked new.part) unit
    (subst (λ (a : Aim). IsPart a.font a.waivers a.from a.first new.unit new.passed new.checked new.part) aim search.part_is))) done first

-- ---- the next place

-- No rule in hand is above the floor.
pub to_be_found : (s : Search) (found : Found) (mark : Mark) (floor : ℕ) → HasInHand s found mark → IsFloor mark found.unit found.step floor
    → HasNoneAbove found.rules floor → AreToBeFound s mark
to_be_found s found mark floor hand is_floor none p is later = by_kind (hand.complete p is later)
  where
    by_kind : IsInHand found p ⊎ IsFrom s.unit (step_of_part s.part) p.unit p.step → IsFrom s.unit (step_of_part s.part) p.unit p.step
    by_kind (inr from) = from
    by_kind (inl (unit, step, there)) =
        absurd (true≢false (sym there ∙ none (number_of p.rule)
        (is_floor.below (number_of p.rule) (in_book p.rule).0
        (subst (λ u. Comes (spot mark.unit mark.step mark.rule) (spot u found.step (number_of p.rule))) unit
        (subst (λ t. Comes (spot mark.unit mark.step mark.rule) (spot p.unit t (number_of p.rule))) step later))) (in_book p.rule).1))

pub hand_found : (s new : Search) (place : Found) (mark : Mark) → AreToBeFound s mark → checked_in new ≡ checked_in s → new.waivers.now ≡ s.waivers.now
    → IsFirstPlace (checked_in s) s.waivers.now s.unit (step_of_part s.part) place
    → (new.unit ≡ place.unit) × (step_of_part new.part ≡ place.step + 1) → HasInHand new place mark
hand_found s new place mark ahead font waivers first (unit, step) =
    record {
      broken = λ n there. ap (λ f. is_told f new.waivers.now place.unit place.step n) font ∙ ap (λ w. is_told (checked_in s) w place.unit place.step n) waivers
          ∙ sym (first.rules n) ∙ there;
      path = λ n there. first.path ∙ ap (λ f. path_in f.value place.unit place.step) (sym font);
      ahead = λ n there. (unit, step);
      complete = λ p is later. found_or_later p (same p is) (first.first p (same p is) (ahead p (same p is) later));
    }
  where
    same : (p : Place) → IsTold (checked_in new) new.waivers.now p → IsTold (checked_in s) s.waivers.now p
    same p is = subst (λ w. IsTold (checked_in s) w p) waivers (subst (λ f. IsTold f new.waivers.now p) font is)

    found_or_later : (p : Place) → IsTold (checked_in s) s.waivers.now p → IsFrom place.unit place.step p.unit p.step → IsInHand place p
        ⊎ IsFrom new.unit (step_of_part new.part) p.unit p.step
    found_or_later p is (inl less) = inr (inl (omega (arith, less, unit)))
    found_or_later p is (inr (at, past)) =
        elim (cases_lt place.step p.step) [
          | inl more ↦ inr (inr (unit ∙ at, omega (arith, more, step)))
          | inr near ↦
              let here : p.step ≡ place.step = omega (arith, past, near) in
              inl (
                sym at,
                here,
                first.rules (number_of p.rule) ∙ ap (λ u. is_told (checked_in s) s.waivers.now u place.step (number_of p.rule)) at
                    ∙ ap (λ t. is_told (checked_in s) s.waivers.now p.unit t (number_of p.rule)) (sym here) ∙ is,
              )
        ]

-- The search found nothing more.
pub hand_none : (s : Search) (mark : Mark) → AreToBeFound s mark → HasNoneFrom (checked_in s) s.waivers.now s.unit (step_of_part s.part)
    → HasNoneLater (checked_in s) s.waivers.now mark
hand_none s mark ahead over p is later = over p is (ahead p is later)

pub hand_empty : (s : Search) (found : Found) (mark : Mark) → ((n : ℕ) → has found.rules n ≡ false) → HasNoneLater (checked_in s) s.waivers.now mark
    → HasInHand s found mark
hand_empty s found mark none over =
    record {
      broken = λ n has_it. absurd (true≢false (sym has_it ∙ none n));
      path = λ n has_it. absurd (true≢false (sym has_it ∙ none n));
      ahead = λ n has_it. absurd (true≢false (sym has_it ∙ none n));
      complete = λ p is later. absurd (over p is later);
    }

-- ---- one unit

-- The next fault is the next one of its unit.
pub next_of_unit : (font : CheckedFont) (waivers : List Waiver) (unit : ℕ) (mark : Mark) (fault : FaultValue) → IsNext font waivers mark fault
    → fault.unit ≡ unit → IsNextInUnit font waivers unit mark fault
next_of_unit font waivers unit mark fault next at =
    record {
      violation = record { violated = (at, next.violation.violated); path = next.violation.path };
      later = next.later;
      first = λ p is later. next.first p is.1 later;
      number = next.number;
    }

-- The search found nothing more in its unit.
pub none_in_unit : (s : Search) (mark : Mark) → AreToBeFound s mark → TellsNoneFrom (checked_in s) s.waivers.now s.unit (step_of_part s.part)
    → HasNoneLaterInUnit (checked_in s) s.waivers.now s.unit mark
none_in_unit s mark ahead quiet p (at, is) later = over (ahead p is later)
  where
    over : IsFrom s.unit (step_of_part s.part) p.unit p.step → ⊥
    over (inl less) = omega (arith, less, at)
    over (inr (same, past)) = true≢false (sym is ∙ ap (λ u. is_told (checked_in s) s.waivers.now u p.step (number_of p.rule)) at
        ∙ quiet p.step p.rule past)

pub hand_done : (s new : Search) (found : Found) (mark : Mark) → ((n : ℕ) → has found.rules n ≡ false) → AreToBeFound s mark → checked_in new ≡ checked_in s
    → new.waivers.now ≡ s.waivers.now → new.unit ≡ s.unit → TellsNoneFrom (checked_in s) s.waivers.now s.unit (step_of_part s.part) → HasInHand new found mark
hand_done s new found mark none ahead font waivers unit quiet =
    record {
      broken = λ n has_it. absurd (true≢false (sym has_it ∙ none n));
      path = λ n has_it. absurd (true≢false (sym has_it ∙ none n));
      ahead = λ n has_it. absurd (true≢false (sym has_it ∙ none n));
      complete = λ p is later. inr (inl (behind p (same p is) (ahead p (same p is) later)));
    }
  where
    same : (p : Place) → IsTold (checked_in new) new.waivers.now p → IsTold (checked_in s) s.waivers.now p
    same p is = subst (λ w. IsTold (checked_in s) w p) waivers (subst (λ f. IsTold f new.waivers.now p) font is)

    behind : (p : Place) → IsTold (checked_in s) s.waivers.now p → IsFrom s.unit (step_of_part s.part) p.unit p.step → new.unit < p.unit
    behind p is (inl less) = omega (arith, less, unit)
    behind p is (inr (at, past)) = absurd (true≢false (sym is ∙ ap (λ u. is_told (checked_in s) s.waivers.now u p.step (number_of p.rule)) (sym at)
        ∙ quiet p.step p.rule past))

-- ---- the measure

steps_of_part : (font : CheckedFont) (waivers : List Waiver) (from first unit passed checked : ℕ) (part : Part) → IsPart font waivers from first unit passed
    checked part → step_of_part part ≤ 1800000
steps_of_part font waivers from first unit passed checked (Font places) (is, none) = omega (arith, is.places_are.key, is.places_are.index)
steps_of_part font waivers from first unit passed checked (Glyph run) (is, none) =
    omega (arith, few_steps (executed run.machine) run.machine.glyph run.machine.counted is.runs.counted)
steps_of_part font waivers from first unit passed checked (Waivers next) is = omega (arith, is.within, is.few_waivers)
steps_of_part font waivers from first unit passed checked Over is = omega arith

pub fewer_places : (s new : Search) (place : Found) → IsSearch s → checked_in new ≡ checked_in s → IsFirstPlace (checked_in s) s.waivers.now s.unit
    (step_of_part s.part) place → (new.unit ≡ place.unit) × (step_of_part new.part ≡ place.step + 1)
    → (length new.font.now.glyphs + 2 - new.unit) * 2000000 + (2000000 - step_of_part new.part) < (length s.font.now.glyphs + 2 - s.unit) *
    2000000 + (2000000 - step_of_part s.part)
fewer_places s new place search font first (unit, step) =
    let few : step_of_part s.part ≤ 1800000 = steps_of_part (checked_in s) s.waivers.now s.from s.first s.unit s.passed s.checked s.part search.part_is in
    let count : length new.font.now.glyphs ≡ length s.font.now.glyphs = ap (λ (f : CheckedFont). length f.value.glyphs) font in
    by_place few count first.behind
  where
    by_place : step_of_part s.part ≤ 1800000 → length new.font.now.glyphs ≡ length s.font.now.glyphs → IsFrom s.unit (step_of_part s.part) place.unit place.step
        → (length new.font.now.glyphs + 2 - new.unit) * 2000000 + (2000000 - step_of_part new.part) < (length s.font.now.glyphs + 2 - s.unit) *
        2000000 + (2000000 - step_of_part s.part)
    by_place few count (inl less) = omega (arith, few, count, less, unit, step, first.within)
    by_place few count (inr (same, past)) = omega (arith, few, count, same, past, unit, step, first.within)

pub fewer_steps : (s new : Search) (place : Found) → IsSearch s → IsFirstTold (checked_in s) s.waivers.now s.unit (step_of_part s.part) place
    → step_of_part new.part ≡ place.step + 1 → 2000000 - step_of_part new.part < 2000000 - step_of_part s.part
fewer_steps s new place search first step =
    let few : step_of_part s.part ≤ 1800000 = steps_of_part (checked_in s) s.waivers.now s.from s.first s.unit s.passed s.checked s.part search.part_is in
    omega (arith, few, first.behind, step)
