-- Waivers that are written fault by fault, each once.
use Rattle.std.proofs.Common.{◌≡◌, ◌≤◌, ◌<◌, ℕ, ◌+◌, ◌-◌, ◌==◌, ◌&&◌, ◌||◌, not, if◌then◌else◌, Bool, true, false, true≢false, Option, Some, None, List, [], ◌∷◌, ◌++◌, codes, length, map, inl, inr, refl, sym, ap, subst, ◌∙◌, arith, append-nil}
use Rattle.std.proofs.lemmas.Bool.{and_parts, cases_Bool, eq-eqb, eqb-true}
use Rattle.std.proofs.lemmas.Bool.Decides.{nat_tests}
use Rattle.std.proofs.lemmas.Grind.{flat_map-append}
use Rattle.std.proofs.lemmas.List.Elements.{filter-append}
use Rattle.std.proofs.lemmas.List.Folds.{list_any-append}
use Rattle.std.proofs.lemmas.List.{map-append}
use Rattle.t1_font.proofs.Tables.{name_exact}
use Rattle.t1_font.specs.Fonts.{FontValue, glyph_name}
use Rattle.t1_font.specs.Keys.{same_name}
use Rattle.t1_lines.specs.Lines.{FaultLineValue, line_in, place_in, waiver_in}
use Rattle.t1_report.proofs.GivenFaults.{IsGiven, none_given, one_given}
use Rattle.t1_many.specs.Verdicts.{told_faults}
use Rattle.t1_many.specs.WrittenWaivers.{waivers_behind, waivers_of_lines, waivers_text, with_place}
use Rattle.t1_report.specs.Checked.{CheckedFont}
use Rattle.t1_report.specs.Faults.{FaultValue}
use Rattle.t1_report.specs.Laws.WaivedFaults.{HasNoNameTwice}
use Rattle.t1_report.specs.Laws.WaiverLines.{waiver_line}
use Rattle.t1_report.specs.Waivers.{Waiver, is_waived, with_waiver}
use Rattle.t1_report.specs.Walks.{IsNext, first_mark, mark_of}
use Rattle.t1_report.specs.declared.marks.Mark.{Mark}
use Rattle.t1_rules.specs.Book.{number_of}
use Rattle.t1_rules.specs.Mask.{has}
use Rattle.t1_rules.specs.declared.mask.Mask.{Mask}
use Rattle.t1_rules.specs.declared.rule.Rule.{Rule}
use Rattle.t1_waiving.specs.GlyphLines.{is_in_glyph}
use Rattle.t1_waiving.specs.Private.Written.{ended_line, line_unless, waiver_at, was_written}
use Rattle.t1_waiving.specs.Reports.{report_text, report_waivers}

-- ---- one waiver more

text-push : (waivers : List Waiver) (w : Waiver)
    → waivers_text (with_waiver waivers w) ≡ waivers_text waivers ++ line_unless (is_waived waivers w.0 (number_of w.1)) w
text-push waivers w = go (is_waived waivers w.0 (number_of w.1))
  where
    go : (b : Bool) → waivers_text (if b then waivers else waivers ++ w ∷ []) ≡ waivers_text waivers ++ line_unless b w
    go true = sym (append-nil (waivers_text waivers))
    go false =
        flat_map-append (λ (v : Waiver). waiver_line v ++ codes "\n") waivers (w ∷ [])
        ∙ ap (λ t. waivers_text waivers ++ t) (append-nil (ended_line w))

or_false : (b : Bool) → (b || false) ≡ b
or_false true = refl
or_false false = refl

or_itself : (a b : Bool) → (b ≡ true → a ≡ true) → a ≡ (a || b)
or_itself true b is = refl
or_itself false true is = is refl
or_itself false false is = refl

-- which pairs are waived then
pub waived-push : (waivers : List Waiver) (w : Waiver) (name : List ℕ) (n : ℕ)
    → is_waived (with_waiver waivers w) name n ≡ (is_waived waivers name n || (same_name name w.0 && n == number_of w.1))
waived-push waivers w name n = go (is_waived waivers w.0 (number_of w.1)) refl
  where
    go : (b : Bool) → is_waived waivers w.0 (number_of w.1) ≡ b
        → is_waived (if b then waivers else waivers ++ w ∷ []) name n ≡ (is_waived waivers name n || (same_name name w.0 && n == number_of w.1))
    go true there = or_itself (is_waived waivers name n) (same_name name w.0 && n == number_of w.1) (λ both.
        let parts = and_parts (same_name name w.0) (n == number_of w.1) both in
        let names : name ≡ w.0 = name_exact.exact name w.0 parts.0 in
        let numbers : n ≡ number_of w.1 = eqb-true n (number_of w.1) parts.1 in
        rw (names, numbers) there)
    go false new =
        list_any-append (λ (v : Waiver). same_name name v.0 && n == number_of v.1) waivers (w ∷ [])
        ∙ ap (λ b. is_waived waivers name n || b) (or_false (same_name name w.0 && n == number_of w.1))

-- ---- one line more

behind-push : (waivers : List Waiver) (lines : List FaultLineValue) (l : FaultLineValue)
    → waivers_behind waivers (lines ++ l ∷ []) ≡ with_place (waivers_behind waivers lines) l.place l.rule
behind-push waivers [] l = refl
behind-push waivers (k ∷ lines) l = behind-push (with_place waivers k.place k.rule) lines l

aside : (waivers : List Waiver) (waived : Option Waiver) (rule : Rule) → with_place waivers (waiver_in waived) rule ≡ waivers
aside waivers None rule = refl
aside waivers (Some w) rule = refl

not_true : (b : Bool) → not b ≡ true → b ≡ false
not_true true is = let no : false ≡ true = is in cc
not_true false is = refl

pub glyph_bounds : (font : FontValue) (fault : FaultValue) → is_in_glyph font fault ≡ true → fault.unit ≤ length font.glyphs + 1
    → (1 ≤ fault.unit) × (fault.unit ≤ length font.glyphs)
glyph_bounds font fault is at =
    let parts = and_parts (not (fault.unit == 0)) (not (fault.unit == length font.glyphs + 1)) is in
    let first = not_true (fault.unit == 0) parts.0 in
    let end = not_true (fault.unit == length font.glyphs + 1) parts.1 in
    (grind (arith, nat_tests, first), grind (arith, nat_tests, end, at))

module _ (font : FontValue) (waivers : List Waiver) (so_far : List Waiver) (fault : FaultValue) where
  pub place_in_glyph : is_in_glyph font fault ≡ true → with_place so_far (place_in font waivers fault) fault.rule ≡ with_waiver so_far (waiver_at font fault)
  place_in_glyph is =
      let parts = and_parts (not (fault.unit == 0)) (not (fault.unit == length font.glyphs + 1)) is in
      rw (not_true (fault.unit == 0) parts.0, not_true (fault.unit == length font.glyphs + 1) parts.1) refl

  pub place_outside : is_in_glyph font fault ≡ false → with_place so_far (place_in font waivers fault) fault.rule ≡ so_far
  place_outside is = go (fault.unit == 0) (fault.unit == length font.glyphs + 1) refl refl is
    where
      go : (a b : Bool) → (fault.unit == 0) ≡ a → (fault.unit == length font.glyphs + 1) ≡ b → (not a && not b) ≡ false
          → with_place so_far (place_in font waivers fault) fault.rule ≡ so_far
      go true b first end out = rw first refl
      go false true first end out = rw (first, end) (aside so_far _ fault.rule)
      go false false first end out = absurd (true≢false out)

module _ (rules : Mask) (font : FontValue) (waivers : List Waiver) (faults : List FaultValue) (fault : FaultValue) where
  told-push : (b : Bool) → has rules (number_of fault.rule) ≡ b
      → told_faults rules (faults ++ fault ∷ []) ≡ told_faults rules faults ++ (if b then fault ∷ [] else [])
  told-push b is =
      filter-append (λ (f : FaultValue). has rules (number_of f.rule)) faults (fault ∷ [])
      ∙ ap (λ (c : Bool). told_faults rules faults ++ (if c then fault ∷ [] else [])) is

  report-told : has rules (number_of fault.rule) ≡ true → report_waivers rules font waivers (faults ++ fault ∷ [])
      ≡ with_place (report_waivers rules font waivers faults) (place_in font waivers fault) fault.rule
  report-told is =
      ap (λ (fs : List FaultValue). waivers_of_lines (map (line_in font waivers) fs)) (told-push true is)
      ∙ ap waivers_of_lines (map-append (line_in font waivers) (told_faults rules faults) (fault ∷ []))
      ∙ behind-push [] (map (line_in font waivers) (told_faults rules faults)) (line_in font waivers fault)

  report-left : has rules (number_of fault.rule) ≡ false
      → report_waivers rules font waivers (faults ++ fault ∷ []) ≡ report_waivers rules font waivers faults
  report-left is =
      ap (λ (fs : List FaultValue). waivers_of_lines (map (line_in font waivers) fs))
      (told-push false is ∙ append-nil (told_faults rules faults))

  report-in_glyph : has rules (number_of fault.rule) ≡ true → is_in_glyph font fault ≡ true
      → report_waivers rules font waivers (faults ++ fault ∷ []) ≡ with_waiver (report_waivers rules font waivers faults) (waiver_at font fault)
  report-in_glyph told in_glyph = report-told told ∙ place_in_glyph font waivers (report_waivers rules font waivers faults) fault in_glyph

  report-outside : (has rules (number_of fault.rule) && is_in_glyph font fault) ≡ false
      → report_waivers rules font waivers (faults ++ fault ∷ []) ≡ report_waivers rules font waivers faults
  report-outside out = elim (cases_Bool (has rules (number_of fault.rule))) [
    | inl told ↦
        let outside : is_in_glyph font fault ≡ false = rw told at out in
        report-told told ∙ place_outside font waivers (report_waivers rules font waivers faults) fault outside
    | inr left ↦ report-left left
  ]

-- ---- a walk over the report

-- So many faults were returned; of the glyphs from the mark's on those pairs are written that were written of the last
-- one.
pub record HaveWaived (rules : Mask) (font : CheckedFont) (waivers : List Waiver) (count : ℕ) (mark : Mark) (last : ℕ) (written : Mask)
    (text : List ℕ) : Type 0 where
  pub given : List FaultValue
  pub is : IsGiven font waivers given count mark
  pub text_is : text ≡ report_text rules font.value waivers given
  pub behind : last ≤ mark.unit
  pub seen : (unit n : ℕ) → 1 ≤ unit → unit ≤ length font.value.glyphs → mark.unit ≤ unit
      → is_waived (report_waivers rules font.value waivers given) (glyph_name font.value (unit - 1)) n ≡ was_written last written unit n

pub none_waived : (rules : Mask) (font : CheckedFont) (waivers : List Waiver) (mark : Mark) (written : Mask) (text : List ℕ) → mark ≡ first_mark
    → ((n : ℕ) → has written n ≡ false) → text ≡ [] → HaveWaived rules font waivers 0 mark 0 written text
none_waived rules font waivers mark written text first none empty = record {
  given = [];
  is = none_given font waivers mark first;
  text_is = empty;
  behind = omega arith;
  seen = λ unit n one within from. (let other : (0 == unit) ≡ false = grind (arith, nat_tests, one) in rw other refl);
}

eq_turned : (a b : ℕ) → (a == b) ≡ (b == a)
eq_turned a b = grind (arith, nat_tests)

or_turned : (a b : Bool) → (a || b) ≡ (b || a)
or_turned true true = refl
or_turned true false = refl
or_turned false true = refl
or_turned false false = refl

module _ (rules : Mask) (font : CheckedFont) (waivers : List Waiver) (once : HasNoNameTwice font.value) (count : ℕ) (mark : Mark) (last : ℕ)
    (written : Mask) (text : List ℕ) (have : HaveWaived rules font waivers count mark last written text) (fault : FaultValue)
    (next : IsNext font waivers mark fault) where
  goes_on : mark.unit ≤ fault.unit
  goes_on = elim next.later [
    | inl less ↦ omega (arith, less)
    | inr more ↦ let same = more.0 in omega (arith, same)
  ]

  -- a fault of whose line no waiver is made
  pub one_passed : (has rules (number_of fault.rule) && is_in_glyph font.value fault) ≡ false
      → HaveWaived rules font waivers (count + 1) (mark_of fault) last written text
  one_passed out = record {
    given = have.given ++ fault ∷ [];
    is = one_given font waivers have.given count mark fault have.is next;
    text_is = have.text_is ∙ ap waivers_text (sym (report-outside rules font.value waivers have.given fault out));
    behind = (let before = have.behind in let on = goes_on in omega (arith, before, on));
    seen = λ unit n one within from.
        ap (λ (ws : List Waiver). is_waived ws (glyph_name font.value (unit - 1)) n) (report-outside rules font.value waivers have.given fault out)
        ∙ have.seen unit n one within (let on = goes_on in omega (arith, on, from));
  }

  -- one in a glyph
  module _ (told : has rules (number_of fault.rule) ≡ true) (in_glyph : is_in_glyph font.value fault ≡ true) (now : Mask) (more : List ℕ)
      (at : fault.unit ≤ length font.value.glyphs + 1)
      (now_is : (n : ℕ) → has now n ≡ (number_of fault.rule == n || was_written last written fault.unit n))
      (more_is : more ≡ text ++ line_unless (was_written last written fault.unit (number_of fault.rule)) (waiver_at font.value fault)) where
    of_glyph : (1 ≤ fault.unit) × (fault.unit ≤ length font.value.glyphs)
    of_glyph = glyph_bounds font.value fault in_glyph at

    before : List Waiver
    before = report_waivers rules font.value waivers have.given

    new_text : more ≡ report_text rules font.value waivers (have.given ++ fault ∷ [])
    unfolding before
    new_text =
        more_is
        ∙ ap (λ (b : Bool). text ++ line_unless b (waiver_at font.value fault))
        (sym (have.seen fault.unit (number_of fault.rule) of_glyph.0 of_glyph.1 goes_on))
        ∙ ap (λ t. t ++ line_unless (is_waived before (glyph_name font.value (fault.unit - 1)) (number_of fault.rule)) (waiver_at font.value fault))
        have.text_is
        ∙ sym (text-push before (waiver_at font.value fault))
        ∙ ap waivers_text (sym (report-in_glyph rules font.value waivers have.given fault told in_glyph))

    -- in its glyph, and in a later one
    same_unit : (n : ℕ) → (is_waived before (glyph_name font.value (fault.unit - 1)) n
        || (same_name (glyph_name font.value (fault.unit - 1)) (glyph_name font.value (fault.unit - 1)) && n == number_of fault.rule)) ≡ has now n
    unfolding before
    same_unit n =
        rw (name_exact.same (glyph_name font.value (fault.unit - 1)), have.seen fault.unit n of_glyph.0 of_glyph.1 goes_on, eq_turned n (number_of fault.rule))
        (or_turned (was_written last written fault.unit n) (number_of fault.rule == n) ∙ sym (now_is n))

    later_unit : (unit n : ℕ) → fault.unit < unit → unit ≤ length font.value.glyphs
        → (is_waived before (glyph_name font.value (unit - 1)) n
        || (same_name (glyph_name font.value (unit - 1)) (glyph_name font.value (fault.unit - 1)) && n == number_of fault.rule)) ≡ false
    unfolding before
    later_unit unit n less within =
        let on = goes_on in
        let start = of_glyph.0 in
        let late = have.behind in
        let old = have.seen unit n (omega (arith, less)) within (omega (arith, less, on)) in
        let none : (last == unit) ≡ false = grind (arith, nat_tests, less, on, late) in
        let other : same_name (glyph_name font.value (unit - 1)) (glyph_name font.value (fault.unit - 1)) ≡ false =
        elim (cases_Bool (same_name (glyph_name font.value (unit - 1)) (glyph_name font.value (fault.unit - 1)))) [
          | inl same ↦
              let units = once (unit - 1) (fault.unit - 1) (omega (arith, less, within)) (omega (arith, less, within, start))
              (name_exact.exact (glyph_name font.value (unit - 1)) (glyph_name font.value (fault.unit - 1)) same) in
              absurd (omega (arith, units, less, start))
          | inr differ ↦ differ
        ] in
        rw (old, other, none) refl

    pub one_waived : HaveWaived rules font waivers (count + 1) (mark_of fault) fault.unit now more
    unfolding before
    one_waived = record {
      given = have.given ++ fault ∷ [];
      is = one_given font waivers have.given count mark fault have.is next;
      text_is = new_text;
      behind = omega arith;
      seen = λ unit n one within from.
          ap (λ (ws : List Waiver). is_waived ws (glyph_name font.value (unit - 1)) n) (report-in_glyph rules font.value waivers have.given fault told in_glyph)
          ∙ waived-push before (waiver_at font.value fault) (glyph_name font.value (unit - 1)) n
          ∙ at_unit unit n within from;
    }
      where
        at_unit : (unit n : ℕ) → unit ≤ length font.value.glyphs → fault.unit ≤ unit
            → (is_waived before (glyph_name font.value (unit - 1)) n
            || (same_name (glyph_name font.value (unit - 1)) (glyph_name font.value (fault.unit - 1)) && n == number_of fault.rule))
            ≡ was_written fault.unit now unit n
        at_unit unit n within from = elim (cases_Bool (fault.unit == unit)) [
          | inl same ↦
              let units : fault.unit ≡ unit = eqb-true fault.unit unit same in
              subst (λ u. (is_waived before (glyph_name font.value (u - 1)) n
              || (same_name (glyph_name font.value (u - 1)) (glyph_name font.value (fault.unit - 1)) && n == number_of fault.rule))
              ≡ was_written fault.unit now u n) units
              (let self : (fault.unit == fault.unit) ≡ true = eq-eqb fault.unit fault.unit refl in rw self (same_unit n))
          | inr other ↦
              let less : fault.unit < unit = grind (arith, nat_tests, other, from) in
              rw other (later_unit unit n less within)
        ]
