-- What the faults of a font that was read are counted by: names without blanks.
use Rattle.std.proofs.Common.{◌≡◌, ◌<◌, ◌+◌, ◌-◌, ◌/◌, ◌%◌, ◌==◌, ℕ, zero, suc, true, Some, List, [], ◌∷◌, Result, Ok, Err, IsTrue, length, slice_get, get_or, inl, inr, refl, sym, subst, arith}
use Rattle.std.proofs.lemmas.Bool.{cases_Bool}
use Rattle.std.proofs.lemmas.Bool.Decides.{nat_tests}
use Rattle.std.proofs.lemmas.List.Elements.{All-head, All-tail}
use Rattle.std.proofs.lemmas.Option.{none-some, slice_get-get_or}
use Rattle.std.specs.List.{list_all}
use Rattle.t1_font.specs.ClearText.{clear_of}
use Rattle.t1_font.specs.FontFiles.{before_rest, clear_next, font_in, marks_in, private_next, read_with, section_next}
use Rattle.t1_font.specs.Fonts.{FontValue, Marks, glyph_name, with_texts}
use Rattle.t1_font.specs.Texts.{font_read}
use Rattle.t1_font.specs.TextTurns.{TextRead}
use Rattle.t1_font.specs.declared.unread.Unread.{Unread}
use Rattle.t1_lines.proofs.Cuts.{some_same}
use Rattle.t1_lines.proofs.NamesKept.{fonts_have_names, glyph_named}
use Rattle.t1_lines.proofs.WaiverNames.{waivers_have_names}
use Rattle.t1_lines.specs.Lines.{PlaceValue, at_key, at_step, at_waiver, place_in}
use Rattle.t1_lines.specs.Names.{HasNames, HaveNames}
use Rattle.t1_many.proofs.LineKinds.{name_is_a_word}
use Rattle.t1_many.specs.Kinds.{counted_in, unit_of}
use Rattle.t1_many.specs.KnownFaults.{is_word}
use Rattle.t1_many.specs.Outcomes.{IsRead}
use Rattle.t1_many.specs.Private.Counts.{IsUnit}
use Rattle.t1_report.specs.Faults.{FaultValue}
use Rattle.t1_report.specs.Lines.{IsInFont}
use Rattle.t1_report.specs.Waivers.{Waiver}
use Rattle.t1_scan.specs.Bytes.{is_regular}
use Rattle.t1_seal.specs.Eexec.{private_text_of}
use Rattle.t1_seal.specs.Segments.{JoinedText, joined_of}
use Rattle.t1_seal.specs.declared.errors.SealError.{SealError}
use Rattle.t1_rules.specs.Keys.{index_count, key_count}
use Rattle.t1_rules.specs.declared.rule.Rule.TheVariants.{F01}

waiver_named : (waivers : List Waiver) (i : ℕ) (w : Waiver) → HaveNames waivers → slice_get waivers i ≡ Some w → is_word w.0 ≡ true
waiver_named [] i w names at = absurd (none-some w at)
waiver_named (v ∷ waivers) zero w names at =
    name_is_a_word w.0 (subst (λ (u : Waiver). list_all is_regular u.0 ≡ true) (some_same v w at)
    (All-head (λ (u : Waiver). IsTrue (list_all is_regular u.0)) v waivers names))
waiver_named (v ∷ waivers) (suc i) w names at =
    waiver_named waivers i w (All-tail (λ (u : Waiver). IsTrue (list_all is_regular u.0)) v waivers names) at

module _ (font : FontValue) (waivers : List Waiver) where
  -- Where a fault is.
  pub data IsPlaced (fault : FaultValue) : Type 0 where
    in_font :
        fault.unit ≡ 0 → fault.step / index_count < key_count
        → place_in font waivers fault ≡ at_key (fault.step / index_count) (fault.step % index_count) → IsPlaced fault
    in_waivers :
        (w : Waiver) → fault.unit ≡ length font.glyphs + 1 → slice_get waivers (fault.step - 1) ≡ Some w
        → place_in font waivers fault ≡ at_waiver w.0 w.1 → IsPlaced fault
    in_glyph : place_in font waivers fault ≡ at_step (glyph_name font (fault.unit - 1)) fault.path fault.step → IsPlaced fault

  pub placed : (fault : FaultValue) → IsInFont font waivers fault → IsPlaced fault
  placed fault there = elim (cases_Bool (fault.unit == 0)) [
    | inl first ↦ (let is : fault.unit ≡ 0 = grind (arith, nat_tests, first) in in_font is (there.key is) (rw first refl))
    | inr inner ↦ elim (cases_Bool (fault.unit == length font.glyphs + 1)) [
      | inl last ↦
          let is : fault.unit ≡ length font.glyphs + 1 = grind (arith, nat_tests, last) in
          let at = there.waiver is in
          let w : Waiver = get_or waivers (fault.step - 1) ([], F01) in
          let found : slice_get waivers (fault.step - 1) ≡ Some w =
          slice_get-get_or waivers (fault.step - 1) ([], F01) (let low = at.1.0 in let high = at.1.1 in omega (arith, low, high)) in
          in_waivers w is found (rw (inner, last, found) refl)
      | inr middle ↦ in_glyph (rw (inner, middle) refl)
    ]
  ]

  is_unit : HasNames font → HaveNames waivers → (fault : FaultValue) → IsPlaced fault → IsUnit (counted_in font waivers fault).unit
  is_unit names waiver_names fault (in_font unit key place) = subst (λ (p : PlaceValue). IsUnit (unit_of p)) (sym place) key
  is_unit names waiver_names fault (in_waivers w unit at place) =
      subst (λ (p : PlaceValue). IsUnit (unit_of p)) (sym place) (waiver_named waivers (fault.step - 1) w waiver_names at)
  is_unit names waiver_names fault (in_glyph place) =
      subst (λ (p : PlaceValue). IsUnit (unit_of p)) (sym place)
      (name_is_a_word (glyph_name font (fault.unit - 1)) (glyph_named font (fault.unit - 1) names))

-- ---- of fonts and waivers that were read

read_named : (before private : List ℕ) (r : Result FontValue Unread) → ((v : FontValue) → r ≡ Ok v → HasNames v) → (font : FontValue)
    → read_with before private r ≡ Ok font → HasNames font
read_named before private (Ok v) named font is = let same : with_texts before private v ≡ font = cc in subst HasNames same (named v refl)
read_named before private (Err e) named font is = cc

private_named : (marks : Marks) (clear : TextRead) (bytes : List ℕ) → clear_of marks bytes ≡ Ok clear → (r : Result (List ℕ) SealError)
    → (font : FontValue) → private_next marks (before_rest bytes clear.rest) clear.stated r ≡ Ok font → HasNames font
private_named marks clear bytes is_clear (Ok text) font is =
    read_named (before_rest bytes clear.rest) text (font_read marks clear.stated text) (λ v read. fonts_have_names marks bytes text clear v is_clear read) font is
private_named marks clear bytes is_clear (Err e) font is = cc

section_named : (marks : Marks) (bytes : List ℕ) (r : Result TextRead Unread) → clear_of marks bytes ≡ r → (font : FontValue)
    → section_next marks bytes r ≡ Ok font → HasNames font
section_named marks bytes (Ok clear) is_clear font is = private_named marks clear bytes is_clear (private_text_of clear.rest) font is
section_named marks bytes (Err e) is_clear font is = cc

clear_named : (r : Result JoinedText SealError) (font : FontValue) → clear_next r ≡ Ok font → HasNames font
clear_named (Ok joined) font is =
    section_named (marks_in joined) joined.bytes (clear_of (marks_in joined) joined.bytes) refl font is
clear_named (Err e) font is = cc

pub font_named : (bytes : List ℕ) (font : FontValue) → font_in bytes ≡ Ok font → HasNames font
unfolding font_in
font_named bytes font is = clear_named (joined_of bytes) font is

pub unit_in : (font : FontValue) (waivers : List Waiver) → IsRead font waivers → (fault : FaultValue) → IsInFont font waivers fault
    → IsUnit (counted_in font waivers fault).unit
unit_in font waivers read fault there =
    is_unit font waivers (font_named read.bytes font read.font_is) (waivers_have_names read.edition read.text waivers read.waivers_are) fault
    (placed font waivers fault there)
