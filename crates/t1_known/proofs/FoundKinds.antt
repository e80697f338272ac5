-- What is found in a font that was read can be read of its rows.
use Rattle.std.proofs.Common.{◌≡◌, ◌-◌, ◌≤◌, ℕ, zero, suc, Bool, true, false, cond, Some, List, [], ◌∷◌, IsTrue, length, map, slice_get, slice_index_or, sym, subst, refl, arith}
use Rattle.std.proofs.lemmas.List.{length-map}
use Rattle.std.proofs.lemmas.List.Elements.{All-filter, All-head, All-tail, recursion_from_All}
use Rattle.std.proofs.lemmas.Option.{none-some}
use Rattle.std.specs.List.{All, AllByRecursion, filter, list_all}
use Rattle.t1_font.specs.Fonts.{FontValue}
use Rattle.t1_lines.proofs.Cuts.{some_same}
use Rattle.t1_lines.proofs.NamesKept.{glyph_named}
use Rattle.t1_lines.proofs.WaiverNames.{waivers_have_names}
use Rattle.t1_lines.specs.Lines.{IsPlace, PlaceValue, at_key, at_step, at_waiver, place_in}
use Rattle.t1_lines.specs.Names.{HasNames, HaveNames}
use Rattle.t1_many.proofs.FaultKinds.{IsPlaced, font_named, placed}
use Rattle.t1_many.proofs.FaultKinds.IsPlaced.{in_font, in_glyph, in_waivers}
use Rattle.t1_many.proofs.LineKinds.{have_kinds}
use Rattle.t1_many.specs.Known.{kind_in}
use Rattle.t1_many.specs.KnownFaults.{kind_at}
use Rattle.t1_many.specs.Verdicts.{told_faults}
use Rattle.t1_report.proofs.FewFaults.{few_faults}
use Rattle.t1_report.proofs.InFont.{in_font as stands_in_font}
use Rattle.t1_report.specs.Checked.{checked}
use Rattle.t1_report.specs.Faults.{FaultValue}
use Rattle.t1_report.specs.Lines.{IsInFont}
use Rattle.t1_report.specs.Waivers.{Waiver}
use Rattle.t1_rules.specs.Book.{number_of}
use Rattle.t1_rules.specs.Mask.{has}
use Rattle.t1_rules.specs.declared.rule.Rule.{Rule}
use Rattle.t1_scan.specs.Bytes.{is_regular}
use Rattle.t1_known.proofs.PlainKinds.{kind_in_line}
use Rattle.t1_known.specs.Laws.{ReportsAreReadable}
use Rattle.t1_known.specs.Readings.{IsPlainKind}

-- A place without what its kind doesn't say.
abbrev short : PlaceValue → PlaceValue
short (at_key key index) = at_key key 0
short (at_step name path step) = at_step name [] 0
short (at_waiver name waived) = at_waiver name waived

same_kind : (rule : Rule) (place : PlaceValue) → kind_at rule (short place) ≡ kind_at rule place
same_kind rule (at_key key index) = refl
same_kind rule (at_step name path step) = refl
same_kind rule (at_waiver name waived) = refl

plain_kind : (rule : Rule) (place : PlaceValue) → IsPlace (short place) rule → IsPlainKind (kind_at rule place)
plain_kind rule place is =
    subst IsPlainKind (same_kind rule place)
    (have_kinds (record { number = 0; place = short place; rule = rule }) (record { number = omega arith; place = is }), kind_in_line rule (short place) is)

waiver_is_regular : (waivers : List Waiver) (i : ℕ) (w : Waiver) → HaveNames waivers → slice_get waivers i ≡ Some w → IsTrue (list_all is_regular w.0)
waiver_is_regular [] i w names at = absurd (none-some w at)
waiver_is_regular (v ∷ waivers) zero w names at =
    subst (λ (u : Waiver). IsTrue (list_all is_regular u.0)) (some_same v w at)
    (All-head (λ (u : Waiver). IsTrue (list_all is_regular u.0)) v waivers names)
waiver_is_regular (v ∷ waivers) (suc i) w names at =
    waiver_is_regular waivers i w (All-tail (λ (u : Waiver). IsTrue (list_all is_regular u.0)) v waivers names) at

module _ (font : FontValue) (waivers : List Waiver) (names : HasNames font) (waiver_names : HaveNames waivers) where
  short_place : (fault : FaultValue) → IsInFont font waivers fault → IsPlaced font waivers fault
      → IsPlace (short (place_in font waivers fault)) fault.rule
  short_place fault there (in_font unit key place) =
      subst (λ p. IsPlace (short p) fault.rule) (sym place) (key, omega arith)
  short_place fault there (in_waivers w unit at place) =
      subst (λ p. IsPlace (short p) fault.rule) (sym place) (waiver_is_regular waivers (fault.step - 1) w waiver_names at, (there.waiver unit).0)
  short_place fault there (in_glyph place) =
      subst (λ p. IsPlace (short p) fault.rule) (sym place) (glyph_named font (fault.unit - 1) names, omega arith, tt, omega arith)

  plain_kinds : (faults : List FaultValue) → AllByRecursion (IsInFont font waivers) faults
      → AllByRecursion IsPlainKind (map (kind_in font waivers) faults)
  plain_kinds [] all = tt
  plain_kinds (fault ∷ faults) all = (
    plain_kind fault.rule (place_in font waivers fault) (short_place fault all.0 (placed font waivers fault all.0)),
    plain_kinds faults all.1,
  )

fewer : (told : FaultValue → Bool) (faults : List FaultValue) → length (filter told faults) ≤ length faults
fewer told [] = omega arith
fewer told (fault ∷ faults) =
    let less = fewer told faults in
    elim (told fault) as (λ b. length (cond b (fault ∷ filter told faults) (filter told faults)) ≤ length (fault ∷ faults)) [
      | true ↦ omega (arith, less)
      | false ↦ omega (arith, less)
    ]

pub reports_are_readable : ReportsAreReadable
reports_are_readable name font waivers faults edition rules read report named in_line =
    let told : FaultValue → Bool = λ fault. has rules (number_of fault.rule) in
    let all : All (IsInFont font waivers) faults =
    λ k d less. stands_in_font (checked font edition) waivers (slice_index_or faults k d) (report.violations k d less) in
    let there = recursion_from_All (IsInFont font waivers) (told_faults rules faults) (All-filter told (IsInFont font waivers) faults all) in
    let same = length-map (told_faults rules faults) (kind_in font waivers) in
    let less = fewer told faults in
    let few = few_faults (checked font edition) waivers faults read.few read.few_waivers report in
    record {
      kinds = plain_kinds font waivers (font_named read.bytes font read.font_is) (waivers_have_names read.edition read.text waivers read.waivers_are)
          (told_faults rules faults) there;
      few = omega (arith, same, less, few);
      named = named;
      font = in_line;
    }
