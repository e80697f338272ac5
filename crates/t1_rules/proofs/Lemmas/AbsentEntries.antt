-- An entry that isn't there breaks just the rules that ask for it.
use Rattle.std.proofs.Common.{◌≡◌, ◌&&◌, ◌||◌, ◌==◌, ℕ, Bool, true, false, ℤ, List, [], ◌∷◌, refl, ap, ◌∙◌, arith}
use Rattle.std.specs.List.{list_any}
use Rattle.std.proofs.Math.Bool.{and-false}
use Rattle.std.proofs.lemmas.Bool.{le-ltb}
use Rattle.t1_char.specs.Editions.{has_later_rules, has_latest_rules}
use Rattle.t1_char.specs.declared.edition.Edition.{Edition}
use Rattle.t1_font.specs.Fonts.{FontValue}
use Rattle.t1_font.specs.Values.{Value, absent, number, numbers, other as another}
use Rattle.t1_font.specs.declared.key.Key.{Key}
use Rattle.t1_font.specs.declared.key.Key.TheVariants.{FontType, PaintType, UniqueId, PrivateUniqueId, Password, MinFeature, LenIv, BlueValues, OtherBlues, FamilyBlues, FamilyOtherBlues, BlueScale, BlueShift, BlueFuzz, StdHw, StdVw, StemSnapH, StemSnapV, FontMatrix, FontBBox, Xuid, LanguageGroup}
use Rattle.t1_rules.specs.declared.rule.Rule.TheVariants.{F23}
use Rattle.t1_rules.specs.Book.{number_of}
use Rattle.t1_rules.specs.Keys.{key_number, value_at}
use Rattle.t1_rules.specs.Laws.FontRules.{AbsentEntriesBreakNothing, AbsentEntriesBreakTheirRules, font_bbox, font_matrix, font_type, blue_values, min_feature, paint_type, password, rules_on_absence}
use Rattle.t1_rules.specs.FontRules.Ids.{differ}
use Rattle.t1_rules.specs.FontRules.Values.{first_in}
use Rattle.t1_rules.specs.FontRules.Hints.{numbers_at}
use Rattle.t1_rules.specs.FontRules.Stems.{is_not_among, lacks_snap}
use Rattle.t1_rules.specs.FontRules.Zones.{distance}
use Rattle.t1_rules.specs.FontRules.{first_font_rules, later_font_rules, violated}
use Rattle.t1_rules.proofs.Lemmas.FontRules.{in_parts}
use Rattle.t1_rules.proofs.Lemmas.Texts.{latest_fine}
use Rattle.t1_rules.proofs.Lemmas.Keys.{falls_past, fraction_past, meets_past, repeats_past, zones_past}

not_among_none : (widths : List ℤ) → is_not_among widths [] ≡ false
not_among_none [] = refl
not_among_none (width ∷ widths) = refl

lacks_none : (widths : List ℤ) → lacks_snap widths absent ≡ false
lacks_none [] = refl
lacks_none (width ∷ widths) = refl

differ_none : (value : Value) → differ value absent ≡ false
differ_none absent = refl
differ_none (number z) = refl
differ_none (numbers count first) = refl
differ_none another = refl

-- The number is none of those of the rules that ask for an entry, nor that of the one which counts.
record IsNoneOf (n : ℕ) : Type 0 where
  f03 : (3 == n) ≡ false
  f04 : (4 == n) ≡ false
  f07 : (7 == n) ≡ false
  f08 : (8 == n) ≡ false
  f15 : (71 == n) ≡ false
  f16 : (72 == n) ≡ false
  z12 : (78 == n) ≡ false
  f23 : (95 == n) ≡ false

none_of : (n : ℕ) → list_any (λ r. number_of r == n) (F23 ∷ rules_on_absence) ≡ false → IsNoneOf n
none_of n other = go (95 == n) (3 == n) (4 == n) (7 == n) (8 == n) (71 == n) (72 == n) (78 == n) refl refl refl refl refl refl refl refl other
  where
    neither : (a b : Bool) → (a || b) ≡ false → (a ≡ false) × (b ≡ false)
    neither false false is = (refl, refl)
    neither false true is = let no : true ≡ false = is in cc
    neither true b is = let no : true ≡ false = is in cc

    go : (z a b c d e f g : Bool) → (95 == n) ≡ z → (3 == n) ≡ a → (4 == n) ≡ b → (7 == n) ≡ c → (8 == n) ≡ d → (71 == n) ≡ e → (72 == n) ≡ f → (78 == n) ≡ g
        → (z || (a || (b || (c || (d || (e || (f || (g || false)))))))) ≡ false → IsNoneOf n
    go z a b c d e f g z_is a_is b_is c_is d_is e_is f_is g_is is =
        let o = neither z (a || (b || (c || (d || (e || (f || (g || false))))))) is in
        let p = neither a (b || (c || (d || (e || (f || (g || false)))))) o.1 in
        let q = neither b (c || (d || (e || (f || (g || false))))) p.1 in
        let r = neither c (d || (e || (f || (g || false)))) q.1 in
        let s = neither d (e || (f || (g || false))) r.1 in
        let t = neither e (f || (g || false)) s.1 in
        let u = neither f (g || false) t.1 in
        let v = neither g false u.1 in
        record { f03 = a_is ∙ p.0; f04 = b_is ∙ q.0; f07 = c_is ∙ r.0; f08 = d_is ∙ s.0; f15 = e_is ∙ t.0; f16 = f_is ∙ u.0; z12 = g_is ∙ v.0; f23 = z_is ∙ o.0 }

first_fine : (font : FontValue) (k : Key) (index n : ℕ) → value_at font k ≡ absent → IsNoneOf n → violated first_font_rules n font (key_number k) index ≡ false
unfolding first_font_rules
first_fine font FontType index n none apart = simp (apart.f03, and-false) refl
first_fine font PaintType index n none apart = simp (apart.f04, and-false) refl
first_fine font UniqueId index n none apart = rw (none, and-false (index == 0)) refl
first_fine font PrivateUniqueId index n none apart = rw (none, differ_none (value_at font UniqueId), and-false (index == 0)) refl
first_fine font Password index n none apart = simp (apart.f07, and-false) refl
first_fine font MinFeature index n none apart = simp (apart.f08, and-false) refl
first_fine font LenIv index n none apart = refl
first_fine font BlueValues index n none apart =
    let zones = zones_past font [] index (omega arith) in
    rw (none, and-false (index == 0), and-false (index == 14), zones.0, zones.1, zones.2) refl
first_fine font OtherBlues index n none apart =
    let zones = zones_past font [] index (omega arith) in
    let meeting = meets_past (distance font) [] (numbers_at font BlueValues) index (omega arith) in
    rw (none, and-false (index == 0), and-false (index == 10), zones.0, zones.1, zones.2, meeting) refl
first_fine font FamilyBlues index n none apart =
    let zones = zones_past font [] index (omega arith) in
    rw (none, and-false (index == 0), and-false (index == 14), zones.0, zones.1, zones.2) refl
first_fine font FamilyOtherBlues index n none apart =
    let zones = zones_past font [] index (omega arith) in
    let meeting = meets_past (distance font) [] (numbers_at font FamilyBlues) index (omega arith) in
    rw (none, and-false (index == 0), and-false (index == 10), zones.0, zones.1, zones.2, meeting) refl
first_fine font BlueScale index n none apart = rw (none, and-false (index == 0)) refl
first_fine font BlueShift index n none apart = rw (none, and-false (index == 0)) refl
first_fine font BlueFuzz index n none apart = rw (none, and-false (index == 0)) refl
first_fine font StdHw index n none apart = rw (none, and-false (index == 0)) refl
first_fine font StdVw index n none apart = rw (none, and-false (index == 0)) refl
first_fine font StemSnapH index n none apart =
    let among = not_among_none (first_in 1 (value_at font StdHw)) in
    rw (none, among, and-false (index == 0), and-false (index == 12), falls_past [] index (omega arith)) refl
first_fine font StemSnapV index n none apart =
    let among = not_among_none (first_in 1 (value_at font StdVw)) in
    rw (none, among, and-false (index == 0), and-false (index == 12), falls_past [] index (omega arith)) refl
first_fine font _ index n none apart = refl

later_fine : (font : FontValue) (k : Key) (index n : ℕ) → value_at font k ≡ absent → IsNoneOf n → violated later_font_rules n font (key_number k) index ≡ false
unfolding later_font_rules
later_fine font BlueValues index n none apart =
    rw (none, apart.z12, and-false (index == 0 && true), fraction_past [] index (omega arith)) refl
later_fine font OtherBlues index n none apart = rw (none, fraction_past [] index (omega arith)) refl
later_fine font FamilyBlues index n none apart = rw (none, fraction_past [] index (omega arith)) refl
later_fine font FamilyOtherBlues index n none apart = rw (none, fraction_past [] index (omega arith)) refl
later_fine font BlueScale index n none apart = rw (none, and-false (index == 0)) refl
later_fine font BlueShift index n none apart = rw (none, and-false (index == 0)) refl
later_fine font BlueFuzz index n none apart = rw (none, and-false (index == 0)) refl
later_fine font StdHw index n none apart = rw (none, and-false (index == 0)) refl
later_fine font StdVw index n none apart = rw (none, and-false (index == 0)) refl
later_fine font StemSnapH index n none apart =
    rw (none, lacks_none (first_in 1 (value_at font StdHw)), and-false (index == 0), repeats_past [] index (omega arith)) refl
later_fine font StemSnapV index n none apart =
    rw (none, lacks_none (first_in 1 (value_at font StdVw)), and-false (index == 0), repeats_past [] index (omega arith)) refl
later_fine font FontMatrix index n none apart = rw (none, apart.f15, and-false (index == 0 && true)) refl
later_fine font FontBBox index n none apart = rw (none, apart.f16, and-false (index == 0 && true)) refl
later_fine font Xuid index n none apart = rw (none, and-false (index == 0), le-ltb index 0 (omega arith)) refl
later_fine font LanguageGroup index n none apart = rw (none, and-false (index == 0)) refl
later_fine font _ index n none apart = refl

pub absent_is_fine : AbsentEntriesBreakNothing
absent_is_fine edition font k index n none other =
    in_parts edition n font (key_number k) index
    ∙ rw (
      first_fine font k index n none (none_of n other),
      later_fine font k index n none (none_of n other),
      latest_fine font k index n none (none_of n other).f23,
      and-false (has_later_rules edition),
      and-false (has_latest_rules edition),
    ) refl

pub absent_is_told : AbsentEntriesBreakTheirRules
unfolding first_font_rules later_font_rules
absent_is_told font _ _ font_type none = rw none refl
absent_is_told font _ _ paint_type none = rw none refl
absent_is_told font _ _ password none = rw none refl
absent_is_told font _ _ min_feature none = rw none refl
absent_is_told font _ _ font_matrix none = rw none refl
absent_is_told font _ _ font_bbox none = rw none refl
absent_is_told font _ _ blue_values none = rw none refl
