-- What the latest rules say of one plain key.
use Rattle.std.proofs.Common.{◌≡◌, ℕ, ◌==◌, ◌&&◌, Bool, true, false, refl, sym, ◌∙◌}
use Rattle.std.proofs.Math.Bool.{and-false}
use Rattle.t1_font.specs.declared.key.Key.{Key}
use Rattle.t1_font.specs.declared.key.Key.TheVariants.{FontType, PaintType, UniqueId, PrivateUniqueId, Password, MinFeature, LenIv, BlueValues, OtherBlues, FamilyBlues, FamilyOtherBlues, BlueScale, BlueShift, BlueFuzz, StdHw, StdVw, StemSnapH, StemSnapV, FontMatrix, FontBBox, Xuid, LanguageGroup}
use Rattle.t1_font.specs.Fonts.{FontValue, is_key_twice}
use Rattle.t1_font.specs.Values.{absent}
use Rattle.t1_rules.specs.declared.mask.Mask.{Mask}
use Rattle.t1_rules.specs.FontRules.{latest_font_rules, violated}
use Rattle.t1_rules.specs.FontRules.Dictionaries.{is_singular}
use Rattle.t1_rules.specs.Keys.{key_number, value_at}
use Rattle.t1_rules.specs.Mask.{has}
use Rattle.t1_rules.specs.Private.KeyTests.{broken_among, is_matrix, repeated_tests}

at_plain_key : (n : ℕ) (font : FontValue) (k : Key) (index : ℕ) → violated latest_font_rules n font (key_number k) index
    ≡ broken_among (repeated_tests font k index) n
unfolding latest_font_rules
at_plain_key n font FontType index = refl
at_plain_key n font PaintType index = refl
at_plain_key n font UniqueId index = refl
at_plain_key n font PrivateUniqueId index = refl
at_plain_key n font Password index = refl
at_plain_key n font MinFeature index = refl
at_plain_key n font LenIv index = refl
at_plain_key n font BlueValues index = refl
at_plain_key n font OtherBlues index = refl
at_plain_key n font FamilyBlues index = refl
at_plain_key n font FamilyOtherBlues index = refl
at_plain_key n font BlueScale index = refl
at_plain_key n font BlueShift index = refl
at_plain_key n font BlueFuzz index = refl
at_plain_key n font StdHw index = refl
at_plain_key n font StdVw index = refl
at_plain_key n font StemSnapH index = refl
at_plain_key n font StemSnapV index = refl
at_plain_key n font FontMatrix index = refl
at_plain_key n font FontBBox index = refl
at_plain_key n font Xuid index = refl
at_plain_key n font LanguageGroup index = refl

pub repeated_told : (n : ℕ) (font : FontValue) (k : Key) (index : ℕ) (mask : Mask)
    → has mask n ≡ broken_among (repeated_tests font k index) n → has mask n ≡ violated latest_font_rules n font (key_number k) index
repeated_told n font k index mask told = told ∙ sym (at_plain_key n font k index)

-- One that isn't there breaks none of them, but for F23, which counts how often it is given.
pub latest_fine : (font : FontValue) (k : Key) (index n : ℕ) → value_at font k ≡ absent → (95 == n) ≡ false
    → violated latest_font_rules n font (key_number k) index ≡ false
latest_fine font k index n none other =
    at_plain_key n font k index
    ∙ rw (other, and-false (index == 0 && is_key_twice font k), none, and-false (index == 0), and-false (is_matrix k)) refl
