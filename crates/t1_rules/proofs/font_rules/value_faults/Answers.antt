use Rattle.t1_font.specs.declared.key.Key.TheVariants as keys
use Rattle.std.proofs.Common.{[], refl, ap}
use Rattle.t1_rules.specs.FontRules.{first_font_rules}
use Rattle.t1_rules.specs.Keys.{key_number}
use Rattle.t1_rules.specs.Private.KeyTests.{high_zone_tests, low_zone_tests, number_tests, width_tests, snap_tests}
use Rattle.t1_rules.proofs.Lemmas.FontRules.{told_at}
use Rattle.t1_rules.proofs.font_rules.value_faults.Goals as goal

pub returns-in-LenIv : goal.returns-in-LenIv
unfolding first_font_rules
returns-in-LenIv c =
    told_at first_font_rules (key_number c.args.key) (key_number keys.LenIv) [] c.empty.result c.args.font.now c.args.index
    (ap key_number c.in-LenIv.is) c.empty.ensures (λ n. refl)

pub returns-in-BlueValues : goal.returns-in-BlueValues
unfolding first_font_rules
returns-in-BlueValues c =
    told_at first_font_rules (key_number c.args.key) (key_number keys.BlueValues) (high_zone_tests c.args.font.now keys.BlueValues c.args.index) c.high_zone_faults.result
    c.args.font.now c.args.index (ap key_number c.in-BlueValues.is) c.high_zone_faults.ensures (λ n. refl)

pub returns-in-OtherBlues : goal.returns-in-OtherBlues
unfolding first_font_rules
returns-in-OtherBlues c =
    told_at first_font_rules (key_number c.args.key) (key_number keys.OtherBlues)
    (low_zone_tests c.args.font.now keys.OtherBlues keys.BlueValues c.args.index) c.low_zone_faults.result
    c.args.font.now c.args.index (ap key_number c.in-OtherBlues.is) c.low_zone_faults.ensures (λ n. refl)

pub returns-in-FamilyBlues : goal.returns-in-FamilyBlues
unfolding first_font_rules
returns-in-FamilyBlues c =
    told_at first_font_rules (key_number c.args.key) (key_number keys.FamilyBlues) (high_zone_tests c.args.font.now keys.FamilyBlues c.args.index)
    c.high_zone_faults-in-FamilyBlues.result
    c.args.font.now c.args.index (ap key_number c.in-FamilyBlues.is) c.high_zone_faults-in-FamilyBlues.ensures (λ n. refl)

pub returns-in-FamilyOtherBlues : goal.returns-in-FamilyOtherBlues
unfolding first_font_rules
returns-in-FamilyOtherBlues c =
    told_at first_font_rules (key_number c.args.key) (key_number keys.FamilyOtherBlues) (low_zone_tests c.args.font.now keys.FamilyOtherBlues keys.FamilyBlues c.args.index)
    c.low_zone_faults-in-FamilyOtherBlues.result
    c.args.font.now c.args.index (ap key_number c.in-FamilyOtherBlues.is) c.low_zone_faults-in-FamilyOtherBlues.ensures (λ n. refl)

pub returns-in-BlueScale : goal.returns-in-BlueScale
unfolding first_font_rules
returns-in-BlueScale c =
    told_at first_font_rules (key_number c.args.key) (key_number keys.BlueScale) (number_tests c.args.font.now keys.BlueScale c.args.index) c.number_faults.result
    c.args.font.now c.args.index (ap key_number c.in-BlueScale.is) c.number_faults.ensures (λ n. refl)

pub returns-in-BlueShift : goal.returns-in-BlueShift
unfolding first_font_rules
returns-in-BlueShift c =
    told_at first_font_rules (key_number c.args.key) (key_number keys.BlueShift) (number_tests c.args.font.now keys.BlueShift c.args.index) c.number_faults-in-BlueShift.result
    c.args.font.now c.args.index (ap key_number c.in-BlueShift.is) c.number_faults-in-BlueShift.ensures (λ n. refl)

pub returns-in-BlueFuzz : goal.returns-in-BlueFuzz
unfolding first_font_rules
returns-in-BlueFuzz c =
    told_at first_font_rules (key_number c.args.key) (key_number keys.BlueFuzz) (number_tests c.args.font.now keys.BlueFuzz c.args.index) c.number_faults-in-BlueFuzz.result
    c.args.font.now c.args.index (ap key_number c.in-BlueFuzz.is) c.number_faults-in-BlueFuzz.ensures (λ n. refl)

pub returns-in-StdHw : goal.returns-in-StdHw
unfolding first_font_rules
returns-in-StdHw c =
    told_at first_font_rules (key_number c.args.key) (key_number keys.StdHw) (width_tests c.args.font.now keys.StdHw c.args.index) c.width_faults.result
    c.args.font.now c.args.index (ap key_number c.in-StdHw.is) c.width_faults.ensures (λ n. refl)

pub returns-in-StdVw : goal.returns-in-StdVw
unfolding first_font_rules
returns-in-StdVw c =
    told_at first_font_rules (key_number c.args.key) (key_number keys.StdVw) (width_tests c.args.font.now keys.StdVw c.args.index) c.width_faults-in-StdVw.result
    c.args.font.now c.args.index (ap key_number c.in-StdVw.is) c.width_faults-in-StdVw.ensures (λ n. refl)

pub returns-in-StemSnapH : goal.returns-in-StemSnapH
unfolding first_font_rules
returns-in-StemSnapH c =
    told_at first_font_rules (key_number c.args.key) (key_number keys.StemSnapH) (snap_tests c.args.font.now keys.StemSnapH keys.StdHw c.args.index) c.snap_faults.result
    c.args.font.now c.args.index (ap key_number c.in-StemSnapH.is) c.snap_faults.ensures (λ n. refl)

pub returns-in-StemSnapV : goal.returns-in-StemSnapV
unfolding first_font_rules
returns-in-StemSnapV c =
    told_at first_font_rules (key_number c.args.key) (key_number keys.StemSnapV) (snap_tests c.args.font.now keys.StemSnapV keys.StdVw c.args.index)
    c.snap_faults-in-StemSnapV.result
    c.args.font.now c.args.index (ap key_number c.in-StemSnapV.is) c.snap_faults-in-StemSnapV.ensures (λ n. refl)

pub returns-in-FontMatrix : goal.returns-in-FontMatrix
unfolding first_font_rules
returns-in-FontMatrix c =
    told_at first_font_rules (key_number c.args.key) (key_number keys.FontMatrix) [] c.empty-in-FontMatrix.result c.args.font.now c.args.index
    (ap key_number c.in-FontMatrix.is) c.empty-in-FontMatrix.ensures (λ n. refl)

pub returns-in-FontBBox : goal.returns-in-FontBBox
unfolding first_font_rules
returns-in-FontBBox c =
    told_at first_font_rules (key_number c.args.key) (key_number keys.FontBBox) [] c.empty-in-FontBBox.result c.args.font.now c.args.index
    (ap key_number c.in-FontBBox.is) c.empty-in-FontBBox.ensures (λ n. refl)

pub returns-in-Xuid : goal.returns-in-Xuid
unfolding first_font_rules
returns-in-Xuid c =
    told_at first_font_rules (key_number c.args.key) (key_number keys.Xuid) [] c.empty-in-Xuid.result c.args.font.now c.args.index
    (ap key_number c.in-Xuid.is) c.empty-in-Xuid.ensures (λ n. refl)

pub returns-in-LanguageGroup : goal.returns-in-LanguageGroup
unfolding first_font_rules
returns-in-LanguageGroup c =
    told_at first_font_rules (key_number c.args.key) (key_number keys.LanguageGroup) [] c.empty-in-LanguageGroup.result c.args.font.now c.args.index
    (ap key_number c.in-LanguageGroup.is) c.empty-in-LanguageGroup.ensures (λ n. refl)
