use Rattle.t1_font.specs.declared.key.Key.TheVariants as keys
use Rattle.std.proofs.Common.{refl, ap, sym, ◌∙◌}
use Rattle.t1_rules.specs.FontRules.{later_font_rules}
use Rattle.t1_rules.specs.Keys.{key_number}
use Rattle.t1_rules.specs.Private.KeyTests.{blue_tests, later_snap_tests, sign_tests, whole_tests}
use Rattle.t1_rules.proofs.Lemmas.FontRules.{no_later_rule, told_at}
use Rattle.t1_rules.proofs.font_rules.later_value_faults.Goals as goal

pub returns-in-OtherBlues : goal.returns-in-OtherBlues
unfolding later_font_rules
returns-in-OtherBlues c =
    told_at later_font_rules (key_number c.args.key) (key_number keys.OtherBlues) (whole_tests c.args.font.now keys.OtherBlues c.args.index) c.whole_faults.result c.args.font.now c.args.index
    (ap key_number c.in-OtherBlues.is) c.whole_faults.ensures (λ n. refl)

pub returns-in-FamilyBlues : goal.returns-in-FamilyBlues
unfolding later_font_rules
returns-in-FamilyBlues c =
    told_at later_font_rules (key_number c.args.key) (key_number keys.FamilyBlues) (whole_tests c.args.font.now keys.FamilyBlues c.args.index) c.whole_faults-in-FamilyBlues.result c.args.font.now c.args.index
    (ap key_number c.in-FamilyBlues.is) c.whole_faults-in-FamilyBlues.ensures (λ n. refl)

pub returns-in-FamilyOtherBlues : goal.returns-in-FamilyOtherBlues
unfolding later_font_rules
returns-in-FamilyOtherBlues c =
    told_at later_font_rules (key_number c.args.key) (key_number keys.FamilyOtherBlues) (whole_tests c.args.font.now keys.FamilyOtherBlues c.args.index) c.whole_faults-in-FamilyOtherBlues.result c.args.font.now c.args.index
    (ap key_number c.in-FamilyOtherBlues.is) c.whole_faults-in-FamilyOtherBlues.ensures (λ n. refl)

pub returns-in-StdHw : goal.returns-in-StdHw
unfolding later_font_rules
returns-in-StdHw c =
    told_at later_font_rules (key_number c.args.key) (key_number keys.StdHw) (sign_tests c.args.font.now keys.StdHw c.args.index) c.sign_faults.result c.args.font.now c.args.index
    (ap key_number c.in-StdHw.is) c.sign_faults.ensures (λ n. refl)

pub returns-in-StdVw : goal.returns-in-StdVw
unfolding later_font_rules
returns-in-StdVw c =
    told_at later_font_rules (key_number c.args.key) (key_number keys.StdVw) (sign_tests c.args.font.now keys.StdVw c.args.index) c.sign_faults-in-StdVw.result c.args.font.now c.args.index
    (ap key_number c.in-StdVw.is) c.sign_faults-in-StdVw.ensures (λ n. refl)

pub returns-in-StemSnapH : goal.returns-in-StemSnapH
unfolding later_font_rules
returns-in-StemSnapH c =
    told_at later_font_rules (key_number c.args.key) (key_number keys.StemSnapH) (later_snap_tests c.args.font.now keys.StemSnapH keys.StdHw c.args.index) c.later_snap_faults.result c.args.font.now c.args.index
    (ap key_number c.in-StemSnapH.is) c.later_snap_faults.ensures (λ n. refl)

pub returns-in-StemSnapV : goal.returns-in-StemSnapV
unfolding later_font_rules
returns-in-StemSnapV c =
    told_at later_font_rules (key_number c.args.key) (key_number keys.StemSnapV) (later_snap_tests c.args.font.now keys.StemSnapV keys.StdVw c.args.index) c.later_snap_faults-in-StemSnapV.result c.args.font.now c.args.index
    (ap key_number c.in-StemSnapV.is) c.later_snap_faults-in-StemSnapV.ensures (λ n. refl)

pub returns-in-FontType : goal.returns-in-FontType
returns-in-FontType c = λ n. c.empty.ensures n ∙ sym (no_later_rule c.args.key c.in-FontType.is n c.args.font.now c.args.index)

pub returns-in-BlueValues : goal.returns-in-BlueValues
unfolding later_font_rules
returns-in-BlueValues c =
    told_at later_font_rules (key_number c.args.key) (key_number keys.BlueValues) (blue_tests c.args.font.now c.args.index) c.blue_faults.result
    c.args.font.now c.args.index (ap key_number c.in-BlueValues.is) c.blue_faults.ensures (λ n. refl)
