use Rattle.std.proofs.Common.{◌≡◌, List, None, refl, ◌∙◌}
use Rattle.t1_char.specs.declared.edition.Edition.{Edition}
use Rattle.t1_char.specs.Steps.{StepView}
use Rattle.t1_char.specs.StepValues.{step_view}
use Rattle.t1_rules.specs.declared.rule.Rule.{Rule}
use Rattle.t1_rules.specs.declared.rule.Rule.TheVariants.{C01, C02, C03, C04, C05, C06, C07, C08, C09, S01, S02, S03, S04, GE01, GE02, W01, W02, P01, P02, P03, H01, H02, H03, H04, R01, R02, X01, X02, X03, X04, X05, X06, O01, O02, O03, O04, K01, K02, K03, K04, K05, K06, K07, H05, H06, H07, O05, O06, O07, O08, W03}
use Rattle.t1_reasons.specs.StepReasons.{step_reason}
use Rattle.t1_reasons.proofs.LawProofs.{tells_where, told_reason}
use Rattle.t1_reasons.proofs.steps_before.StepsBefore.reason.Goals as goal

pub returns-in-H02 : goal.returns-in-H02
returns-in-H02 c = λ edition before st short broken.
    rw c.in-H02.is (c.stem_pair.ensures edition before st short ∙ rw (st.edition_is) refl)

pub returns-in-X05 : goal.returns-in-X05
returns-in-X05 c = λ edition before st short broken. rw c.in-X05.is (c.miss_reason.ensures edition before st)

pub returns-in-X04 : goal.returns-in-X04
returns-in-X04 c = λ edition before st short broken. rw c.in-X04.is (c.pairs_reason.ensures edition before st)

pub returns-in-W01 : goal.returns-in-W01
returns-in-W01 c = λ edition before st short broken.
    c.told_where.ensures
    ∙ rw (c.has.ensures, broken, st.background)
    (told_reason edition c.args.sidebearings.now.components before (step_view c.args.step.now) c.args.rule (tells_where c.args.rule c.in-W01.is))

pub returns-in_default : goal.returns-in_default
returns-in_default c = λ edition before st short broken. elsewhere edition before c.args.rule refl
  where
    elsewhere : (edition : Edition) (before : List StepView) (rule : Rule) → c.args.rule ≡ rule
        → None ≡ step_reason edition c.args.sidebearings.now.components rule before (step_view c.args.step.now)
    elsewhere edition before C01 is = absurd (c.in_default.not-C01 is)
    elsewhere edition before C02 is = absurd (c.in_default.not-C02 is)
    elsewhere edition before C03 is = absurd (c.in_default.not-C03 is)
    elsewhere edition before C04 is = absurd (c.in_default.not-C04 is)
    elsewhere edition before C05 is = absurd (c.in_default.not-C05 is)
    elsewhere edition before C06 is = absurd (c.in_default.not-C06 is)
    elsewhere edition before C07 is = absurd (c.in_default.not-C07 is)
    elsewhere edition before C08 is = absurd (c.in_default.not-C08 is)
    elsewhere edition before C09 is = absurd (c.in_default.not-C09 is)
    elsewhere edition before S01 is = absurd (c.in_default.not-S01 is)
    elsewhere edition before S02 is = absurd (c.in_default.not-S02 is)
    elsewhere edition before S03 is = absurd (c.in_default.not-S03 is)
    elsewhere edition before S04 is = absurd (c.in_default.not-S04 is)
    elsewhere edition before GE01 is = absurd (c.in_default.not-GE01 is)
    elsewhere edition before GE02 is = absurd (c.in_default.not-GE02 is)
    elsewhere edition before W01 is = absurd (c.in_default.not-W01 is)
    elsewhere edition before W02 is = absurd (c.in_default.not-W02 is)
    elsewhere edition before P01 is = absurd (c.in_default.not-P01 is)
    elsewhere edition before P02 is = absurd (c.in_default.not-P02 is)
    elsewhere edition before P03 is = absurd (c.in_default.not-P03 is)
    elsewhere edition before H01 is = absurd (c.in_default.not-H01 is)
    elsewhere edition before H02 is = absurd (c.in_default.not-H02 is)
    elsewhere edition before H03 is = absurd (c.in_default.not-H03 is)
    elsewhere edition before H04 is = absurd (c.in_default.not-H04 is)
    elsewhere edition before R01 is = absurd (c.in_default.not-R01 is)
    elsewhere edition before R02 is = absurd (c.in_default.not-R02 is)
    elsewhere edition before X01 is = absurd (c.in_default.not-X01 is)
    elsewhere edition before X02 is = absurd (c.in_default.not-X02 is)
    elsewhere edition before X03 is = absurd (c.in_default.not-X03 is)
    elsewhere edition before X04 is = absurd (c.in_default.not-X04 is)
    elsewhere edition before X05 is = absurd (c.in_default.not-X05 is)
    elsewhere edition before X06 is = absurd (c.in_default.not-X06 is)
    elsewhere edition before O01 is = absurd (c.in_default.not-O01 is)
    elsewhere edition before O02 is = absurd (c.in_default.not-O02 is)
    elsewhere edition before O03 is = absurd (c.in_default.not-O03 is)
    elsewhere edition before O04 is = absurd (c.in_default.not-O04 is)
    elsewhere edition before K01 is = absurd (c.in_default.not-K01 is)
    elsewhere edition before K02 is = absurd (c.in_default.not-K02 is)
    elsewhere edition before K03 is = absurd (c.in_default.not-K03 is)
    elsewhere edition before K04 is = absurd (c.in_default.not-K04 is)
    elsewhere edition before K05 is = absurd (c.in_default.not-K05 is)
    elsewhere edition before K06 is = absurd (c.in_default.not-K06 is)
    elsewhere edition before K07 is = absurd (c.in_default.not-K07 is)
    elsewhere edition before H05 is = absurd (c.in_default.not-H05 is)
    elsewhere edition before H06 is = absurd (c.in_default.not-H06 is)
    elsewhere edition before H07 is = absurd (c.in_default.not-H07 is)
    elsewhere edition before O05 is = absurd (c.in_default.not-O05 is)
    elsewhere edition before O06 is = absurd (c.in_default.not-O06 is)
    elsewhere edition before O07 is = absurd (c.in_default.not-O07 is)
    elsewhere edition before O08 is = absurd (c.in_default.not-O08 is)
    elsewhere edition before W03 is = absurd (c.in_default.not-W03 is)
    elsewhere edition before _ is = refl
