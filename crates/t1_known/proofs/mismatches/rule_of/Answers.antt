use Rattle.t1_known.proofs.RuleWords.{rule_alone, rule_there}
use Rattle.t1_known.proofs.mismatches.rule_of.Goals as goal

pub returns-in-Some : goal.returns-in-Some
returns-in-Some c = rule_there c.args.kind.now (c.in-Some.rule.now, c.in-Some.field-0-1.now) c.in-Some.ensures

pub returns-in-None : goal.returns-in-None
returns-in-None c = rule_alone c.args.kind.now c.in-None.ensures
