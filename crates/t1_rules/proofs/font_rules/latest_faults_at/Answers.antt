use Rattle.std.proofs.Common.{sym, ◌∙◌}
use Rattle.t1_rules.proofs.Lemmas.FontRules.{no_latest_rule_of_kind}
use Rattle.t1_rules.proofs.font_rules.latest_faults_at.Goals as goal

pub returns-in-Subrs : goal.returns-in-Subrs
returns-in-Subrs c = λ n. c.empty.ensures n ∙ sym (no_latest_rule_of_kind c.args.kind c.in-Subrs.is n c.args.font.now c.args.index)
