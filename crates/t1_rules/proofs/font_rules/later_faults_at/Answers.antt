use Rattle.std.proofs.Common.{sym, ◌∙◌}
use Rattle.t1_rules.proofs.Lemmas.FontRules.{no_later_rule_of_kind}
use Rattle.t1_rules.proofs.font_rules.later_faults_at.Goals as goal

pub returns-in-File : goal.returns-in-File
returns-in-File c = λ n. c.empty.ensures n ∙ sym (no_later_rule_of_kind c.args.kind c.in-File.is n c.args.font.now c.args.index)
