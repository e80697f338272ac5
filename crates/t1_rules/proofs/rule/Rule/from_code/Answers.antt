use Rattle.std.proofs.Common.{ap, ◌∙◌}
use Rattle.t1_rules.specs.Book.{rules}
use Rattle.t1_rules.specs.Private.BookRows.{row_coded}
use Rattle.t1_rules.proofs.Lemmas.Book.{coded}
use Rattle.t1_rules.proofs.rule.Rule.from_code.Goals as goal

pub returns : goal.returns
returns c = c.rule_in.ensures ∙ ap (row_coded c.args.code.now) c.rows.ensures ∙ coded c.args.code.now rules
