use Rattle.std.proofs.Common.{◌&&◌, nat_lt, rules, tests}
use Rattle.std.proofs.lemmas.Iterator.{YieldsList-from_slice}
use Rattle.std.proofs.lemmas.Iterator.Search.{any_from_yields_List}
use Rattle.t1_answer_all.proofs.ending.any_failing.Goals as goal
use Rattle.t1_answer_all.specs.Endings.{any_failing}
use Rattle.t1_rules.specs.Book.{number_of}
use Rattle.t1_rules.specs.Mask.{has}
use Rattle.t1_rules.specs.declared.rule.Rule.{Rule}
use Rattle.t1_summary.specs.Tallies.{lines_in}

pub returns : goal.returns
unfolding any_failing
returns c =
    any_from_yields_List (λ (rule : Rule). has c.args.failing (number_of rule) && nat_lt 0 (lines_in c.args.tally.now rule)) _ _ _ c.any.ensures.ran
    (YieldsList-from_slice c.args.rules.now cc) (λ x b q k. search (rules, tests))
