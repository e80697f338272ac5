use Rattle.std.proofs.Common.{rules}
use Rattle.std.proofs.lemmas.Fn.{always_returns_same}
use Rattle.t1_summary.proofs.Orders.{before, before_order, sorted_book}
use Rattle.t1_summary.proofs.ranking.ranking.Goals as goal

pub returns : goal.returns
returns c =
    sorted_book c.args.tally.now _ c.sort_unstable_by.new.self c.all_rules.ensures c.sort_unstable_by.ensures.permutation
    (c.sort_unstable_by.ensures.sorted (before c.args.tally.now) (before_order c.args.tally.now)
    (always_returns_same _ _ _ (λ a r f' called. search rules)))
