use Rattle.std.proofs.Common.{ap, ◌∙◌}
use Rattle.t1_rules.specs.Keys.{kind_number}
use Rattle.t1_rules.proofs.Lemmas.KeyRows.{row_kind}
use Rattle.t1_rules.proofs.keys.kind_of.Goals as goal

pub returns-in-Some-clause-some : goal.returns-in-Some-clause-some
returns-in-Some-clause-some c =
    let there = c.in-Some.ensures.lookup in
    ap (λ row. kind_number row.1) there.1 ∙ row_kind c.rows.result.now c.rows.ensures.kinds c.from.result c.in-Some.row.now there.3.0
    ∙ c.from.ensures
