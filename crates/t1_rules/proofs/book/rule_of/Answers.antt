use Rattle.std.proofs.Common.{◌≡◌, ◌+◌, ap, ◌∙◌, arith}
use Rattle.t1_rules.specs.Book.{number_of}
use Rattle.t1_rules.proofs.Lemmas.Book.{number_at}
use Rattle.t1_rules.proofs.book.rule_of.Goals as goal

pub returns-in-Some-clause-some : goal.returns-in-Some-clause-some
returns-in-Some-clause-some c =
    let there = c.in-Some.ensures.lookup in
    let place : 1 + c.from.result ≡ c.args.number = omega (arith, c.from.ensures, c.if-number-eq0.false) in
    ap (λ r. number_of r.0) there.1 ∙ number_at c.rows.result.now c.rows.ensures c.from.result c.in-Some.row.now there.3.0 ∙ place
