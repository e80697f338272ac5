use Rattle.std.proofs.Common.{◌≡◌, ◌-◌, ap, arith}
use Rattle.t1_rules.specs.Book.{number_of}
use Rattle.t1_rules.proofs.Lemmas.Book.{row_at}
use Rattle.t1_rules.proofs.book.row_of.Goals as goal

pub returns-clause-level : goal.returns-clause-level
returns-clause-level c =
    let place : c.from.result ≡ number_of c.args.rule - 1 = omega (arith, c.from.ensures, c.number.ensures.number) in
    ap (λ r. r.1) (row_at c.rows.result.now c.rows.ensures c.args.rule c.from.result place _)

pub returns-clause-code : goal.returns-clause-code
returns-clause-code c =
    let place : c.from.result ≡ number_of c.args.rule - 1 = omega (arith, c.from.ensures, c.number.ensures.number) in
    ap (λ r. r.2) (row_at c.rows.result.now c.rows.ensures c.args.rule c.from.result place _)

pub returns-clause-text : goal.returns-clause-text
returns-clause-text c =
    let place : c.from.result ≡ number_of c.args.rule - 1 = omega (arith, c.from.ensures, c.number.ensures.number) in
    ap (λ r. r.3) (row_at c.rows.result.now c.rows.ensures c.args.rule c.from.result place _)
