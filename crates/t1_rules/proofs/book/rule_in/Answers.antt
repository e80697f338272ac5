use Rattle.std.proofs.Common.{◌∙◌, refl, sym}
use Rattle.t1_rules.proofs.Lemmas.Book.{empty_row, no_row, row_next}
use Rattle.t1_rules.proofs.book.rule_in.Goals as goal

pub returns-then-eq : goal.returns-then-eq
returns-then-eq c =
    let at = row_next c.args.code.now c.args.rows.now c.loop-row.row-index empty_row c.loop-row-test.true in
    sym (sym c.loop-row.invariant ∙ at ∙ rw (sym c.as_bytes.ensures.value, sym c.eq.ensures, c.if-eq.true) refl)

pub loop-row-preserved : goal.loop-row-preserved
loop-row-preserved c =
    let at = row_next c.args.code.now c.args.rows.now c.loop-row.row-index empty_row c.loop-row-test.true in
    sym (sym c.loop-row.invariant ∙ at ∙ rw (sym c.as_bytes.ensures.value, sym c.eq.ensures, c.if-eq.false) refl)

pub returns : goal.returns
returns c = sym (sym c.loop-row.invariant ∙ no_row c.args.code.now c.args.rows.now c.loop-row.row-index c.loop-row-test.false)
