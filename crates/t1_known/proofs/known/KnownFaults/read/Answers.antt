use Rattle.std.proofs.Common.{◌≡◌, ◌+◌, Err, false, true, refl, subst, sym, rules}
use Rattle.t1_known.proofs.SoFar.{comment_read, line_failed, none_read, row_kept}
use Rattle.t1_known.specs.Lines.{is_comment}
use Rattle.t1_known.specs.Reads.{IsReadAs}
use Rattle.t1_known.proofs.known.KnownFaults.read.Goals as goal

pub loop-line-init : goal.loop-line-init
loop-line-init c = none_read c.args.text.now c.new-rows.result.entries c.new-rows.ensures.empty

pub returns-in_err-add_line : goal.returns-in_err-add_line
returns-in_err-add_line c =
    let is : c.from_residual.result ≡ Err c.in_err-add_line.field-0.0 = search rules in
    let other : is_comment c.in-Some.line.now ≡ false = search rules in
    subst (IsReadAs c.args.text.now) (sym is)
    (line_failed c.args.text.now c.loop-line.number c.loop-line.rest.now (record { number = c.loop-line.number + 1; text = c.in-Some.line })
    c.in-Some.behind.now c.loop-line.rows.entries c.add_line.new.rows.entries c.in_err-add_line.field-0.0 refl c.in-Some.ensures.0
    c.in-Some.ensures.1 c.loop-line.invariant other c.in_err-add_line.ensures)

pub loop-line-preserved-in_ok-add_line : goal.loop-line-preserved-in_ok-add_line
loop-line-preserved-in_ok-add_line c =
    let other : is_comment c.in-Some.line.now ≡ false = search rules in
    row_kept c.args.text.now c.loop-line.number c.loop-line.rest.now c.in-Some.line.now c.in-Some.behind.now c.loop-line.rows.entries
    c.in-Some.ensures.0 c.in-Some.ensures.1 c.loop-line.invariant other c.add_line.new.rows.entries c.in_ok-add_line.ensures

pub loop-line-preserved : goal.loop-line-preserved
loop-line-preserved c =
    let is : is_comment c.in-Some.line.now ≡ true = search rules in
    comment_read c.args.text.now c.loop-line.number c.loop-line.rest.now c.in-Some.line.now c.in-Some.behind.now c.loop-line.rows.entries
    c.in-Some.ensures.0 c.in-Some.ensures.1 c.loop-line.invariant is
