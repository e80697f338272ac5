use Rattle.std.proofs.Common.{◌≡◌, ◌∙◌, ap, sym, Err, arith, rules, length, slice_range, subst}
use Rattle.t1_report.specs.WaiverViews.{IsReadAs, waivers_now}
use Rattle.t1_report.specs.Waivers.{line_read, lines_read, waivers_of}
use Rattle.t1_report.proofs.WaiverLines.{last_line, line_bad, line_on, line_taken, refused}
use Rattle.t1_report.proofs.waivers.Waivers.read.Goals as goal
use Rattle.t1_report.proofs.waivers.Waivers.read.Goals.{then-byte-eq10+in_ok-add_line, else-byte-eq10}

pub loop-at-preserved : goal.loop-at-preserved
loop-at-preserved c = elim c.if-byte-eq10.branch [
  | then-byte-eq10+in_ok-add_line w ↦ rw (w.pairs-is, w.start-is) (record {
    read = line_taken c.args.edition (waivers_now c.loop-at.pairs.keys) (waivers_now w.add_line.new.pairs.keys) c.args.text.now c.loop-at.start c.loop-at.at 0
        c.loop-at-test.true w.if-byte-eq10.true w.in_ok-add_line.ensures.read ∙ c.loop-at.invariant.read;
    few = omega (arith, w.in_ok-add_line.ensures.few, c.loop-at.invariant.few, c.loop-at.invariant.behind);
    behind = omega arith;
  })
  | else-byte-eq10 w ↦ rw (w.pairs-is, w.start-is) (record {
    read = ap (λ lines. lines_read c.args.edition (waivers_now c.loop-at.pairs.keys) lines)
        (line_on c.args.text.now c.loop-at.start c.loop-at.at 0 c.loop-at.invariant.behind c.loop-at-test.true w.if-byte-eq10.false) ∙ c.loop-at.invariant.read;
    few = c.loop-at.invariant.few;
    behind = omega (arith, c.loop-at.invariant.behind);
  })
]

pub returns : goal.returns
returns c =
    let all : c.loop-at.at ≡ length c.args.text.now = omega (arith, c.loop-at-test.false, c.loop-at.auto.at-end) in
    sym c.loop-at.invariant.read ∙ last_line c.args.edition (waivers_now c.loop-at.pairs.keys) c.args.text.now c.loop-at.start c.loop-at.at all
    ∙ c.in_ok-add_line-2.ensures.read

pub returns-in_err-add_line : goal.returns-in_err-add_line
returns-in_err-add_line c =
    let is : c.from_residual.result ≡ Err c.in_err-add_line.field-0.0 = search rules in
    subst (IsReadAs (λ w. w) (waivers_of c.args.edition c.args.text.now)) (sym is)
    (refused (waivers_now c.add_line.new.pairs.keys) (waivers_of c.args.edition c.args.text.now)
    (line_read c.args.edition (waivers_now c.loop-at.pairs.keys) (slice_range c.args.text.now c.loop-at.start c.loop-at.at)) c.in_err-add_line.field-0.0
    (λ bad. sym c.loop-at.invariant.read ∙ line_bad c.args.edition (waivers_now c.loop-at.pairs.keys) c.args.text.now c.loop-at.start c.loop-at.at 0
    c.loop-at-test.true c.if-byte-eq10.true bad)
    c.in_err-add_line.ensures.read)

pub returns-in_err-add_line-2 : goal.returns-in_err-add_line-2
returns-in_err-add_line-2 c =
    let all : c.loop-at.at ≡ length c.args.text.now = omega (arith, c.loop-at-test.false, c.loop-at.auto.at-end) in
    let is : c.from_residual-in_err-add_line-2.result ≡ Err c.in_err-add_line-2.field-0.0 = search rules in
    subst (IsReadAs (λ w. w) (waivers_of c.args.edition c.args.text.now)) (sym is)
    (refused (waivers_now c.add_line-2.new.pairs.keys) (waivers_of c.args.edition c.args.text.now)
    (line_read c.args.edition (waivers_now c.loop-at.pairs.keys) (slice_range c.args.text.now c.loop-at.start (length c.args.text.now))) c.in_err-add_line-2.field-0.0
    (λ bad. sym c.loop-at.invariant.read ∙ last_line c.args.edition (waivers_now c.loop-at.pairs.keys) c.args.text.now c.loop-at.start c.loop-at.at all ∙ bad)
    c.in_err-add_line-2.ensures.read)
