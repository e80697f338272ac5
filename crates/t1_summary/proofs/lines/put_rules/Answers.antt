use Rattle.std.proofs.Common.{◌≡◌, ◌<◌, ◌∙◌, List, ap, arith, flat_map, length, subst, ℕ}
use Rattle.std.proofs.lemmas.List.{take_all}
use Rattle.t1_io.proofs.SinkLemmas.{PutFailed-part, Writes-failed}
use Rattle.t1_io.specs.Devices.{Writes, Wrote}
use Rattle.t1_rules.specs.declared.rule.Rule.{Rule}
use Rattle.t1_summary.proofs.Orders.{ranking_length}
use Rattle.t1_summary.proofs.RuleLines.{told_lines}
use Rattle.t1_summary.proofs.lines.put_rules.Goals as goal
use Rattle.t1_summary.specs.Private.Lines.{told_line}
use Rattle.t1_rules.specs.Book.{last_number}

pub returns-in_err-put_rule : goal.returns-in_err-put_rule
returns-in_err-put_rule g c =
    let long : length c.ranking.result ≡ last_number = ap length c.ranking.ensures ∙ ranking_length c.args.tally.now in
    let less : c.loop-rule.rule-index < length c.ranking.result = omega (arith, c.loop-rule-test.true) in
    subst (λ (text : List ℕ). Writes (g.W.Sink.state c.args.sink.now) (g.W.Sink.state c.put_rule.new.sink) text c.from_residual.result)
    (ap (λ (order : List Rule). flat_map (told_line c.args.tally.now) order) c.ranking.ensures ∙ told_lines c.args.tally.now _)
    (Writes-failed _ _ _ _ _ c.from_residual.ensures.1
    (PutFailed-part (told_line c.args.tally.now) c.ranking.result c.loop-rule.rule-index _ _ _ _ less
    c.loop-rule.invariant.wrote c.in_err-put_rule.ensures))

pub returns : goal.returns
returns g c =
    let long : length c.ranking.result ≡ last_number = ap length c.ranking.ensures ∙ ranking_length c.args.tally.now in
    subst (λ (text : List ℕ). Wrote (g.W.Sink.state c.args.sink.now) (g.W.Sink.state c.loop-rule.sink) text)
    (ap (λ (order : List Rule). flat_map (told_line c.args.tally.now) order)
    (take_all c.loop-rule.rule-index c.ranking.result (omega (arith, c.loop-rule-test.false)) ∙ c.ranking.ensures)
    ∙ told_lines c.args.tally.now _)
    c.loop-rule.invariant.wrote
