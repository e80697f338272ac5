use Rattle.std.proofs.Common.{◌∙◌, List, ap, ℕ, subst}
use Rattle.t1_io.specs.Devices.{Writes}
use Rattle.t1_summary.proofs.RuleLines.{Wrote-nil, none_told, rule_told}
use Rattle.t1_rules.specs.Levels.{level_text}
use Rattle.t1_summary.proofs.lines.put_rule.Goals as goal

pub returns-then-lines-eq0 : goal.returns-then-lines-eq0
returns-then-lines-eq0 g c =
    rw (none_told c.args.tally.now c.args.rule c.lines_of-lines.result c.lines_of-lines.ensures c.if-lines-eq0.true) (Wrote-nil _)

pub returns : goal.returns
returns g c =
    subst (λ (text : List ℕ). Writes (g.W.Sink.state c.args.sink.now) (g.W.Sink.state c.put_parts.new.sink) text c.put_parts.result)
    (rule_told c.args.tally.now c.args.rule c.lines_of-lines.result c.blanks_before.result.now c.as_bytes-digits.result.now c.as_bytes.result.now
    c.as_bytes-2.result.now c.as_bytes-3.result.now c.lines_of-lines.ensures c.if-lines-eq0.false (c.as_bytes-digits.ensures.value ∙ c.format.ensures.text) c.blanks_before.ensures
    (c.as_bytes.ensures.value ∙ c.rule_code.ensures) (c.as_bytes-2.ensures.value ∙ c.rule_text.ensures)
    (c.as_bytes-3.ensures.value ∙ c.text.ensures ∙ ap level_text c.rule_level.ensures))
    c.put_parts.ensures
