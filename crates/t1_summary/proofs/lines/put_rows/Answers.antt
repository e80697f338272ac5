use Rattle.std.proofs.Common.{◌∙◌}
use Rattle.t1_summary.proofs.RuleLines.{Wrote-nil}
use Rattle.t1_summary.proofs.lines.put_rows.Goals as goal
use Rattle.t1_summary.specs.Summaries.{rows_line}

pub returns-in-Some : goal.returns-in-Some
unfolding rows_line
returns-in-Some g c = rw c.in-Some.is (rw (c.as_bytes.ensures.value ∙ c.format.ensures.text, c.one_or_many.ensures) at c.put_parts.ensures)

pub returns-in-None : goal.returns-in-None
unfolding rows_line
returns-in-None g c = rw c.in-None.is (Wrote-nil _)
