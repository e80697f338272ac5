-- The line of a rule, if it has lines.
use Rattle.std.specs.Prelude.{ℕ, ◌==◌, List, [], if◌then◌else◌}
use Rattle.t1_rules.specs.declared.rule.Rule.{Rule}
use Rattle.t1_summary.specs.Summaries.{rule_line}
use Rattle.t1_summary.specs.Tallies.{lines_in}
use Rattle.t1_summary.specs.declared.tally.Tally.{Tally}

-- The line of a rule, or nothing if it has no lines.
unfoldable pub told_line : Tally → Rule → List ℕ
told_line tally rule = if lines_in tally rule == 0 then [] else rule_line tally rule
