use Rattle.std.proofs.Common.{refl, rules}
use Rattle.t1_char.specs.declared.lines.Passing.TheVariants.{Numbers, Returned}
use Rattle.t1_report.proofs.PassedLines.{has_stayed}
use Rattle.t1_report.proofs.walk.glyph_run.go_on_by_numbers.Goals as goal

pub returns-then-is_calm-clause-asked : goal.returns-then-is_calm-clause-asked
returns-then-is_calm-clause-asked c =
    has_stayed Numbers refl c.args.machine.now c.go_far.new.self _ c.go_far.result.way c.args.watches.now
    (c.is_calm.ensures c.if-is_calm.true) c.go_far.ensures.asked

pub returns-else-is_calm-clause-asked : goal.returns-else-is_calm-clause-asked
returns-else-is_calm-clause-asked c =
    has_stayed Returned refl c.args.machine.now c.go_far-else-is_calm.new.self _ c.go_far-else-is_calm.result.way c.args.watches.now
    (search rules) c.go_far-else-is_calm.ensures.asked
