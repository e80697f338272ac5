use Rattle.std.proofs.Common.{◌∙◌, length, replicate, ℕ}
use Rattle.std.proofs.lemmas.List.{take_rest}
use Rattle.t1_summary.proofs.RuleLines.{blanks_left}
use Rattle.t1_summary.proofs.lines.blanks_before.Goals as goal

pub returns : goal.returns
returns c = take_rest (replicate {A = ℕ} 7 32) c.min.result ∙ blanks_left (length c.args.digits.now) c.min.result c.min.ensures
