use Rattle.std.proofs.Common.{arith}
use Rattle.t1_font.specs.Rows.{token_before, tokens_within}
use Rattle.t1_font.proofs.RowsLeft.{few_in_text}
use Rattle.t1_font.proofs.row.Row.new.Goals as goal

pub returns-clause-few : goal.returns-clause-few
unfolding tokens_within token_before
returns-clause-few c = omega (arith, few_in_text c.args.mode c.args.text.now)
