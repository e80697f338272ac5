use Rattle.t1_options.proofs.Together.{meant_go_together}
use Rattle.t1_options.proofs.laws.options_go_together.Goals as goal

pub returns : goal.returns
returns c = meant_go_together
