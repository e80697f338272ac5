use Rattle.t1_outline.proofs.Subpaths.{rules_ask_is_open}
use Rattle.t1_outline.proofs.laws.rules_ask_is_open.Goals as goal

pub returns : goal.returns
returns c = rules_ask_is_open
