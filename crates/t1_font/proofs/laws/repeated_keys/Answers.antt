use Rattle.t1_font.proofs.Stating.{twice_is_again}
use Rattle.t1_font.proofs.laws.repeated_keys.Goals as goal

pub returns : goal.returns
returns c = twice_is_again
