use Rattle.t1_scan.proofs.TokensFound.{refuses_the_rest}
use Rattle.t1_scan.proofs.laws.nothing_else_is_read.Goals as goal

pub returns-clause-refuses : goal.returns-clause-refuses
returns-clause-refuses c = refuses_the_rest
