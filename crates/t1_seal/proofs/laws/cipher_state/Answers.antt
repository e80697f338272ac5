use Rattle.t1_seal.proofs.States.{starts_at_the_start, state_runs_along}
use Rattle.t1_seal.proofs.laws.cipher_state.Goals as goal

pub returns-clause-start : goal.returns-clause-start
returns-clause-start c = starts_at_the_start

pub returns-clause-byte : goal.returns-clause-byte
returns-clause-byte c = state_runs_along
