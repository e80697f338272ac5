use Rattle.t1_char.proofs.Telling.{found_subrs_are_called}
use Rattle.t1_char.proofs.laws.steps_tell_calls_and_ends.Goals as goal

pub returns-clause-found : goal.returns-clause-found
returns-clause-found c = found_subrs_are_called
