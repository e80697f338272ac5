use Rattle.t1_char.proofs.StepByStep.{ends_stop}
use Rattle.t1_char.proofs.laws.runs_go_step_by_step.Goals as goal

pub returns-clause-stops : goal.returns-clause-stops
returns-clause-stops c = ends_stop
