use Rattle.t1_answer.proofs.RunLaws.{kept}
use Rattle.t1_answer.proofs.laws.runs_keep_promises.Goals as goal

pub returns : goal.returns
returns c = kept
