use Rattle.t1_seal.proofs.CutRows.{cut_files_tell}
use Rattle.t1_seal.proofs.laws.cut_files_tell_of_loss.Goals as goal

pub returns : goal.returns
returns c = cut_files_tell
