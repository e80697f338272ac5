use Rattle.t1check.proofs.FilesAnswered.{all_answered}
use Rattle.t1check.proofs.laws.words_and_files_are_answered.Goals as goal

pub returns : goal.returns
returns c = all_answered c.runs_keep_promises.ensures
