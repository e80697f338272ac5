use Rattle.t1_answer_all.proofs.FilesAgain.{files_quiet_again}
use Rattle.t1_answer_all.proofs.laws.an_update_of_files_is_quiet_next_time.Goals as goal

pub returns : goal.returns
returns c = files_quiet_again c.updates_are_read_back.ensures.reached c.a_text_is_one_row.ensures.codes
