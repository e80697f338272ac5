use Rattle.t1_waiving.proofs.TextsRead.{texts_are_read}
use Rattle.t1_waiving.proofs.laws.written_texts_are_read.Goals as goal

pub returns : goal.returns
returns c = texts_are_read
