use Rattle.t1_reason_texts.proofs.PlainTexts.{are_one_line}
use Rattle.t1_reason_texts.proofs.laws.reason_texts_are_one_line.Goals as goal

pub returns : goal.returns
returns c = are_one_line
