use Rattle.t1_reason_texts.specs.WordTexts.{word_reason_text}
use Rattle.t1_reason_texts.proofs.word_texts.WordReasonTextDisplay.fmt.Goals as goal

pub returns-in-ReaderWord-clause-writes : goal.returns-in-ReaderWord-clause-writes
unfolding word_reason_text
returns-in-ReaderWord-clause-writes g c =
    rw c.in-ReaderWord.is (rw (c.word_at.ensures, c.entry_at.ensures) at c.write-in-ReaderWord.ensures.writes)
