use Rattle.t1_reason_texts.specs.Texts.{outline_reason_text}
use Rattle.t1_reason_texts.proofs.text.OutlineReasonTextDisplay.fmt.Goals as goal

pub returns-in-Triple-clause-writes : goal.returns-in-Triple-clause-writes
unfolding outline_reason_text
returns-in-Triple-clause-writes g c =
    rw c.in-Triple.is (rw (c.off_words-off.ensures, c.middle_that_does.ensures) at c.write-in-Triple.ensures.writes)
