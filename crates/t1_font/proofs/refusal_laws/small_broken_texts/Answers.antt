use Rattle.t1_font.proofs.BrokenExample.{small_texts_break}
use Rattle.t1_font.proofs.refusal_laws.small_broken_texts.Goals as goal

pub returns : goal.returns
returns c = small_texts_break
