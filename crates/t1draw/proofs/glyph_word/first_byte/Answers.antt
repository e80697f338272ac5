use Rattle.std.proofs.Common.{arith}
use Rattle.t1draw.proofs.GlyphWordLemmas.{starts_escape, starts_plain}
use Rattle.t1draw.proofs.glyph_word.first_byte.Goals as goal

pub returns-in-92-default-clause-value : goal.returns-in-92-default-clause-value
returns-in-92-default-clause-value c = rw (starts_escape _ _ _ c.in_ok-rest.ensures.cases.0 (omega arith)) c.escaped_byte.ensures.value

pub returns-in_default-clause-value : goal.returns-in_default-clause-value
returns-in_default-clause-value c = starts_plain _ _ _ c.in_ok-rest.ensures.cases.0 (omega arith)
