use Rattle.std.proofs.Common.{arith}
use Rattle.t1draw.proofs.GlyphWordLemmas.{escaped_backslash, escaped_x, no_escape, other_escape}
use Rattle.t1draw.proofs.glyph_word.escaped_byte.Goals as goal

pub returns-in_err-rest-clause-value : goal.returns-in_err-rest-clause-value
returns-in_err-rest-clause-value c = rw c.from_residual.ensures (no_escape _ c.in_err-rest.ensures.cases)

pub returns-in-92-default-clause-value : goal.returns-in-92-default-clause-value
returns-in-92-default-clause-value c = escaped_backslash _ _ _ c.in_ok-rest.ensures.cases.0 (omega arith)

pub returns-in-120-default-clause-value : goal.returns-in-120-default-clause-value
returns-in-120-default-clause-value c = rw (escaped_x _ _ _ c.in_ok-rest.ensures.cases.0 (omega arith)) c.byte_of_digits.ensures.value

pub returns-in_default-clause-value : goal.returns-in_default-clause-value
returns-in_default-clause-value c = other_escape _ _ _ c.in_ok-rest.ensures.cases.0 (omega arith) (omega arith)
