use Rattle.t1_font.proofs.BrokenRead.{subr_too_long, glyph_too_long, subr_number_first}
use Rattle.t1_font.proofs.refusal_laws.long_charstrings.Goals as goal

pub returns-clause-subrs : goal.returns-clause-subrs
returns-clause-subrs c = subr_too_long

pub returns-clause-glyphs : goal.returns-clause-glyphs
returns-clause-glyphs c = glyph_too_long

pub returns-clause-number : goal.returns-clause-number
returns-clause-number c = subr_number_first
