use Rattle.t1_font.proofs.BrokenRead.{ends_too_soon, subr_cut_off, glyph_cut_off}
use Rattle.t1_font.proofs.refusal_laws.early_ends.Goals as goal

pub returns-clause-tokens : goal.returns-clause-tokens
returns-clause-tokens c = ends_too_soon

pub returns-clause-subrs : goal.returns-clause-subrs
returns-clause-subrs c = subr_cut_off

pub returns-clause-glyphs : goal.returns-clause-glyphs
returns-clause-glyphs c = glyph_cut_off
