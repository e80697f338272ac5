use Rattle.t1_waiving.proofs.NoneLeft.{no_glyph_line, none_unused}
use Rattle.t1_waiving.proofs.laws.written_waivers_leave_no_glyph_line.Goals as goal

pub returns-clause-lines : goal.returns-clause-lines
returns-clause-lines c = no_glyph_line

pub returns-clause-waivers : goal.returns-clause-waivers
returns-clause-waivers c = none_unused
