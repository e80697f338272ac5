use Rattle.t1_printers.proofs.FontCases.{checked_fonts, other_fonts}
use Rattle.t1_printers.proofs.laws.fonts_have_cases.Goals as goal

pub returns-clause-checked : goal.returns-clause-checked
returns-clause-checked c = checked_fonts

pub returns-clause-others : goal.returns-clause-others
returns-clause-others c = other_fonts
