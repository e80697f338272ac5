use Rattle.t1_printers.proofs.Fitting.{lines_fit, no_more}
use Rattle.t1_printers.proofs.laws.lines_fit_terminals.Goals as goal

pub returns-clause-width : goal.returns-clause-width
returns-clause-width c = lines_fit

pub returns-clause-most : goal.returns-clause-most
returns-clause-most c = no_more
