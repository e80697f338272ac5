use Rattle.t1_lines.proofs.OneFault.{one_fault, one_line, one_split}
use Rattle.t1_lines.proofs.laws.a_line_tells_one_fault.Goals as goal

pub returns-clause-line : goal.returns-clause-line
returns-clause-line c = one_line

pub returns-clause-fault : goal.returns-clause-fault
returns-clause-fault c = one_fault

pub returns-clause-split : goal.returns-clause-split
returns-clause-split c = one_split
