use Rattle.t1_lines.proofs.LinesWritten.{written}
use Rattle.t1_lines.proofs.laws.faults_are_written_as_lines.Goals as goal

pub returns : goal.returns
returns c = written
