use Rattle.t1_seal.proofs.ReadRows.{read_rows_are_written}
use Rattle.t1_seal.proofs.WrittenRows.{reads_written_rows}
use Rattle.t1_seal.proofs.laws.rows_of_segments.Goals as goal

pub returns-clause-read : goal.returns-clause-read
returns-clause-read c = reads_written_rows

pub returns-clause-written : goal.returns-clause-written
returns-clause-written c = read_rows_are_written
