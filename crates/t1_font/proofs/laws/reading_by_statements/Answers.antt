use Rattle.t1_font.proofs.Reading.{read_as_stated}
use Rattle.t1_font.proofs.laws.reading_by_statements.Goals as goal

pub returns-clause-clear : goal.returns-clause-clear
returns-clause-clear c = read_as_stated

pub returns-clause-private : goal.returns-clause-private
returns-clause-private c = read_as_stated
