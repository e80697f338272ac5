use Rattle.t1_many.proofs.LineKinds.{have_kinds, name_rules}
use Rattle.t1_many.proofs.Rows.{one_row}
use Rattle.t1_many.proofs.laws.a_text_is_one_row.Goals as goal

pub returns-clause-kinds : goal.returns-clause-kinds
returns-clause-kinds c = have_kinds

pub returns-clause-codes : goal.returns-clause-codes
returns-clause-codes c = name_rules

pub returns-clause-rows : goal.returns-clause-rows
returns-clause-rows c = one_row
