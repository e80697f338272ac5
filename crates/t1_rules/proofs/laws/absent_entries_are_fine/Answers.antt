use Rattle.t1_rules.proofs.Lemmas.AbsentEntries.{absent_is_fine, absent_is_told}
use Rattle.t1_rules.proofs.laws.absent_entries_are_fine.Goals as goal

pub returns-clause-nothing : goal.returns-clause-nothing
returns-clause-nothing c = absent_is_fine

pub returns-clause-these : goal.returns-clause-these
returns-clause-these c = absent_is_told
