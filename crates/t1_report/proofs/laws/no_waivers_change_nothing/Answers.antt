use Rattle.t1_report.proofs.Asked.{asked_without}
use Rattle.t1_report.proofs.Told.{told_without}
use Rattle.t1_report.proofs.laws.no_waivers_change_nothing.Goals as goal

pub returns-clause-told : goal.returns-clause-told
returns-clause-told c = told_without

pub returns-clause-turns : goal.returns-clause-turns
returns-clause-turns c = asked_without
