use Rattle.t1_report.proofs.Asked.{asked_to_first, asked_to_end}
use Rattle.t1_report.proofs.laws.waivers_are_asked_to_the_first_use.Goals as goal

pub returns-clause-used : goal.returns-clause-used
returns-clause-used c = asked_to_first

pub returns-clause-unused : goal.returns-clause-unused
returns-clause-unused c = asked_to_end
