use Rattle.t1_options.proofs.settings.finding.start_of.Goals as goal

pub returns-in-Some : goal.returns-in-Some
returns-in-Some g c = rw c.in-Some.is c.start_at.ensures
