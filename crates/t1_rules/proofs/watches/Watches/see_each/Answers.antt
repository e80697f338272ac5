use Rattle.t1_rules.proofs.watches.Watches.see_each.Goals as goal

pub returns : goal.returns
returns c = record { stands = c.see_known.ensures.stands; answer = c.see_known.ensures.answer }
