use Rattle.std.proofs.Common.{sym}
use Rattle.t1_rules.proofs.Lemmas.KeyRows.{no_places}
use Rattle.t1_rules.proofs.keys.places.Goals as goal

pub returns-in-None : goal.returns-in-None
returns-in-None c = sym (no_places c.args.edition c.args.font.now c.args.key c.in-None.ensures.none)
