use Rattle.t1_reasons.proofs.ShortCharstrings.{short_are_shorter}
use Rattle.t1_reasons.proofs.laws.short_charstrings_are_shorter.Goals as goal

pub returns : goal.returns
returns c = short_are_shorter
