use Rattle.std.proofs.Common.{◌≡◌, max, map}
use Rattle.t1_font.specs.Views.{number_pair}
use Rattle.t1_rules.specs.Keys.{subr_places}
use Rattle.t1_rules.proofs.keys.subr_places.Given as goal

abbrev pub invariant-loop-number : goal.invariant-loop-number
invariant-loop-number l = max l.places (subr_places (map number_pair l.number-iterator)) ≡ subr_places l.font.subrs
