use Rattle.std.proofs.Common.{refl, arith}
use Rattle.t1_reasons.proofs.TurnsFound.{no_area}
use Rattle.t1_reasons.proofs.subpath_turns.TurnSearch.start.Goals as goal

pub returns : goal.returns
returns c = record { area = no_area; turns = λ whole. refl; few = omega arith; fewer = omega arith }
