use Rattle.t1_reason_texts.proofs.ExactPlaces.{places_are_exact}
use Rattle.t1_reason_texts.proofs.laws.numbers_are_written_exactly.Goals as goal

pub returns : goal.returns
returns c = places_are_exact
