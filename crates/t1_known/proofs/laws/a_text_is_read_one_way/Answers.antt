use Rattle.t1_known.proofs.OneReading.{one_reading}
use Rattle.t1_known.proofs.laws.a_text_is_read_one_way.Goals as goal

pub returns : goal.returns
returns c = one_reading
