use Rattle.t1_seal.proofs.SegmentFaults.{joined_of-refused}
use Rattle.t1_seal.proofs.laws.segment_refusals.Goals as goal

pub returns : goal.returns
returns c = joined_of-refused
