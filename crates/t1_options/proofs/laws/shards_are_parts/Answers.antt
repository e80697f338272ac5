use Rattle.t1_options.proofs.Shards.{shards_are_parts}
use Rattle.t1_options.proofs.laws.shards_are_parts.Goals as goal

pub returns : goal.returns
returns c = shards_are_parts
