use Rattle.t1_reasons.proofs.PathStarts.{paths_begin}
use Rattle.t1_reasons.proofs.laws.paths_begin_where_the_pen_was_left.Goals as goal

pub returns : goal.returns
returns c = paths_begin
