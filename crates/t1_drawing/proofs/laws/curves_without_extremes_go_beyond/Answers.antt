use Rattle.t1_drawing.proofs.CurveLaws.{curves_without_extremes_go_beyond}
use Rattle.t1_drawing.proofs.laws.curves_without_extremes_go_beyond.Goals as goal

pub returns-clause-beyond : goal.returns-clause-beyond
returns-clause-beyond c = curves_without_extremes_go_beyond
