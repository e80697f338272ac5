use Rattle.std.proofs.Common.{sym}
use Rattle.t1_drawing.specs.Touching.{coordinate, extent_by}
use Rattle.t1_drawing.proofs.Touches.{touched_stay}
use Rattle.t1_drawing.proofs.touching.touch_on.Goals as goal

pub returns-then-are_done-clause-stems : goal.returns-then-are_done-clause-stems
returns-then-are_done-clause-stems c =
    sym (touched_stay (extent_by (coordinate c.args.direction) c.args.start c.args.segment.now) c.args.stems.now.items (c.requires c.if-are_done.true))
