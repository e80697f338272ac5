use Rattle.t1_drawing.specs.Areas.{widest}
use Rattle.t1_drawing.proofs.Bounding.{twice_within}
use Rattle.t1_drawing.proofs.area.close_way.Goals as goal

pub returns-clause-wide : goal.returns-clause-wide
returns-clause-wide c =
    let start = c.args.start in
    let end = c.args.end in
    rw c.way.ensures.value (record {
      x = twice_within widest end.x start.x c.requires.end.x c.requires.start.x;
      y = twice_within widest end.y start.y c.requires.end.y c.requires.start.y;
    })
