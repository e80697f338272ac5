use Rattle.std.proofs.Common.{[]}
use Rattle.t1_drawing.proofs.tests.seen.Goals as goal

pub returns : goal.returns
returns c = c.see-faults.ensures.stands c.args.font_box [] c.start-watcher.ensures c.requires
