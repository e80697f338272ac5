use Rattle.t1_answer_all.proofs.Lists.{glob_added}
use Rattle.t1_answer_all.proofs.listing.globs_of.Goals as goal

pub loop-text-preserved : goal.loop-text-preserved
loop-text-preserved c =
    glob_added c.args.texts.now c.loop-text.text-index c.text-item.result c.loop-text-test.true c.text-item.is c.loop-text.globs.items
    c.push.new.self.items c.in_ok-read.field-0 c.in_ok-push.ensures.items c.loop-text.invariant c.as_str.result.now c.as_str.ensures.value
    c.in_ok-read.ensures
