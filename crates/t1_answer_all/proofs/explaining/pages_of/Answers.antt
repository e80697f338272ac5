use Rattle.std.proofs.Common.{arith}
use Rattle.std.proofs.lemmas.Grind.{common_steps}
use Rattle.std.proofs.lemmas.List.Elements.{filter_map-append}
use Rattle.t1_answer_all.proofs.explaining.pages_of.Goals as goal
use Rattle.t1_answer_all.proofs.explaining.pages_of.Goals.{in-Some+in_ok-push, in_default}

pub loop-word-preserved : goal.loop-word-preserved
loop-word-preserved c = elim c.match-page_of.branch [ in-Some+in_ok-push w ↦ grind (arith, common_steps, filter_map-append) | in_default w ↦ grind (arith, common_steps, filter_map-append) ]
