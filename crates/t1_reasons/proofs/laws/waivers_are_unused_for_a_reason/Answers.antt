use Rattle.t1_reasons.proofs.UnusedLaws.{waivers_are_unused_for_a_reason as unused}
use Rattle.t1_reasons.proofs.laws.waivers_are_unused_for_a_reason.Goals as goal

pub returns : goal.returns
returns c = unused
