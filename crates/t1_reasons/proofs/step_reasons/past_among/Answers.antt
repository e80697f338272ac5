use Rattle.std.proofs.Common.{◌≡◌, false, get_or, pos, rules}
use Rattle.t1_rules.specs.StepRules.Arguments.{is_past}
use Rattle.t1_reasons.proofs.Finds.{fewer_later, later_past}
use Rattle.t1_reasons.proofs.step_reasons.past_among.Goals as goal

pub loop-rest-preserved : goal.loop-rest-preserved
loop-rest-preserved c =
    let within : is_past (get_or c.loop-rest.rest.now 0 (pos 0)) ≡ false = search rules in
    record {
      same = later_past c.loop-rest.place c.loop-rest.rest.now _ c.in-len1-up.len_at_least within c.loop-rest.invariant.same;
      few = fewer_later c.loop-rest.place c.loop-rest.rest.now c.in-len1-up.len_at_least c.loop-rest.invariant.few;
    }
