use Rattle.std.proofs.Common.{◌<◌, ◌≤◌, length, refl, ap, ◌||◌, arith}
use Rattle.t1_char.specs.StepValues.{step_view}
use Rattle.t1_rules.proofs.Lemmas.Counters.{counted, counters_at_call, few_untold, keeps_untold}
use Rattle.t1_rules.proofs.step_rules.counters.CounterWatcher.go_on_by_call.Goals as goal

pub returns-then-len-ge2-clause-kept : goal.returns-then-len-ge2-clause-kept
returns-then-len-ge2-clause-kept c = λ before st.
    let there : 2 ≤ length c.args.step.now.stack = omega (arith, c.if-len-ge2.true, c.len.ensures.len) in
    counters_at_call c.args.self.now _ before (step_view c.args.step.now) c.requires.token there st refl
    (counted _ _ (step_view c.args.step.now) c.goes_on_counting-self.ensures c.ends_counting-ends.ensures)
    c.goes_on_counting-self.ensures
    (ap (λ b. c.args.self.now.ended || b) c.ends_counting-ends.ensures)

pub returns-else-len-ge2-clause-kept : goal.returns-else-len-ge2-clause-kept
returns-else-len-ge2-clause-kept c = λ before st.
    let few : length c.args.step.now.stack < 2 = omega (arith, c.if-len-ge2.false, c.len.ensures.len) in
    keeps_untold c.args.self.now before (step_view c.args.step.now) (few_untold (step_view c.args.step.now) c.requires.token few) st
