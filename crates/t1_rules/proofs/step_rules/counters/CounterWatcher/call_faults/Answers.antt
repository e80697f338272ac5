use Rattle.std.proofs.Common.{◌≡◌, ◌<◌, ◌≤◌, length, true, false, sym, ◌∙◌, arith}
use Rattle.t1_char.specs.StepValues.{step_view}
use Rattle.t1_rules.specs.StepRules.Counters.{is_counting}
use Rattle.t1_rules.proofs.Lemmas.Counters.{at_counting, at_other_call, counted, none_at_few}
use Rattle.t1_rules.proofs.step_rules.counters.CounterWatcher.call_faults.Goals as goal

pub returns-then-len-lt2 : goal.returns-then-len-lt2
returns-then-len-lt2 c = λ edition before has st n.
    let few : length c.args.step.now.stack < 2 = omega (arith, c.if-len-lt2.true, c.len.ensures.len) in
    c.empty.ensures n ∙ sym (none_at_few edition before (step_view c.args.step.now) c.requires.token few n)

pub returns-then-goes_on_counting-ends_counting : goal.returns-then-goes_on_counting-ends_counting
returns-then-goes_on_counting-ends_counting c = λ edition before has st n.
    let counts : is_counting (step_view c.args.step.now) ≡ true =
    sym (counted _ _ (step_view c.args.step.now) c.goes_on_counting.ensures c.ends_counting.ensures) ∙ c.if-goes_on_counting-ends_counting.true in
    rw (
      c.with-then-goes_on_counting-ends_counting-2.ensures n,
      c.with-then-goes_on_counting-ends_counting.ensures n,
      c.with.ensures n,
      c.empty-then-goes_on_counting-ends_counting.ensures n,
      c.leaves_numbers.ensures,
    ) (sym (at_counting edition c.args.self.now before (step_view c.args.step.now) has st counts n))

pub returns-else-goes_on_counting-ends_counting : goal.returns-else-goes_on_counting-ends_counting
returns-else-goes_on_counting-ends_counting c = λ edition before has st n.
    let there : 2 ≤ length c.args.step.now.stack = omega (arith, c.if-len-lt2.false, c.len.ensures.len) in
    let other : is_counting (step_view c.args.step.now) ≡ false =
    sym (counted _ _ (step_view c.args.step.now) c.goes_on_counting.ensures c.ends_counting.ensures) ∙ c.if-goes_on_counting-ends_counting.false in
    rw (
      c.with-else-goes_on_counting-ends_counting-2.ensures n,
      c.with-else-goes_on_counting-ends_counting.ensures n,
      c.empty-else-goes_on_counting-ends_counting.ensures n,
    ) (sym (at_other_call edition c.args.self.now before (step_view c.args.step.now) has st c.requires.token there other n))
