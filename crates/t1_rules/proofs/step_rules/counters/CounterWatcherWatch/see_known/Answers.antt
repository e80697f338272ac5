use Rattle.std.proofs.Common.{sym, ◌∙◌}
use Rattle.t1_char.specs.StepValues.{step_view}
use Rattle.t1_rules.proofs.Lemmas.Counters.{counters_stay_off, go_on_counting, no_counter_rule}
use Rattle.t1_rules.proofs.step_rules.counters.CounterWatcherWatch.see_known.Goals as goal

pub returns-then-not-self-clause-stands : goal.returns-then-not-self-clause-stands
returns-then-not-self-clause-stands c = λ edition before st short.
    counters_stay_off edition c.args.self.now before (step_view c.args.step.now) (sym st.is_on ∙ c.if-not-self.true) st

pub returns-then-not-self-clause-answer : goal.returns-then-not-self-clause-answer
returns-then-not-self-clause-answer c = λ edition before st short n.
    c.empty.ensures n ∙ sym (no_counter_rule edition before (step_view c.args.step.now) n (sym st.is_on ∙ c.if-not-self.true))

pub returns-clause-stands : goal.returns-clause-stands
returns-clause-stands c = λ edition before st short.
    let has = sym st.is_on ∙ c.if-not-self.false in
    go_on_counting edition c.args.self.now _ before (step_view c.args.step.now) has c.go_on.ensures.is_on st (c.go_on.ensures.kept before (st.kept has))

pub returns-clause-answer : goal.returns-clause-answer
returns-clause-answer c = λ edition before st short n.
    let has = sym st.is_on ∙ c.if-not-self.false in
    c.faults-broken.ensures edition before has (st.kept has) n
