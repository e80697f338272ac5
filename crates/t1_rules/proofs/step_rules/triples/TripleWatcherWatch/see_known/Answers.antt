use Rattle.std.proofs.Common.{sym, ◌∙◌}
use Rattle.t1_char.specs.StepValues.{step_view}
use Rattle.t1_rules.proofs.Lemmas.Triples.{no_triple_rule, triples_go_on, triples_stay_off}
use Rattle.t1_rules.proofs.step_rules.triples.TripleWatcherWatch.see_known.Goals as goal

pub returns-then-not-self-clause-stands : goal.returns-then-not-self-clause-stands
returns-then-not-self-clause-stands c = λ edition before st short.
    triples_stay_off edition c.args.self.now before (step_view c.args.step.now) (sym st.is_on ∙ c.if-not-self.true) st

pub returns-then-not-self-clause-answer : goal.returns-then-not-self-clause-answer
returns-then-not-self-clause-answer c = λ edition before st short n.
    c.empty.ensures n ∙ sym (no_triple_rule edition before (step_view c.args.step.now) n (sym st.is_on ∙ c.if-not-self.true))

pub returns-clause-stands : goal.returns-clause-stands
returns-clause-stands c = λ edition before st short.
    let has = sym st.is_on ∙ c.if-not-self.false in
    triples_go_on edition c.args.self.now _ before (step_view c.args.step.now) c.go_on.ensures.is_on st (c.go_on.ensures.kept before (st.kept has))

pub returns-clause-answer : goal.returns-clause-answer
returns-clause-answer c = λ edition before st short n.
    let has = sym st.is_on ∙ c.if-not-self.false in
    c.faults-broken.ensures edition before has (st.kept has) n
