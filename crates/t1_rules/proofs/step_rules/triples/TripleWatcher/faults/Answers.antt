use Rattle.std.proofs.Common.{sym, ◌∙◌}
use Rattle.t1_char.specs.StepValues.{step_view}
use Rattle.t1_rules.proofs.Lemmas.Triples.{at_one_across, at_one_upright, at_three_across, at_three_upright, is_at_hstem, is_at_hstem3, is_at_vstem, is_at_vstem3, is_none, none_at_no_stem}
use Rattle.t1_rules.proofs.step_rules.triples.TripleWatcher.faults.Goals as goal

pub returns-then-is_hstem : goal.returns-then-is_hstem
returns-then-is_hstem c = λ edition before has st n.
    c.one_faults.ensures n
    ∙ at_one_across edition c.args.self.now before (step_view c.args.step.now) has st
    (c.requires.token ∙ is_at_hstem c.args.token (sym c.is_hstem.ensures ∙ c.if-is_hstem.true)) n

pub returns-then-is_vstem : goal.returns-then-is_vstem
returns-then-is_vstem c = λ edition before has st n.
    c.one_faults-then-is_vstem.ensures n
    ∙ at_one_upright edition c.args.self.now before (step_view c.args.step.now) has st
    (c.requires.token ∙ is_at_vstem c.args.token (sym c.is_vstem.ensures ∙ c.if-is_vstem.true)) n

pub returns-then-is_hstem3 : goal.returns-then-is_hstem3
returns-then-is_hstem3 c = λ edition before has st n.
    c.three_faults.ensures n
    ∙ at_three_across edition c.args.self.now before (step_view c.args.step.now) has st
    (c.requires.token ∙ is_at_hstem3 c.args.token (sym c.is_hstem3.ensures ∙ c.if-is_hstem3.true)) n

pub returns-then-is_vstem3 : goal.returns-then-is_vstem3
returns-then-is_vstem3 c = λ edition before has st n.
    c.three_faults-then-is_vstem3.ensures n
    ∙ at_three_upright edition c.args.self.now before (step_view c.args.step.now) has st
    (c.requires.token ∙ is_at_vstem3 c.args.token (sym c.is_vstem3.ensures ∙ c.if-is_vstem3.true)) n

pub returns-else-is_vstem3 : goal.returns-else-is_vstem3
returns-else-is_vstem3 c = λ edition before has st n.
    c.empty.ensures n
    ∙ sym (none_at_no_stem edition before (step_view c.args.step.now)
    (rw c.requires.token (is_none c.args.token (sym c.is_hstem.ensures ∙ c.if-is_hstem.false) (sym c.is_vstem.ensures ∙ c.if-is_vstem.false)
    (sym c.is_hstem3.ensures ∙ c.if-is_hstem3.false) (sym c.is_vstem3.ensures ∙ c.if-is_vstem3.false)))
    n)
