use Rattle.std.proofs.Common.{refl}
use Rattle.t1_char.specs.StepValues.{step_view}
use Rattle.t1_rules.proofs.Lemmas.Triples.{one_more_triple}
use Rattle.t1_rules.proofs.step_rules.triples.TripleWatcher.go_on.Goals as goal

pub returns-clause-kept : goal.returns-clause-kept
returns-clause-kept c = λ before st.
    one_more_triple c.args.self.now _ before (step_view c.args.step.now) st
    (rw (c.requires.token, c.is_hstem.ensures) refl)
    (rw (c.requires.token, c.newer-self.ensures, c.is_hstem3.ensures) refl)
    (rw (c.requires.token, c.is_vstem.ensures) refl)
    (rw (c.requires.token, c.newer-self-2.ensures, c.is_vstem3.ensures) refl)
