use Rattle.t1_char.specs.StepValues.{step_view}
use Rattle.t1_rules.proofs.Lemmas.Paths.{one_more}
use Rattle.t1_rules.proofs.step_rules.paths.PathWatcher.go_on.Goals as goal

pub returns : goal.returns
returns c = λ before st.
    one_more c.args.self.now _ before (step_view c.args.step.now) st
    (rw (c.clears.ensures, c.requires.token))
    (rw (c.starts_flex.ensures, c.ends_flex.ensures))
    (rw (c.moves.ensures, c.closes-stays.ensures, c.requires.token))
    (rw (c.draws.ensures, c.closes-stays.ensures, c.requires.token))
