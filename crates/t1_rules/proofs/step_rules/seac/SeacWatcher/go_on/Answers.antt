use Rattle.std.proofs.Common.{sym, ◌∙◌}
use Rattle.t1_char.specs.StepValues.{step_view}
use Rattle.t1_rules.proofs.Lemmas.Seac.{one_more_outline, outline_stays}
use Rattle.t1_rules.proofs.Lemmas.Tokens.{no_command}
use Rattle.t1_rules.proofs.step_rules.seac.SeacWatcher.go_on.Goals as goal

pub returns-then-not-is_command : goal.returns-then-not-is_command
returns-then-not-is_command c = λ before st.
    outline_stays c.args.self.now before (step_view c.args.step.now)
    (rw c.requires.token (no_command _ (sym c.is_command.ensures ∙ c.if-not-is_command.true))) st

pub returns : goal.returns
returns c = λ before st.
    one_more_outline c.args.self.now _ before (step_view c.args.step.now) st
    (rw (c.starts_flex.ensures, c.ends_flex.ensures))
    (rw (c.makes_outline.ensures))
