use Rattle.std.proofs.Common.{length, refl, sym, ◌∙◌}
use Rattle.t1_char.specs.StepValues.{step_view}
use Rattle.t1_rules.proofs.Lemmas.Flex.{flex_stays, one_more_in_flex}
use Rattle.t1_rules.proofs.Lemmas.Tokens.{no_command}
use Rattle.t1_rules.proofs.step_rules.flex.FlexWatcher.go_on.Goals as goal

pub returns-then-not-is_command : goal.returns-then-not-is_command
returns-then-not-is_command c = λ before st short.
    flex_stays c.args.self.now _ before (step_view c.args.step.now)
    (rw c.requires.token (no_command _ (sym c.is_command.ensures ∙ c.if-not-is_command.true))) st refl refl refl refl refl refl refl

pub returns : goal.returns
returns c = λ before st short.
    one_more_in_flex c.args.self.now _ before (step_view c.args.step.now) st
    (rw (c.starts_flex.ensures, c.ends_flex-self.ensures))
    (c.counted-self.ensures ∙ rw (c.is_move.ensures, c.requires.token))
    (c.counted-self-2.ensures ∙ rw (c.gives_flex_point.ensures))
    c.next_point-point.ensures.value
    c.ends_flex-self.ensures
    (rw (c.is_pop-pops.ensures, c.requires.token))
    (rw (c.is_pop-pops.ensures, c.requires.token))
    (c.next_point-point.ensures.near (length before) st.near)
