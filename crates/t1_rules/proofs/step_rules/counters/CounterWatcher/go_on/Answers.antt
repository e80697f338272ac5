use Rattle.std.proofs.Common.{◌≡◌, true, false, refl, ap, sym, ◌∙◌}
use Rattle.t1_char.specs.Arguments.{is_callothersubr}
use Rattle.t1_char.specs.StepValues.{step_view}
use Rattle.t1_rules.specs.StepRules.Tokens.{clears, sets_width}
use Rattle.t1_rules.proofs.Lemmas.Counters.{counters_at_command, keeps_untold, quiet_untold}
use Rattle.t1_rules.proofs.step_rules.counters.CounterWatcher.go_on.Goals as goal

pub returns-then-clears-clause-kept : goal.returns-then-clears-clause-kept
returns-then-clears-clause-kept c = λ before st.
    let no_call : is_callothersubr c.args.step.now.token ≡ false =
    ap is_callothersubr c.requires.token ∙ sym c.is_callothersubr.ensures ∙ c.if-is_callothersubr.false in
    let empties : clears c.args.step.now.token ≡ true = ap clears c.requires.token ∙ sym c.clears.ensures ∙ c.if-clears.true in
    counters_at_command c.args.self.now _ before (step_view c.args.step.now) no_call empties st refl
    (c.sets_width-self.ensures ∙ ap sets_width (sym c.requires.token)) refl refl

pub returns-else-clears-clause-kept : goal.returns-else-clears-clause-kept
returns-else-clears-clause-kept c = λ before st.
    let no_call : is_callothersubr c.args.step.now.token ≡ false =
    ap is_callothersubr c.requires.token ∙ sym c.is_callothersubr.ensures ∙ c.if-is_callothersubr.false in
    let keeps : clears c.args.step.now.token ≡ false = ap clears c.requires.token ∙ sym c.clears.ensures ∙ c.if-clears.false in
    keeps_untold c.args.self.now before (step_view c.args.step.now) (quiet_untold (step_view c.args.step.now) no_call keeps) st
