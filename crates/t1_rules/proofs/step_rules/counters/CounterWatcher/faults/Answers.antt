use Rattle.std.proofs.Common.{◌≡◌, false, ap, sym, ◌∙◌}
use Rattle.t1_char.specs.Arguments.{is_callothersubr}
use Rattle.t1_char.specs.StepValues.{step_view}
use Rattle.t1_rules.proofs.Lemmas.Counters.{at_command}
use Rattle.t1_rules.proofs.step_rules.counters.CounterWatcher.faults.Goals as goal

pub returns-else-is_callothersubr : goal.returns-else-is_callothersubr
returns-else-is_callothersubr c = λ edition before has st n.
    let no_call : is_callothersubr c.args.step.now.token ≡ false =
    ap is_callothersubr c.requires.token ∙ sym c.is_callothersubr.ensures ∙ c.if-is_callothersubr.false in
    rw (c.with.ensures n, c.empty.ensures n, c.clears.ensures, sym c.requires.token)
    (sym (at_command edition c.args.self.now before (step_view c.args.step.now) has st no_call n))
