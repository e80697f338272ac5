use Rattle.std.proofs.Common.{sym, ◌∙◌}
use Rattle.t1_char.specs.StepValues.{step_view}
use Rattle.t1_rules.proofs.Lemmas.Paths.{stays, no_fault}
use Rattle.t1_rules.proofs.step_rules.paths.PathWatcherWatch.see_known.Goals as goal

pub returns-then-is_quiet-clause-stands : goal.returns-then-is_quiet-clause-stands
returns-then-is_quiet-clause-stands c = λ edition before st short.
    stays c.args.self.now before (step_view c.args.step.now) (rw c.requires.token (c.is_quiet.ensures c.if-is_quiet.true)) st

pub returns-then-is_quiet-clause-answer : goal.returns-then-is_quiet-clause-answer
returns-then-is_quiet-clause-answer c = λ edition before st short n.
    c.empty.ensures n ∙ sym (no_fault n before (step_view c.args.step.now) (rw c.requires.token (c.is_quiet.ensures c.if-is_quiet.true)))
