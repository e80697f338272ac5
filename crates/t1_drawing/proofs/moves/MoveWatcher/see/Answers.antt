use Rattle.std.proofs.Common.{sym}
use Rattle.t1_char.specs.StepValues.{step_view}
use Rattle.t1_char.proofs.LookingBack.{since_goes_on}
use Rattle.t1_drawing.specs.Moves.{draws_or_closes}
use Rattle.t1_rules.specs.StepRules.Paths.{outer_move}
use Rattle.t1_drawing.proofs.moves.MoveWatcher.see.Goals as goal

pub returns-clause-stands : goal.returns-clause-stands
returns-clause-stands c = λ before st inside.
    rw (c.is_move.ensures, c.is_line.ensures, c.ends_flex.ensures, c.closes.ensures, st, inside)
    (sym (since_goes_on outer_move draws_or_closes before (step_view c.args.step.now)))
