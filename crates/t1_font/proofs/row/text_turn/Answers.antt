use Rattle.t1_font.proofs.RowsLeft.{wanted_ahead}
use Rattle.t1_font.proofs.row.text_turn.Goals as goal

pub returns-in-Over-2-clause-first : goal.returns-in-Over-2-clause-first
returns-in-Over-2-clause-first c = wanted_ahead _ _ _ c.in_ok-found-in-Private.ensures

pub returns-in-Goes-2-clause-first : goal.returns-in-Goes-2-clause-first
returns-in-Goes-2-clause-first c = wanted_ahead _ _ _ c.in_ok-found-in-Private.ensures
