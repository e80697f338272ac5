use Rattle.std.proofs.Common.{sym, ◌∙◌}
use Rattle.t1_reasons.proofs.TurnsFound.{turns_begin, turns_stay}
use Rattle.t1_reasons.proofs.subpath_turns.TurnSearch.see.Goals as goal

pub returns-then-has_move : goal.returns-then-has_move
returns-then-has_move c = λ before step st short at shown is.
    rw c.begin.ensures
    (turns_begin c.args.self.now before step c.args.number c.args.area st at (sym shown ∙ sym c.has_move.ensures ∙ c.if-has_move.true) is)

pub returns-else-has_move : goal.returns-else-has_move
returns-else-has_move c = λ before step st short at shown is.
    turns_stay c.args.self.now before step c.args.area st (sym shown ∙ sym c.has_move.ensures ∙ c.if-has_move.false) is
