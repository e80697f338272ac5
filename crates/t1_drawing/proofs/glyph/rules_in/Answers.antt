use Rattle.std.proofs.Common.{sym, ◌∙◌}
use Rattle.t1_drawing.proofs.NoFaults.{none_broken}
use Rattle.t1_drawing.proofs.glyph.rules_in.Goals as goal

pub returns-then-are_none : goal.returns-then-are_none
returns-then-are_none c = λ box before step same n.
    c.empty.ensures n ∙ sym (none_broken c.args.faults box before step same (sym c.are_none.ensures ∙ c.if-are_none.true) n)
