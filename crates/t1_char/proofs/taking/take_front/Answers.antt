use Rattle.std.proofs.Common.{ap, take, subst, sym, ◌∙◌, arith}
use Rattle.t1_char.specs.declared.taking.Lines.{Lines}
use Rattle.t1_char.specs.Private.Taking.{StopsAt, TakesLines, lines_cursor}
use Rattle.t1_char.proofs.TakenLines.{front_all, front_count}
use Rattle.t1_char.proofs.taking.take_front.Goals as goal

pub returns-clause-takes : goal.returns-clause-takes
returns-clause-takes c = λ what.
    let takes = c.take_numbers-stop.ensures.takes in
    let size = front_count c.args.cells.now c.args.len c.told-cells c.requires.few in
    subst (λ n. TakesLines what c.args.ahead (take c.args.len c.args.cells.now) (take n c.take_numbers-stop.new.cells) c.stopped.result)
    (sym (ap (λ (l : Lines). l.len) c.stopped.ensures))
    (front_all what c.args.ahead (take c.args.len c.args.cells.now) (take c.take_numbers-stop.result.len c.take_numbers-stop.new.cells)
    c.take_numbers-stop.result c.stopped.result takes
    (ap (λ (l : Lines). l.passed) c.stopped.ensures ∙ omega (arith, takes.more, c.take_numbers-stop.ensures.len, size))
    (ap (λ (l : Lines). l.way) c.stopped.ensures)
    (subst (λ (l : Lines). StopsAt l.first takes.before (lines_cursor l)) (sym c.stopped.ensures) takes.first))
