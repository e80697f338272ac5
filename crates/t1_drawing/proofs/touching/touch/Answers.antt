use Rattle.std.proofs.Common.{map, sym, ap, ◌∙◌}
use Rattle.t1_drawing.specs.Private.Watching.{touched_by}
use Rattle.t1_drawing.proofs.Touches.{touched_by_nothing}
use Rattle.t1_drawing.proofs.touching.touch.Goals as goal

pub returns-in-None-clause-stems : goal.returns-in-None-clause-stems
returns-in-None-clause-stems c =
    let items = c.args.stems.now.items in
    sym (touched_by_nothing items) ∙ ap (λ e. map (touched_by e) items) (sym c.in-None.is ∙ c.extent.ensures)
