use Rattle.std.proofs.Common.{◌≡◌, ◌+◌, ◌-◌, ◌<◌, ◌≤◌, List, true, ap, arith, length, length-take, subst, sym, take, ◌∙◌}
use Rattle.std.specs.List.{list_any}
use Rattle.t1_char.specs.Editions.{has_latest_rules}
use Rattle.t1_char.specs.Steps.{StepView}
use Rattle.t1_char.specs.Turns.{MachineView}
use Rattle.t1_drawing.specs.Areas.{drawn_area}
use Rattle.t1_drawing.specs.DrawingRules.{box_of}
use Rattle.t1_drawing.specs.Strokes.{segments_of}
use Rattle.t1_outline.specs.Outlines.{drawn}
use Rattle.t1_reasons.specs.GlyphReasons.{steps_in}
use Rattle.t1_reasons.specs.Private.Searching.{TurnsSearched}
use Rattle.t1_reasons.specs.SubpathTurns.{begins_subpath, moves}
use Rattle.t1_reasons.proofs.TurnsFound.{moves_traced}
use Rattle.t1_reasons.proofs.Walking.{few_steps, seen_on}
use Rattle.t1_reasons.proofs.glyph_reasons.GlyphReasons.show_turn.Goals as goal

pub returns : goal.returns
returns c =
    let m = c.self.inside.machine in
    let before = take (m.counted - 1) (steps_in m) in
    let latest : has_latest_rules m.edition ≡ true = subst (λ (x : MachineView). has_latest_rules x.edition ≡ true) (sym c.self.view_is) c.requires.latest in
    let some : 0 < m.counted = subst (λ (x : MachineView). 0 < x.counted) (sym c.self.view_is) c.requires.some in
    let few : m.counted ≤ length (steps_in m) = subst (λ (x : MachineView). x.counted ≤ length (steps_in x)) (sym c.self.view_is) c.requires.few in
    let seen : TurnsSearched c.args.search.now before =
    subst (λ (x : MachineView). TurnsSearched c.args.search.now (take (x.counted - 1) (steps_in x))) (sym c.self.view_is) c.requires.seen in
    let whole = seen_on m some few c.self.invariant.0.in_hand in
    let number : c.counted.result ≡ length before + 1 = omega (arith, c.counted.ensures.counted, length-take (m.counted - 1) (steps_in m)) in
    let shown : list_any (λ s. moves s.segment) c.as_slice.result.now ≡ begins_subpath before m.step.step =
    rw (c.as_slice.ensures.value, c.self.invariant.0.segments latest some few)
    (moves_traced (box_of m.font) (segments_of before) (drawn before m.step.step)) in
    let area = c.area.ensures (box_of m.font) (take m.counted (steps_in m)) (c.self.invariant.0.drawn latest) ∙ ap (λ ss. drawn_area (segments_of ss)) whole in
    subst (λ (x : MachineView). TurnsSearched c.see.new.self (take x.counted (steps_in x))) c.self.view_is
    (subst (λ (ss : List StepView). TurnsSearched c.see.new.self ss) (sym whole)
    (c.see.ensures before m.step.step seen (few_steps m (m.counted - 1)) number shown area))
