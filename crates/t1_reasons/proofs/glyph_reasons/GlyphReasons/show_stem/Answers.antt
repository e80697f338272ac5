use Rattle.std.proofs.Common.{◌≡◌, ◌+◌, ◌-◌, ◌<◌, ◌≤◌, ◌++◌, ◌∷◌, [], List, true, ap, arith, length, length-take, subst, sym, take, ◌∙◌}
use Rattle.std.specs.List.{flat_map}
use Rattle.t1_char.specs.Editions.{has_latest_rules}
use Rattle.t1_char.specs.Steps.{NumberedStep, StepView}
use Rattle.t1_char.specs.StepValues.{step_view}
use Rattle.t1_char.specs.Turns.{MachineView}
use Rattle.t1_drawing.specs.DrawingRules.{box_of}
use Rattle.t1_reasons.specs.GlyphReasons.{steps_in}
use Rattle.t1_reasons.specs.Private.Searching.{StemSearched}
use Rattle.t1_reasons.specs.StemSearches.{ends_at, ends_of_traced}
use Rattle.t1_reasons.proofs.StemsFound.{ends_traced}
use Rattle.t1_reasons.proofs.Walking.{seen_on}
use Rattle.t1_reasons.proofs.glyph_reasons.GlyphReasons.show_stem.Goals as goal

pub returns : goal.returns
returns c = λ stem seen.
    let m = c.self.inside.machine in
    let before = take (m.counted - 1) (steps_in m) in
    let latest : has_latest_rules m.edition ≡ true = subst (λ (x : MachineView). has_latest_rules x.edition ≡ true) (sym c.self.view_is) c.requires.latest in
    let some : 0 < m.counted = subst (λ (x : MachineView). 0 < x.counted) (sym c.self.view_is) c.requires.some in
    let few : m.counted ≤ length (steps_in m) = subst (λ (x : MachineView). x.counted ≤ length (steps_in x)) (sym c.self.view_is) c.requires.few in
    let st : StemSearched stem c.args.search.now before =
    subst (λ (x : MachineView). StemSearched stem c.args.search.now (take (x.counted - 1) (steps_in x))) (sym c.self.view_is) seen in
    let whole = seen_on m some few c.self.invariant.0.in_hand in
    let step : step_view c.current.result.now ≡ m.step.step = ap (λ (s : NumberedStep). s.step) c.current.ensures in
    let number : c.counted.result ≡ length before + 1 = omega (arith, c.counted.ensures.counted, length-take (m.counted - 1) (steps_in m)) in
    let ends : flat_map (ends_of_traced stem.direction) c.as_slice.result.now ≡ ends_at stem.direction before (step_view c.current.result.now) =
    rw (c.as_slice.ensures.value, c.self.invariant.0.segments latest some few) (ends_traced stem.direction (box_of m.font) before m.step.step)
    ∙ ap (λ s. ends_at stem.direction before s) (sym step) in
    subst (λ (x : MachineView). StemSearched stem c.see.new.self (take x.counted (steps_in x))) c.self.view_is
    (subst (λ (ss : List StepView). StemSearched stem c.see.new.self ss) (ap (λ s. before ++ s ∷ []) step ∙ sym whole)
    (c.see.ensures stem before st number ends))
