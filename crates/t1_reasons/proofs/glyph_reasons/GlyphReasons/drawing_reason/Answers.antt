use Rattle.std.proofs.Common.{◌≡◌, ◌-◌, ◌<◌, ◌≤◌, ◌&&◌, if◌then◌else◌, None, Some, true, ap, length, subst, sym, take, ◌∙◌}
use Rattle.t1_char.specs.Turns.{MachineView}
use Rattle.t1_char.specs.Editions.{has_latest_rules}
use Rattle.t1_drawing.specs.DrawingRules.{box_of, drawing_rules}
use Rattle.t1_rules.specs.Book.{number_of}
use Rattle.t1_rules.specs.StepRules.{breaks}
use Rattle.t1_rules.proofs.Lemmas.Book.{both}
use Rattle.t1_reasons.specs.DrawingReasons.{told_on_drawing}
use Rattle.t1_reasons.specs.GlyphReasons.{steps_in}
use Rattle.t1_reasons.proofs.Walking.{drawing_alone}
use Rattle.t1_reasons.proofs.glyph_reasons.GlyphReasons.drawing_reason.Goals as goal

-- The step breaks the rule, so the edition has rules on the drawing.
abbrev broken : (c : goal.Then-has) → (has_latest_rules c.args.self.now.edition
    && breaks (drawing_rules (box_of c.args.self.now.font)) (number_of c.args.rule) (take (c.args.self.now.counted - 1) (steps_in c.args.self.now))
    c.args.self.now.step.step) ≡ true
broken c =
    let m = c.self.inside.machine in
    let n = number_of c.args.rule in
    let before = take (m.counted - 1) (steps_in m) in
    let some : 0 < m.counted = subst (λ (x : MachineView). 0 < x.counted) (sym c.self.view_is) c.requires.some in
    let few : m.counted ≤ length (steps_in m) = subst (λ (x : MachineView). x.counted ≤ length (steps_in x)) (sym c.self.view_is) c.requires.few in
    subst (λ (x : MachineView). (has_latest_rules x.edition
    && breaks (drawing_rules (box_of x.font)) n (take (x.counted - 1) (steps_in x)) x.step.step) ≡ true) c.self.view_is
    (sym (drawing_alone m.edition (box_of m.font) n before m.step.step c.requires.past) ∙ sym (c.self.invariant.0.broken some few n)
    ∙ sym c.has.ensures ∙ c.if-has.true)

pub told_on_drawing-requires-clause-latest : goal.told_on_drawing-requires-clause-latest
told_on_drawing-requires-clause-latest c = (both _ _ (broken c)).0

pub returns-then-has : goal.returns-then-has
returns-then-has c =
    ap (λ r. Some r) c.told_on_drawing.ensures
    ∙ sym (ap (λ b. if b then Some (told_on_drawing (box_of c.args.self.now.font) c.args.rule (take (c.args.self.now.counted - 1) (steps_in c.args.self.now))
    c.args.self.now.step.step) else None) (broken c.before))
