use Rattle.std.proofs.Common.{◌≡◌, ◌-◌, ◌<◌, ◌≤◌, ◌++◌, ◌∷◌, [], true, ap, length, refl, subst, sym, take, ◌∙◌}
use Rattle.t1_char.specs.Editions.{has_latest_rules}
use Rattle.t1_char.specs.Turns.{MachineView}
use Rattle.t1_drawing.specs.Areas.{drawn_area}
use Rattle.t1_drawing.specs.DrawingRules.{box_of}
use Rattle.t1_drawing.specs.Strokes.{segments_of}
use Rattle.t1_drawing.specs.Touching.{first_untouched}
use Rattle.t1_reasons.specs.DrawingReasons.{area_of_drawing, stem_left, told_on_drawing}
use Rattle.t1_reasons.specs.GlyphReasons.{steps_in}
use Rattle.t1_reasons.specs.SubpathTurns.{turns_of}
use Rattle.t1_reasons.proofs.Walking.{few_steps, seen_on}
use Rattle.t1_reasons.proofs.DrawingTold.{by_segments, by_steps}
use Rattle.t1_reasons.proofs.glyph_reasons.GlyphReasons.told_on_drawing.Goals as goal

pub returns-in-P05 : goal.returns-in-P05
returns-in-P05 c =
    let m = c.self.inside.machine in
    let latest : has_latest_rules m.edition ≡ true = subst (λ (x : MachineView). has_latest_rules x.edition ≡ true) (sym c.self.view_is) c.requires.latest in
    let some : 0 < m.counted = subst (λ (x : MachineView). 0 < x.counted) (sym c.self.view_is) c.requires.some in
    let few : m.counted ≤ length (steps_in m) = subst (λ (x : MachineView). x.counted ≤ length (steps_in x)) (sym c.self.view_is) c.requires.few in
    let whole = seen_on m some few c.self.invariant.0.in_hand in
    let area = c.area.ensures (box_of m.font) (take m.counted (steps_in m)) (c.self.invariant.0.drawn latest) in
    let turns : c.search_turns.result ≡ turns_of (take m.counted (steps_in m)) =
    subst (λ (x : MachineView). c.search_turns.result ≡ turns_of (take x.counted (steps_in x))) (sym c.self.view_is) c.search_turns.ensures in
    let seen = take (m.counted - 1) (steps_in m) ++ m.step.step ∷ [] in
    let told : area_of_drawing c.area.result c.search_turns.result ≡ area_of_drawing (drawn_area (segments_of seen)) (turns_of seen) =
    rw (area, turns) (ap (λ ss. area_of_drawing (drawn_area (segments_of ss)) (turns_of ss)) whole) in
    subst (λ (x : MachineView). c.area_of_drawing.result ≡ told_on_drawing (box_of x.font) c.args.rule (take (x.counted - 1) (steps_in x)) x.step.step) c.self.view_is
    (c.area_of_drawing.ensures ∙ told ∙ rw c.in-P05.is refl)

pub returns-in-H08 : goal.returns-in-H08
returns-in-H08 c =
    let m = c.self.inside.machine in
    let some : 0 < m.counted = subst (λ (x : MachineView). 0 < x.counted) (sym c.self.view_is) c.requires.some in
    let few : m.counted ≤ length (steps_in m) = subst (λ (x : MachineView). x.counted ≤ length (steps_in x)) (sym c.self.view_is) c.requires.few in
    let whole = seen_on m some few c.self.invariant.0.in_hand in
    let left : c.stem_left.result ≡ stem_left (first_untouched (take m.counted (steps_in m))) (take m.counted (steps_in m)) =
    subst (λ (x : MachineView). c.stem_left.result ≡ stem_left (first_untouched (take x.counted (steps_in x))) (take x.counted (steps_in x))) (sym c.self.view_is)
    c.stem_left.ensures in
    subst (λ (x : MachineView). c.stem_left.result ≡ told_on_drawing (box_of x.font) c.args.rule (take (x.counted - 1) (steps_in x)) x.step.step) c.self.view_is
    (left ∙ ap (λ ss. stem_left (first_untouched ss) ss) whole ∙ rw c.in-H08.is refl)

pub returns-in-P11 : goal.returns-in-P11
returns-in-P11 c =
    let m = c.self.inside.machine in
    let step = c.requires.step ∙ ap (λ (x : MachineView). x.step.step) (sym c.self.view_is) in
    subst (λ (x : MachineView). c.told_of.result ≡ told_on_drawing (box_of x.font) c.args.rule (take (x.counted - 1) (steps_in x)) x.step.step) c.self.view_is
    (c.told_of.ensures m.edition (take (m.counted - 1) (steps_in m)) c.self.invariant.0.kept (few_steps m (m.counted - 1))
    ∙ rw step (by_steps (box_of m.font) c.args.rule (take (m.counted - 1) (steps_in m)) m.step.step c.in-P11.is))

pub returns-in_default : goal.returns-in_default
returns-in_default c =
    let m = c.self.inside.machine in
    let latest : has_latest_rules m.edition ≡ true = subst (λ (x : MachineView). has_latest_rules x.edition ≡ true) (sym c.self.view_is) c.requires.latest in
    let some : 0 < m.counted = subst (λ (x : MachineView). 0 < x.counted) (sym c.self.view_is) c.requires.some in
    let few : m.counted ≤ length (steps_in m) = subst (λ (x : MachineView). x.counted ≤ length (steps_in x)) (sym c.self.view_is) c.requires.few in
    subst (λ (x : MachineView). c.told_of_segments.result ≡ told_on_drawing (box_of x.font) c.args.rule (take (x.counted - 1) (steps_in x)) x.step.step) c.self.view_is
    (c.told_of_segments.ensures
    ∙ rw (c.of_font.ensures, c.as_slice.ensures.value, c.self.invariant.0.segments latest some few, ← c.self.invariant.1.font_is)
    (sym (by_segments (box_of m.font) c.args.rule (take (m.counted - 1) (steps_in m)) m.step.step c.in_default.not-P05 c.in_default.not-H08
    c.in_default.not-P11 c.in_default.not-H09 c.in_default.not-H10)))
