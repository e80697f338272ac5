use Rattle.std.proofs.Common.{◌≡◌, Some, true, refl, subst, sym, take, ◌∙◌}
use Rattle.t1_char.specs.Editions.{has_latest_rules}
use Rattle.t1_char.specs.Turns.{MachineView}
use Rattle.t1_drawing.specs.DrawingRules.{box_of}
use Rattle.t1_drawing.specs.Touching.{first_untouched}
use Rattle.t1_reasons.specs.DrawingReasons.{stem_left}
use Rattle.t1_reasons.specs.GlyphReasons.{steps_in}
use Rattle.t1_reasons.specs.Private.Searching.{StemSearched}
use Rattle.t1_reasons.proofs.glyph_reasons.GlyphReasons.stem_left.Goals as goal

pub returns-in-Some : goal.returns-in-Some
returns-in-Some c =
    let m = c.self.inside.machine in
    let steps = take m.counted (steps_in m) in
    let stem = c.in-Some.stem in
    let latest : has_latest_rules m.edition ≡ true = subst (λ (x : MachineView). has_latest_rules x.edition ≡ true) (sym c.self.view_is) c.requires.latest in
    let left : first_untouched steps ≡ Some stem = sym (c.untouched.ensures (box_of m.font) steps (c.self.invariant.0.drawn latest)) ∙ c.in-Some.is in
    let st : StemSearched stem c.search_stem.result steps =
    subst (λ (x : MachineView). StemSearched stem c.search_stem.result (take x.counted (steps_in x))) (sym c.self.view_is) c.search_stem.ensures in
    subst (λ (x : MachineView). c.told.result ≡ stem_left (first_untouched (take x.counted (steps_in x))) (take x.counted (steps_in x))) c.self.view_is
    (c.told.ensures ∙ rw (left, st.stem_is, st.step, st.nearest) refl)
