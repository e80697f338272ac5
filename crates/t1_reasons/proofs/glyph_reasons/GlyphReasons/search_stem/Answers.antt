use Rattle.std.proofs.Common.{◌≡◌, ◌<◌, ◌-◌, ap, arith, take, ◌∙◌}
use Rattle.t1_char.specs.Turns.{MachineView}
use Rattle.t1_reasons.specs.GlyphReasons.{steps_in}
use Rattle.t1_reasons.specs.Private.Searching.{StemSearched}
use Rattle.t1_reasons.proofs.Walking.{IsOneOn, one_on}
use Rattle.t1_reasons.proofs.glyph_reasons.GlyphReasons.search_stem.Goals as goal

pub loop-seen-preserved : goal.loop-seen-preserved
loop-seen-preserved c =
    let old = c.args.self.now in
    let new = c.go_to.new.self in
    let seen = c.loop-seen.seen in
    let end : c.counted-seen-end.result ≡ old.counted = c.counted-seen-end.ensures.counted ∙ ap (λ (m : MachineView). m.counted) c.self.view_is in
    let less : seen < old.counted = omega (arith, end, c.loop-seen-test.true) in
    let on : IsOneOn old new seen = one_on old c.loop-seen.run new seen c.loop-seen.invariant.same c.go_to.ensures less c.requires.few in
    let before : StemSearched c.args.stem c.loop-seen.search (take (new.counted - 1) (steps_in new)) = rw (on.place, on.steps) c.loop-seen.invariant.searched in
    record { same = on.same; counted = on.counted; searched = rw (on.counted, on.steps) at (c.show_stem.ensures c.args.stem before) }

pub returns : goal.returns
returns c =
    let old = c.args.self.now in
    let end : c.counted-seen-end.result ≡ old.counted = c.counted-seen-end.ensures.counted ∙ ap (λ (m : MachineView). m.counted) c.self.view_is in
    let all : c.loop-seen.seen ≡ old.counted = omega (arith, end, c.loop-seen-test.false, c.loop-seen.auto.seen-end) in
    rw all at c.loop-seen.invariant.searched
