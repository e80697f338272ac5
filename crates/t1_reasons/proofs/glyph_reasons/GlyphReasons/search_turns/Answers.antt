use Rattle.std.proofs.Common.{◌≡◌, ◌<◌, ap, arith, take, ◌∙◌}
use Rattle.t1_char.specs.Turns.{MachineView}
use Rattle.t1_reasons.specs.GlyphReasons.{steps_in}
use Rattle.t1_reasons.specs.Private.Searching.{TurnsSearched}
use Rattle.t1_reasons.specs.SubpathTurns.{subpaths_of, turns_among}
use Rattle.t1_reasons.proofs.Walking.{IsOneOn, one_on}
use Rattle.t1_reasons.proofs.glyph_reasons.GlyphReasons.search_turns.Goals as goal

pub show_turn-requires-clause-seen : goal.show_turn-requires-clause-seen
show_turn-requires-clause-seen c =
    let old = c.args.self.now in
    let seen = c.loop-seen.seen in
    let end : c.counted-seen-end.result ≡ old.counted = c.counted-seen-end.ensures.counted ∙ ap (λ (m : MachineView). m.counted) c.self.view_is in
    let less : seen < old.counted = omega (arith, end, c.loop-seen-test.true) in
    let on : IsOneOn old c.go_to.new.self seen = one_on old c.loop-seen.run c.go_to.new.self seen c.loop-seen.invariant.same c.go_to.ensures less c.requires.few in
    rw (on.place, on.steps) c.loop-seen.invariant.searched

pub returns : goal.returns
returns c =
    let old = c.args.self.now in
    let end : c.counted-seen-end.result ≡ old.counted = c.counted-seen-end.ensures.counted ∙ ap (λ (m : MachineView). m.counted) c.self.view_is in
    let all : c.loop-seen.seen ≡ old.counted = omega (arith, end, c.loop-seen-test.false, c.loop-seen.auto.seen-end) in
    let st : TurnsSearched c.loop-seen.search (take old.counted (steps_in old)) = rw all at c.loop-seen.invariant.searched in
    c.turns.ensures ∙ st.turns c.loop-seen.search.area ∙ ap (λ area. turns_among area (subpaths_of (take old.counted (steps_in old)))) st.area
