use Rattle.std.proofs.Common.{◌+◌, ap, refl, inl, inr, length, sym, ◌∙◌}
use Rattle.std.proofs.lemmas.Bool.{cases_lt}
use Rattle.t1_char.specs.Turns.{MachineView}
use Rattle.t1_reasons.specs.GlyphReasons.{IsOfSameGlyph, steps_in}
use Rattle.t1_reasons.proofs.Walking.{no_reason_past, same_reason}
use Rattle.t1_reasons.proofs.glyph_reasons.GlyphReasons.reason.Goals as goal
use Rattle.t1_reasons.proofs.glyph_reasons.GlyphReasons.reason.Goals.{then-number-counted, else-number-counted}

pub returns-then-counted-number-clause-reason : goal.returns-then-counted-number-clause-reason
returns-then-counted-number-clause-reason c =
    let old = c.args.self.now in
    let start = c.if-number-counted.self in
    let same : IsOfSameGlyph old start = elim c.if-number-counted.branch [
      | then-number-counted w ↦ rw w.self-is w.start_again.ensures.same
      | else-number-counted w ↦ rw w.self-is (record { font = refl; glyph = refl; edition = refl })
    ] in
    elim (cases_lt (length (steps_in start) + 1) c.args.number) [
      | inl past ↦ sym (no_reason_past start c.args.rule c.args.number past) ∙ same_reason old start c.args.rule c.args.number same
      | inr within ↦
          absurd (c.if-counted-number.true (c.counted-2.ensures.counted ∙ ap (λ (m : MachineView). m.counted) c.self-2.view_is ∙ c.go_to.ensures.counted within))
    ]
