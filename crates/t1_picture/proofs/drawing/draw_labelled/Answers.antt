use Rattle.std.proofs.Common.{◌≡◌, ◌++◌, Bool, OnOk, ap, is_some, subst, ◌∙◌}
use Rattle.t1_char.specs.declared.edition.Edition.{Edition}
use Rattle.t1_outline.specs.declared.composition.Composition.{Composition}
use Rattle.t1_picture.specs.Drawings.{component_part, has_seac, notes_of_part, seac_note, texts_of}
use Rattle.t1_picture.specs.Parts.{note_if, part_notes}
use Rattle.t1_picture.specs.Subjects.{subject_of}
use Rattle.t1_picture.proofs.Joined.{then_lines}
use Rattle.t1_picture.proofs.drawing.draw_labelled.Goals as goal

pub returns-clause-notes : goal.returns-clause-notes
returns-clause-notes c =
    let s = subject_of c.args.view.now in
    let label = c.args.label.now in
    let old = texts_of c.args.notes.now.items in
    let mid = texts_of c.draw.new.notes.items in
    let new = texts_of c.note_seac.new.notes.items in
    let drawn = component_part (record s { edition = c.edition.result }) label c.args.part in
    subst (λ (e : Edition). OnOk c.note_seac.result (new ≡ old ++ notes_of_part (component_part (record s { edition = e }) label c.args.part)))
    c.edition.ensures
    (then_lines c.note_seac.result old mid new (part_notes drawn) (note_if (has_seac drawn) (seac_note label)) c.in_ok-end.ensures.notes
    (subst (λ (b : Bool). OnOk c.note_seac.result (new ≡ mid ++ note_if b (seac_note label)))
    (c.is_some.ensures ∙ ap (λ (k : Composition). is_some k.seac) c.in_ok-end.ensures.composition) c.note_seac.ensures))
