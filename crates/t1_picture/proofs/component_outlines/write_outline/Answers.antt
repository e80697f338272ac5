use Rattle.std.proofs.Common.{◌≡◌, ◌++◌, [], ℕ, List, OnOk, ap, string_bytes, subst, ◌∙◌}
use Rattle.t1_char.specs.declared.edition.Edition.{Edition}
use Rattle.t1_picture.specs.Drawings.{component_part}
use Rattle.t1_picture.specs.Layers.{LayersView, no_layers}
use Rattle.t1_picture.specs.Parts.{part_outline, with_part}
use Rattle.t1_picture.specs.Subjects.{subject_of}
use Rattle.t1_picture.proofs.OutlineLayers.{of_part}
use Rattle.t1_picture.proofs.component_outlines.write_outline.Goals as goal

pub returns : goal.returns
returns c =
    let s = subject_of c.args.view.now in
    let drawn = component_part (record s { edition = c.edition.result }) [] c.args.part in
    let outline : c.as_str.result.now ≡ part_outline (component_part s [] c.args.part) =
    c.as_str.ensures.value
    ∙ ap (λ (l : LayersView). l.outline) c.in_ok-draw.ensures.layers
    ∙ ap (λ (l : LayersView). (with_part drawn l).outline) c.new-layers.ensures
    ∙ of_part drawn no_layers
    ∙ ap (λ (e : Edition). part_outline (component_part (record s { edition = e }) [] c.args.part)) c.edition.ensures in
    subst (λ (x : List ℕ). OnOk c.push.result (string_bytes c.push.new.xml ≡ string_bytes c.args.text.now ++ x)) outline
    c.push.ensures
