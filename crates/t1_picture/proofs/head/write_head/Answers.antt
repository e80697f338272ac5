use Rattle.std.proofs.Common.{◌≡◌, ◌++◌, ℤ, OnOk, length, of_z, string_bytes, to_z, w64, ap, sym, subst, ◌∙◌}
use Rattle.std.proofs.lemmas.Int.{to_z-of_z}
use Rattle.std.proofs.lemmas.List.{length-map}
use Rattle.t1_picture.specs.Drawings.{texts_of}
use Rattle.t1_picture.specs.Frames.{height_of, width_of}
use Rattle.t1_picture.specs.Pictures.{head_by}
use Rattle.t1_picture.proofs.head.write_head.Goals as goal

pub returns : goal.returns
returns c =
    let old = string_bytes c.args.svg.now in
    let new = string_bytes c.write_head_by.new.svg in
    let frame = c.args.frame.now in
    let lines = texts_of c.args.lines.now in
    subst (λ (w : ℤ). OnOk c.write_head_by.result (new ≡ old ++ head_by frame w (height_of frame (length lines)) c.args.title.now))
    (to_z-of_z w64 c.width-width.result (record { sfits = c.width-width.type_inv }) ∙ c.width-width.ensures ∙ ap (width_of frame) c.columns_of.ensures)
    (subst (λ (h : ℤ). OnOk c.write_head_by.result (new ≡ old ++ head_by frame (to_z w64 (of_z w64 c.width-width.result)) h c.args.title.now))
    (to_z-of_z w64 c.height-height.result (record { sfits = c.height-height.type_inv }) ∙ c.height-height.ensures
    ∙ ap (height_of frame) (sym (length-map c.args.lines.now string_bytes))) c.write_head_by.ensures)
