use Rattle.std.proofs.Common.{◌≡◌, ◌++◌, ℕ, ℤ, List, OnOk, Result, of_z, string_bytes, to_z, w64, ap, subst, ◌∙◌}
use Rattle.std.proofs.lemmas.Int.{to_z-of_z}
use Rattle.std.specs.declared.alloc.AllocError.{AllocError}
use Rattle.t1_reason_texts.specs.declared.decimals.Exact.{Exact}
use Rattle.t1_picture.specs.Frames.{length_of}
use Rattle.t1_picture.specs.Pictures.{plane_text, size_text, svg_start, view_box_text}
use Rattle.t1_picture.proofs.Joined.{then_last}
use Rattle.t1_picture.proofs.head.write_plane.Goals as goal

boxed : (r : Result (Unit {0}) AllocError) (sized new : List ℕ) (x x' y y' a a' d d' : Exact) → x ≡ x' → y ≡ y' → a ≡ a' → d ≡ d'
    → OnOk r (new ≡ sized ++ view_box_text x y a d) → OnOk r (new ≡ sized ++ view_box_text x' y' a' d')
boxed r sized new x x' y y' a a' d d' same_x same_y same_a same_d is =
    subst (λ (e : Exact). OnOk r (new ≡ sized ++ view_box_text x' y' a' e)) same_d
    (subst (λ (e : Exact). OnOk r (new ≡ sized ++ view_box_text x' y' e d)) same_a
    (subst (λ (e : Exact). OnOk r (new ≡ sized ++ view_box_text x' e a d)) same_y
    (subst (λ (e : Exact). OnOk r (new ≡ sized ++ view_box_text e y a d)) same_x is)))

pub returns : goal.returns
unfolding plane_text
returns c =
    let old = string_bytes c.args.svg.now in
    let started = string_bytes c.start_svg.new.svg in
    let sized = string_bytes c.write_size.new.svg in
    let new = string_bytes c.write_view_box.new.svg in
    let width : to_z w64 (of_z w64 c.args.width) ≡ c.args.width = to_z-of_z w64 c.args.width c.ranges.width in
    let height : to_z w64 (of_z w64 c.args.height) ≡ c.args.height = to_z-of_z w64 c.args.height c.ranges.height in
    then_last c.write_view_box.result old started new svg_start _ c.in_ok-start_svg.ensures
    (then_last c.write_view_box.result started sized new (size_text c.args.width c.args.height) _
    (c.in_ok-write_size.ensures ∙ ap (λ (w : ℤ). started ++ size_text w (to_z w64 (of_z w64 c.args.height))) width
    ∙ ap (λ (h : ℤ). started ++ size_text c.args.width h) height)
    (boxed c.write_view_box.result sized new c.left.result _ c.upper_edge.result _ c.length.result _ c.length-2.result _ c.left.ensures c.upper_edge.ensures
    (c.length.ensures ∙ ap (length_of c.args.frame.now) width) (c.length-2.ensures ∙ ap (length_of c.args.frame.now) height)
    c.write_view_box.ensures))
