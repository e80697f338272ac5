use Rattle.std.proofs.Common.{◌≡◌, of_z, refl, rules, to_z}
use Rattle.std.specs.Int.{w64}
use Rattle.t1_drawing.proofs.Limits.{off_is}
use Rattle.t1_drawing.proofs.font_box.Limits.are_passed.Goals as goal

pub returns : goal.returns
returns c = λ box same.
    let limits = c.args.self in
    let point = c.args.point in
    let x : to_z w64 (of_z w64 point.x) ≡ point.x = search rules in
    let y : to_z w64 (of_z w64 point.y) ≡ point.y = search rules in
    let left : to_z w64 (of_z w64 limits.left) ≡ limits.left = search rules in
    let bottom : to_z w64 (of_z w64 limits.bottom) ≡ limits.bottom = search rules in
    let right : to_z w64 (of_z w64 limits.right) ≡ limits.right = search rules in
    let top : to_z w64 (of_z w64 limits.top) ≡ limits.top = search rules in
    rw (
      c.is_off.ensures,
      c.is_off-2.ensures,
      x,
      y,
      left,
      bottom,
      right,
      top,
      same,
      off_is box.left box.right point.x,
      off_is box.bottom box.top point.y,
    ) refl
