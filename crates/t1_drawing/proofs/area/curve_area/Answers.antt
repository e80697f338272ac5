use Rattle.std.proofs.Common.{◌≡◌, ◌+ℤ◌, of_z, rules, sym, to_z, ◌∙◌}
use Rattle.std.specs.Int.{w128}
use Rattle.t1_drawing.specs.Areas.{curve_area, line_area}
use Rattle.t1_drawing.specs.Points.{way}
use Rattle.t1_drawing.specs.Private.Areas.{beyond_chord}
use Rattle.t1_drawing.proofs.CurveAreas.{curve_area_is}
use Rattle.t1_drawing.proofs.Drawing.{curve_within}
use Rattle.t1_drawing.proofs.area.curve_area.Goals as goal

value : (c : goal.After-sum) → to_z w128 (of_z w128 c.sum.result) ≡ curve_area c.args.start c.args.one c.args.two c.args.end
value c =
    let start = c.args.start in
    let sum : to_z w128 (of_z w128 c.sum.result) ≡ to_z w128 (of_z w128 c.beyond_chord_of.result) +ℤ to_z w128 (of_z w128 c.line_area.result) = search rules in
    let beyond : to_z w128 (of_z w128 c.beyond_chord_of.result) ≡ beyond_chord (way start c.args.one) (way start c.args.two) (way start c.args.end) =
    search rules in
    let line : to_z w128 (of_z w128 c.line_area.result) ≡ line_area start c.args.end = search rules in
    sum ∙ rw (beyond, line) (sym (curve_area_is start c.args.one c.args.two c.args.end))

pub returns-clause-value : goal.returns-clause-value
returns-clause-value c = value c

pub returns-clause-within : goal.returns-clause-within
returns-clause-within c =
    rw (value c) (curve_within c.args.start c.args.one c.args.two c.args.end c.requires.first c.requires.second c.requires.third c.requires.last)
