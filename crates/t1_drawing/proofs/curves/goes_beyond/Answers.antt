use Rattle.std.proofs.Common.{◌≡◌, of_z, rules, sym, to_z, true, ◌∙◌}
use Rattle.std.specs.Int.{w64}
use Rattle.t1_drawing.specs.Private.Between.{are_between}
use Rattle.t1_drawing.proofs.CurveLaws.{never_beyond_between}
use Rattle.t1_drawing.proofs.curves.goes_beyond.Goals as goal

pub returns-then-are_between : goal.returns-then-are_between
returns-then-are_between c =
    let start : to_z w64 (of_z w64 c.args.start) ≡ c.args.start = search rules in
    let one : to_z w64 (of_z w64 c.args.one) ≡ c.args.one = search rules in
    let two : to_z w64 (of_z w64 c.args.two) ≡ c.args.two = search rules in
    let end : to_z w64 (of_z w64 c.args.end) ≡ c.args.end = search rules in
    let is : are_between c.args.start c.args.one c.args.two c.args.end ≡ true = rw (start, one, two, end) at (sym c.are_between.ensures ∙ c.if-are_between.true) in
    sym (never_beyond_between c.args.start c.args.one c.args.two c.args.end is)
