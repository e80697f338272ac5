use Rattle.std.proofs.Common.{refl, subst, sym, ◌∙◌}
use Rattle.t1_char.specs.declared.lines.Passing.{Passing}
use Rattle.t1_char.specs.declared.lines.Passing.TheVariants.{Lines, Numbers, Returned}
use Rattle.t1_char.specs.Editions.{limit_of}
use Rattle.t1_char.specs.Steps.{steps_of}
use Rattle.t1_report.specs.Private.Fitting.{IsFit}
use Rattle.t1_report.proofs.PassedLines.{gone_now, has_stayed, unmoved}
use Rattle.t1_report.proofs.walk.glyph_run.go_on.Goals as goal

pub go-requires-clause-near : goal.go-requires-clause-near
go-requires-clause-near c =
    (gone_now Lines c.args.machine.now c.go_far-far.new.self _ c.go_far-far.result.way c.args.watches.now
    (subst (λ (what : Passing). IsFit c.args.machine.now.edition what c.args.watches.now) c.in-Lines.is (c.passing_by.ensures c.args.machine.now.edition (sym c.requires.draws ∙ c.if-draws.false))) c.requires.run c.requires.near
    c.go_far-far.ensures.asked).point

pub go-requires-clause-unmoved : goal.go-requires-clause-unmoved
go-requires-clause-unmoved c =
    let m = c.args.machine.now in
    unmoved (limit_of m.edition) (steps_of m.font m.glyph) m.counted c.go_far-far.ensures.asked.taken c.go_far-far.result.way
    c.go_far-far.ensures.asked.passed

pub returns-in-Returned-clause-asked : goal.returns-in-Returned-clause-asked
returns-in-Returned-clause-asked c =
    has_stayed Returned refl c.args.machine.now c.go_far.new.self _ c.go_far.result.way c.args.watches.now
    (subst (λ (what : Passing). IsFit c.args.machine.now.edition what c.args.watches.now) c.in-Returned.is (c.passing_by.ensures c.args.machine.now.edition (sym c.requires.draws ∙ c.if-draws.false))) c.go_far.ensures.asked

pub returns-in-Numbers-clause-asked : goal.returns-in-Numbers-clause-asked
returns-in-Numbers-clause-asked c =
    has_stayed Numbers refl c.args.machine.now c.go_far-in-Numbers.new.self _ c.go_far-in-Numbers.result.way c.args.watches.now
    (subst (λ (what : Passing). IsFit c.args.machine.now.edition what c.args.watches.now) c.in-Numbers.is (c.passing_by.ensures c.args.machine.now.edition (sym c.requires.draws ∙ c.if-draws.false))) c.go_far-in-Numbers.ensures.asked
