use Rattle.t1_char.specs.declared.lines.Passing.TheVariants.{Moves}
use Rattle.t1_report.proofs.PassedLines.{gone_now}
use Rattle.t1_report.proofs.walk.glyph_run.go_on_by_moves.Goals as goal

pub go_by_moves-requires-clause-near : goal.go_by_moves-requires-clause-near
go_by_moves-requires-clause-near c =
    (gone_now Moves c.args.machine.now c.go_far-far.new.self _ c.go_far-far.result.way c.args.watches.now c.requires.fit c.requires.run
    c.requires.near c.go_far-far.ensures.asked).point

pub go_by_moves-requires-clause-few : goal.go_by_moves-requires-clause-few
go_by_moves-requires-clause-few c =
    (gone_now Moves c.args.machine.now c.go_far-far.new.self _ c.go_far-far.result.way c.args.watches.now c.requires.fit c.requires.run
    c.requires.near c.go_far-far.ensures.asked).moves
