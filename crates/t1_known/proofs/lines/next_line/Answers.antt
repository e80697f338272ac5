use Rattle.std.proofs.Common.{◌<◌, length, sym, rules}
use Rattle.t1_known.proofs.LineCuts.{line_cut, line_left}
use Rattle.t1_known.proofs.lines.next_line.Goals as goal

pub returns-in_default : goal.returns-in_default
returns-in_default c =
    let some : 0 < length c.args.text.now = search rules in
    (line_left c.args.text.now (sym c.in_default.ensures) some, some)

pub returns : goal.returns
returns c = line_cut c.args.text.now (c.in-Some.line.now, c.in-Some.rest.now) (sym c.in-Some.ensures)
