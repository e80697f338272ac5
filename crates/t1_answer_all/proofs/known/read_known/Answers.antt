use Rattle.std.proofs.Common.{refl}
use Rattle.t1_answer_all.proofs.Told.{told_so}
use Rattle.t1_answer_all.proofs.known.read_known.Goals as goal
use Rattle.t1_answer_all.specs.Known.{IsWrong}
use Rattle.t1_answer_all.specs.Known.IsWrong.{no_row, two_rows}

pub returns-in-Err-NoRow-clause-wrong : goal.returns-in-Err-NoRow-clause-wrong
returns-in-Err-NoRow-clause-wrong c =
    told_so (IsWrong c.args.file.now c.args.text.now) _ _ c.no_row.ensures
    (no_row c.in-Err-NoRow.line.number c.in-Err-NoRow.line.text.now (rw c.in-Err-NoRow.field-0-is at c.in-Err-NoRow.ensures) refl)

pub returns-in-Err-Twice-clause-wrong : goal.returns-in-Err-Twice-clause-wrong
returns-in-Err-Twice-clause-wrong c =
    told_so (IsWrong c.args.file.now c.args.text.now) _ _ c.two_rows.ensures
    (two_rows c.in-Err-Twice.line.number c.in-Err-Twice.line.text.now (rw c.in-Err-Twice.field-0-is at c.in-Err-Twice.ensures) refl)
