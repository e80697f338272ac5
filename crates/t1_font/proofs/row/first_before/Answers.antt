use Rattle.t1_font.proofs.RowsLeft.{first_read}
use Rattle.t1_font.proofs.row.first_before.Goals as goal

pub returns-then-stop-text : goal.returns-then-stop-text
returns-then-stop-text c = λ role ends. first_read ends c.args.stop role c.args.text.now c.args.first c.requires c.if-stop-text.true
