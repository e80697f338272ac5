use Rattle.std.proofs.Common.{◌≡◌}
use Rattle.t1_font.specs.Private.Turning.{bytes_to_turn}
use Rattle.t1_font.specs.Rows.{row_left}
use Rattle.t1_font.proofs.row.Row.part.Given as goal

abbrev pub invariant-turns : goal.invariant-turns
invariant-turns l = row_left l.self ≡ row_left l.fn.self

abbrev pub decreases-turns : goal.decreases-turns
decreases-turns l = bytes_to_turn l.self
