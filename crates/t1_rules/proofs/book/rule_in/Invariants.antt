use Rattle.std.proofs.Common.{◌≡◌, drop, map}
use Rattle.t1_rules.specs.Private.BookRows.{row_coded, row_view}
use Rattle.t1_rules.proofs.book.rule_in.Given as goal

abbrev pub invariant-loop-row : goal.invariant-loop-row
invariant-loop-row l = row_coded l.code (map row_view (drop l.row-index l.rows)) ≡ row_coded l.code (map row_view l.rows)
