use Rattle.std.proofs.Common.{◌≡◌, ◌≤◌, drop, length, take}
use Rattle.t1_font.specs.Rows.{row_left}
use Rattle.t1_texts.specs.Private.Watching.{IsWatchOf}
use Rattle.t1_texts.proofs.faults.row_faults.Given as goal

abbrev pub invariant-parts : goal.invariant-parts
invariant-parts l = record {
  passed : l.count ≤ length (row_left l.row);
  watch : IsWatchOf l.watch (take l.count (row_left l.row));
  left : row_left l.left ≡ drop l.count (row_left l.row);
  row : l.row ≡ l.fn.row;
}

abbrev pub decreases-parts : goal.decreases-parts
decreases-parts l = length (row_left l.left)
