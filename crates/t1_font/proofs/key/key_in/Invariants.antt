use Rattle.std.proofs.Common.{◌≡◌, drop, map}
use Rattle.t1_font.specs.Keys.{key_named}
use Rattle.t1_font.specs.Private.KeyRows.{row_view}
use Rattle.t1_font.proofs.key.key_in.Given as goal

abbrev pub invariant-loop-row : goal.invariant-loop-row
invariant-loop-row l = key_named l.name (map row_view (drop l.row-index l.rows)) ≡ key_named l.name (map row_view l.rows)
