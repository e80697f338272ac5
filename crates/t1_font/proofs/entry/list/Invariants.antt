use Rattle.std.proofs.Common.{◌≡◌, ◌≤◌, ◌+◌, [], length}
use Rattle.t1_font.specs.Values.{numbers_of, list_after}
use Rattle.t1_font.proofs.entry.list.Given as goal

abbrev pub invariant-items : goal.invariant-items
invariant-items l = record {
  kept : length l.kept.items ≤ 16;
  room : l.count + length l.left ≤ length l.fn.text;
  rest : list_after l.count l.kept.items (numbers_of l.left) ≡ list_after 0 [] (numbers_of l.fn.text);
}

abbrev pub decreases-items : goal.decreases-items
decreases-items l = length l.left
