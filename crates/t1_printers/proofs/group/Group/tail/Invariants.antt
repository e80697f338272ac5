use Rattle.std.proofs.Common.{◌≡◌, ◌≤◌, length}
use Rattle.t1_printers.proofs.group.Group.tail.Given as goal
use Rattle.t1_printers.specs.Groups.{group_value, tail_at, tail_fits}
use Rattle.t1_printers.specs.Tails.{greatest}

abbrev pub invariant-loop-shown : goal.invariant-loop-shown
invariant-loop-shown l = record {
  few : l.shown ≤ length l.self.names.items;
  text : l.text.items ≡ tail_at (group_value l.self) l.shown;
  greatest : greatest (tail_fits l.room (group_value l.self)) (length l.self.names.items)
      ≡ greatest (tail_fits l.room (group_value l.self)) l.shown;
}

abbrev pub decreases-loop-shown : goal.decreases-loop-shown
decreases-loop-shown l = l.shown
