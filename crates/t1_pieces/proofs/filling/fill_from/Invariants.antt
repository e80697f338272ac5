use Rattle.std.proofs.Common.{◌≡◌, ◌-◌, length}
use Rattle.t1_pieces.specs.Pieces.{AreGiven}
use Rattle.t1_pieces.proofs.filling.fill_from.Given as goal

abbrev pub invariant-loop-fault : goal.invariant-loop-fault
invariant-loop-fault l = record {
  font : l.walk.font ≡ l.fn.walk.font;
  waivers : l.walk.waivers ≡ l.waivers;
  mark : l.walk.mark ≡ l.reached;
  kept : l.mark ≡ l.fn.mark;
  form : l.writer.form ≡ l.fn.writer.form;
  reasons : l.writer.reasons ≡ l.fn.walk.font;
  given : AreGiven l.fn.writer.form (record { font = l.fn.walk.font; waivers = l.waivers }) l.fn.mark l.reached l.room l.used;
  size : length l.room ≡ length l.fn.room;
  start : l.used ≡ 0 → l.reached ≡ l.fn.mark;
}

abbrev pub decreases-loop-fault : goal.decreases-loop-fault
decreases-loop-fault l = length l.room - l.used
