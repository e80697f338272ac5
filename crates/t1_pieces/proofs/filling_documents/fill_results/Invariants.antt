use Rattle.std.proofs.Common.{◌≡◌, ◌-◌, length, take}
use Rattle.t1_forms.specs.Sarif.{sarif_state}
use Rattle.t1_pieces.proofs.DocumentResults.{AreSoFar}
use Rattle.t1_pieces.specs.DocumentParts.{start_of}
use Rattle.t1_pieces.proofs.filling_documents.fill_results.Given as goal

abbrev pub invariant-loop-fault : goal.invariant-loop-fault
invariant-loop-fault l = record {
  font : l.walk.font ≡ l.fn.walk.font;
  waivers : l.walk.waivers ≡ l.waivers;
  request : l.writer.request.now ≡ l.fn.writer.request.now;
  reasons : l.writer.reasons ≡ l.fn.walk.font;
  kept : l.reached ≡ l.fn.reached;
  size : length l.room ≡ length l.fn.room;
  first : l.used ≡ 0 → l.fn.filled.used ≡ 0;
  so_far : AreSoFar (start_of l.fn.writer l.fn.walk l.waivers (take l.fn.filled.used l.fn.room)) l.fn.filled.at
      l.at l.walk.mark (sarif_state l.writer.results.formatter) l.room l.used;
}

abbrev pub decreases-loop-fault : goal.decreases-loop-fault
decreases-loop-fault l = length l.room - l.used
