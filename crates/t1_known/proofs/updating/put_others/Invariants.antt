use Rattle.std.proofs.Common.{ℕ, List, drop}
use Rattle.t1_known.specs.Private.Fonts.{IsLeft}
use Rattle.t1_known.specs.Private.Updates.{HavePut, behind_text}
use Rattle.t1_known.proofs.updating.put_others.Given as goal

abbrev pub invariant-loop-reading : goal.invariant-loop-reading
invariant-loop-reading g l = (done : List (List ℕ)) → IsLeft l.readings done l.fn.left.entries
    → HavePut l.readings (behind_text l.readings done l.readings) (λ now. behind_text l.readings now (drop l.reading-index l.readings))
    (g.W.Sink.state l.fn.sink) (g.W.Sink.state l.sink) l.left.entries
