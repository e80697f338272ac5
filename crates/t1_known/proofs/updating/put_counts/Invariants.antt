use Rattle.std.specs.List.{flat_map}
use Rattle.t1_known.proofs.Told.{HasTold}
use Rattle.t1_known.specs.Private.Fonts.{count_text}
use Rattle.t1_known.proofs.updating.put_counts.Given as goal

abbrev pub invariant-loop-kind : goal.invariant-loop-kind
invariant-loop-kind g l =
    HasTold (g.W.Sink.state l.fn.sink) (g.W.Sink.state l.sink) (flat_map (count_text l.font) l.counts.entries) (flat_map (count_text l.font) l.kind-iterator)
