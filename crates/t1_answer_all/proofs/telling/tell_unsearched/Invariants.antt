use Rattle.std.proofs.Common.{string_bytes, take}
use Rattle.std.specs.List.{flat_map}
use Rattle.t1_answer_all.specs.Telling.{unsearched_line}
use Rattle.t1_io.specs.Devices.{Wrote}
use Rattle.t1_answer_all.proofs.telling.tell_unsearched.Given as goal

abbrev pub invariant-loop-folder : goal.invariant-loop-folder
invariant-loop-folder g l =
    Wrote (g.E.Sink.state l.fn.errors) (g.E.Sink.state l.errors) (flat_map (λ folder. unsearched_line (string_bytes folder)) (take l.folder-index l.folders))
