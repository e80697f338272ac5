use Rattle.std.proofs.Common.{take}
use Rattle.std.specs.List.{flat_map}
use Rattle.t1_io.specs.Devices.{Wrote}
use Rattle.t1_report.specs.Lines.{inner_text}
use Rattle.t1_report.proofs.lines.write_inner.Given as goal

abbrev pub invariant-loop-number : goal.invariant-loop-number
invariant-loop-number g l = record {
  wrote : Wrote (g.W.Sink.state l.fn.sink) (g.W.Sink.state l.sink) (flat_map inner_text (take l.number-index l.numbers));
}
