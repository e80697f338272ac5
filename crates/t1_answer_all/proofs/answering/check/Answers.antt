use Rattle.std.proofs.Common.{refl}
use Rattle.t1_answer_all.proofs.answering.check.Goals as goal
use Rattle.t1_answer_all.specs.Endings.{left_value}
use Rattle.t1_run.specs.Opening.{sinks_by}

pub returns : goal.returns
returns g c = record {
  between = c.check_by-ran.new.files;
  behind = sinks_by g.W.Sink.state g.E.Sink.state c.check_by-ran.result.output;
  left = left_value c.check_by-ran.result.value;
  checks = c.check_by-ran.ensures;
  replaces = c.replace_files-value.ensures;
  out_is = refl;
}
