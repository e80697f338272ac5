use Rattle.std.proofs.Common.{refl}
use Rattle.t1_answer_all.proofs.writing.finish.Goals as goal
use Rattle.t1_answer_all.specs.Writing.FinishesForm.{flushed, unfinished}
use Rattle.t1_answer_all.specs.declared.findings.Findings.{Findings}
use Rattle.t1_many.proofs.Puts.{flush_failed}
use Rattle.t1_many.proofs.ReportLines.{lost_same, no_ok}
use Rattle.t1_many.specs.declared.policy.Lost.{Lost}

pub returns-in_err-finish : goal.returns-in_err-finish
returns-in_err-finish g c =
    let is = c.from_residual-in_err-finish.ensures.1 in
    rw c.in_ok-found.was (
      unfinished c.in_err-finish.field-0.0 c.in_err-finish.ensures (lost_same {T = Findings} c.from_residual-in_err-finish.result c.in_err-finish.field-0.0 is),
      no_ok {T = Findings} {E = Lost} c.from_residual-in_err-finish.result _ _ is,
    )

pub returns-in_err-flush : goal.returns-in_err-flush
returns-in_err-flush g c =
    let is = c.from_residual-in_err-flush.ensures.1 in
    rw c.in_ok-found.was (
      flushed (g.W.Sink.state c.finish.new.sink) c.in_ok-finish.ensures
          (flush_failed {T = Findings} c.from_residual-in_err-flush.result _ _ is c.in_err-flush.ensures.flushes.0),
      no_ok {T = Findings} {E = Lost} c.from_residual-in_err-flush.result _ _ is,
    )

pub returns : goal.returns
returns g c = rw c.in_ok-found.was (flushed (g.W.Sink.state c.finish.new.sink) c.in_ok-finish.ensures c.in_ok-flush.ensures.flushes, refl)
