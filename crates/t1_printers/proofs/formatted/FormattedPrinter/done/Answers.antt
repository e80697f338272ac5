use Rattle.std.proofs.Common.{refl}
use Rattle.t1_many.proofs.Puts.{flush_failed}
use Rattle.t1_many.proofs.ReportLines.{lost_same}
use Rattle.t1_printers.proofs.formatted.FormattedPrinter.done.Goals as goal
use Rattle.t1_printers.specs.Formatting.{ended, unended}

pub returns-in_err-end_font : goal.returns-in_err-end_font
returns-in_err-end_font g c = (
  refl,
  (
    unended c.in_err-end_font.field-0.0 c.in_err-end_font.ensures
        (lost_same {T = Unit {0}} c.from_residual.result c.in_err-end_font.field-0.0 c.from_residual.ensures.1),
    refl,
  ),
)

pub returns-in_err-flush : goal.returns-in_err-flush
returns-in_err-flush g c = (
  refl,
  (
    ended (g.W.Sink.state c.end_font.new.sink) c.in_ok-end_font.ensures
        (flush_failed c.from_residual-in_err-flush.result _ _ c.from_residual-in_err-flush.ensures.1 c.in_err-flush.ensures.flushes.0),
    refl,
  ),
)

pub returns : goal.returns
returns g c = (refl, (ended (g.W.Sink.state c.end_font.new.sink) c.in_ok-end_font.ensures c.in_ok-flush.ensures.flushes, refl))
