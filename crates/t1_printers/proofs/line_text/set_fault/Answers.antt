use Rattle.std.proofs.Common.{Some, ap, sym, ◌∙◌}
use Rattle.t1_forms.proofs.Written.{all_written}
use Rattle.t1_io.specs.Devices.{SinkState}
use Rattle.t1_lines.proofs.LinesWritten.{line-written}
use Rattle.t1_printers.proofs.line_text.set_fault.Goals as goal

pub returns-clause-text : goal.returns-clause-text
returns-clause-text c =
    ap (λ (s : SinkState). s.written)
    (c.pop.ensures _ _
    (all_written _ _ _ _ c.write_fault.ensures (sym c.is_err.ensures.value ∙ c.if-is_err.false) (ap (λ (s : SinkState). s.written) c.clear.ensures)
    ∙ ap Some (line-written _ _ _ c.requires)))
