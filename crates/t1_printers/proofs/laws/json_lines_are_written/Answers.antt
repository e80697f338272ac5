use Rattle.t1_printers.proofs.JsonTexts.{seen-flushed, seen-written}
use Rattle.t1_printers.proofs.laws.json_lines_are_written.Goals as goal
use Rattle.t1_printers.specs.Printing.{formatting_by}

pub returns-clause-written : goal.returns-clause-written
returns-clause-written g c =
    seen-written (λ f. f.reasons) (formatting_by g.W.Sink.state g.E.Sink.state)

pub returns-clause-flushed : goal.returns-clause-flushed
returns-clause-flushed g c =
    seen-flushed (λ f. f.reasons) (formatting_by g.W.Sink.state g.E.Sink.state)
