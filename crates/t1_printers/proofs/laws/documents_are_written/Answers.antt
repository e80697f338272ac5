use Rattle.t1_printers.proofs.DocumentTexts.{seen-document}
use Rattle.t1_printers.proofs.laws.documents_are_written.Goals as goal
use Rattle.t1_printers.specs.Printing.{formatting_by}

pub returns : goal.returns
returns g c = seen-document (λ f. f.reasons) (formatting_by g.W.Sink.state g.E.Sink.state)
