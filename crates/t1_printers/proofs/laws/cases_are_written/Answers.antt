use Rattle.t1_printers.proofs.CaseTexts.{seen-cases}
use Rattle.t1_printers.proofs.laws.cases_are_written.Goals as goal
use Rattle.t1_printers.specs.Printing.{formatting_by}

pub returns : goal.returns
returns g c = seen-cases (λ f. f.reasons) (formatting_by g.W.Sink.state g.E.Sink.state)
