use Rattle.std.proofs.Common.{Bool, ap, refl}
use Rattle.t1_answer_all.proofs.FormMaps.{fonts_seen}
use Rattle.t1_answer_all.proofs.writing.write_formatted.Goals as goal
use Rattle.t1_answer_all.specs.Writing.WritesFormatted.{unlistable, written}
use Rattle.t1_printers.specs.Formatting.{FormattedTakes}
use Rattle.t1_printers.specs.Printing.{formatting_by}

pub returns-in-Err : goal.returns-in-Err
returns-in-Err g c = rw c.unwritten.ensures (unlistable c.give_unlisted.new.formatter c.in-Err.lost c.in-Err.ensures refl refl refl)

pub returns : goal.returns
returns g c =
    let new = c.new-form.ensures in
    written (formatting_by g.W.Sink.state g.E.Sink.state c.new-form.result)
    (formatting_by g.W.Sink.state g.E.Sink.state c.check_fonts-checked.result.output)
    (rw (new.formatter, new.streams) c.in_default.ensures) (ap (λ s. g.E.Sink.state s.errors) new.streams) c.check_fonts-checked.result.value
    (rw new.reasons at
    (fonts_seen (λ (reasons : Bool). FormattedTakes (record { reasons = reasons; writes = g.T.Formatter.writes; ends = g.T.Formatter.ends }))
    (λ form. form.reasons) (λ reasons. formatting_by g.W.Sink.state g.E.Sink.state) _ _ _ _ c.check_fonts-checked.ensures))
    c.finish-value.ensures refl
