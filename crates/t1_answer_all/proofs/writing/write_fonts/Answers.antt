use Rattle.std.proofs.Common.{Err, ap, refl}
use Rattle.t1_answer_all.proofs.DocumentsBegun.{not_put}
use Rattle.t1_answer_all.proofs.FormMaps.{fonts_seen}
use Rattle.t1_answer_all.proofs.RunEnds.{written_in}
use Rattle.t1_answer_all.proofs.writing.write_fonts.Goals as goal
use Rattle.t1_answer_all.specs.Layouts.{cases, commands, groups, json_lines, layout_value, lines, sarif}
use Rattle.t1_answer_all.specs.Writing.{lost_by}
use Rattle.t1_answer_all.specs.Writing.WritesDocument.{begun, not_begun}
use Rattle.t1_forms.specs.PageValues.{pages_value}
use Rattle.t1_forms.specs.declared.junit.JUnit.{JUnit}
use Rattle.t1_forms.specs.declared.sarif.Sarif.{Sarif}
use Rattle.t1_many.specs.Plain.{PlainTakes}
use Rattle.t1_run.specs.Opening.{sinks_by}

pub returns-in-Lines : goal.returns-in-Lines
returns-in-Lines g c =
    written_in _ (lines c.in-Lines.reasons) _ _ _ (ap layout_value c.in-Lines.is)
    (fonts_seen PlainTakes (λ form. form.reasons) (λ reasons form. sinks_by g.W.Sink.state g.E.Sink.state form.streams) _ _ _ _
    c.check_fonts-checked.ensures)

pub returns-in-Groups : goal.returns-in-Groups
returns-in-Groups g c =
    written_in _ (groups c.in-Groups.terminal) _ _ _ (ap layout_value c.in-Groups.is) c.write_groups.ensures

pub returns-in-JsonLines : goal.returns-in-JsonLines
returns-in-JsonLines g c =
    written_in _ (json_lines c.in-JsonLines.clean c.in-JsonLines.reasons) _ _ _ (ap layout_value c.in-JsonLines.is) c.write_formatted.ensures

pub returns-in-GitHub : goal.returns-in-GitHub
returns-in-GitHub g c =
    written_in _ (commands c.in-GitHub.reasons) _ _ _ (ap layout_value c.in-GitHub.is) c.write_commands.ensures

pub returns-in-Ok : goal.returns-in-Ok
returns-in-Ok g c =
    written_in _ (sarif (pages_value c.in-Sarif.pages) c.in-Sarif.reasons) _ _ _ (ap layout_value c.in-Sarif.is)
    (begun c.in-Ok.document _ c.in-Ok.ensures.text c.in-Ok.ensures.state c.write_formatted-in-Ok.ensures)

pub returns-in-Err : goal.returns-in-Err
returns-in-Err g c =
    rw c.unwritten.ensures
    (written_in _ (sarif (pages_value c.in-Sarif.pages) c.in-Sarif.reasons) _ _ _ (ap layout_value c.in-Sarif.is)
    (not_begun (lost_by c.in-Err.error) (not_put Sarif _ _ _ c.in-Err.error c.in-Err.ensures.text) refl refl (ap Err c.lost_by.ensures)))

pub returns-in-Ok-begin : goal.returns-in-Ok-begin
returns-in-Ok-begin g c =
    written_in _ (cases c.in-JUnit.failing c.in-JUnit.reasons) _ _ _ (ap layout_value c.in-JUnit.is)
    (begun c.in-Ok-begin.document _ c.in-Ok-begin.ensures.text c.in-Ok-begin.ensures.state c.write_formatted-in-Ok-begin.ensures)

pub returns-in-Err-begin : goal.returns-in-Err-begin
returns-in-Err-begin g c =
    rw c.unwritten-in-Err-begin.ensures
    (written_in _ (cases c.in-JUnit.failing c.in-JUnit.reasons) _ _ _ (ap layout_value c.in-JUnit.is)
    (not_begun (lost_by c.in-Err-begin.error) (not_put JUnit _ _ _ c.in-Err-begin.error c.in-Err-begin.ensures.text) refl refl
    (ap Err c.lost_by-in-Err-begin.ensures)))
