use Rattle.std.proofs.Common.{ap, option_map, refl, sym, ◌∙◌}
use Rattle.t1_io.specs.Devices.{SourceState}
use Rattle.t1_run.specs.Answering.Answers.{explained, not_opened, read_file, read_input}
use Rattle.t1_run.proofs.answering.answer.Goals as goal

pub returns-in-Err : goal.returns-in-Err
returns-in-Err g c = explained c.in-Err.error c.in-Err.ensures.refuses (refl, refl) refl (rw c.name.ensures at c.explain.ensures)

pub returns-in_default : goal.returns-in_default
returns-in_default g c =
    read_input c.in-Ok.options c.in-Ok.ensures.yields (sym c.font.ensures ∙ ap (option_map (λ s. s.now)) c.in_default.is) refl c.run_on-status.ensures

pub returns-in-Ok-open_font : goal.returns-in-Ok-open_font
returns-in-Ok-open_font g c =
    read_file c.in-Ok.options c.in-Some.name.now c.in-Ok.ensures.yields
    (sym c.font.ensures ∙ ap (option_map (λ s. s.now)) c.in-Some.is) refl _
    (ap (λ (s : SourceState). s.failed) c.new-source.ensures)
    (c.in-Ok-open_font.file, ((c.in-Some.name, c.in-Ok-open_font.ensures, refl), sym (ap (λ (s : SourceState). s.left) c.new-source.ensures)))
    refl c.run_on-status-in-Ok-open_font.ensures

pub returns-in-Err-open_font : goal.returns-in-Err-open_font
returns-in-Err-open_font g c =
    not_opened c.in-Ok.options c.in-Some.name.now c.in-Ok.ensures.yields
    (sym c.font.ensures ∙ ap (option_map (λ s. s.now)) c.in-Some.is) (refl, refl) refl
    (c.in-Err-open_font.field-0, (c.in-Some.name, c.in-Err-open_font.ensures, refl)) refl (rw c.name-in-Err-open_font.ensures at c.tell_failure.ensures)
