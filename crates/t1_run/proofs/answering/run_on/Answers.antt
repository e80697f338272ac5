use Rattle.std.proofs.Common.{ap, option_map, refl, sym, ◌∙◌}
use Rattle.t1_io.specs.Devices.{SourceState}
use Rattle.t1_run.specs.Answering.IsOpened.{none_named, opened}
use Rattle.t1_run.specs.Answering.RunsOn.{no_waivers, ran}
use Rattle.t1_run.proofs.answering.run_on.Goals as goal

pub returns-in-Ok : goal.returns-in-Ok
returns-in-Ok g c =
    ran _
    (opened c.in-Some.name.now (sym c.waivers.ensures ∙ ap (option_map (λ s. s.now)) c.in-Some.is)
    (c.in-Ok.file, ((c.in-Some.name, c.in-Ok.ensures, refl), sym (ap (λ (s : SourceState). s.left) c.new-waivers.ensures)))
    (ap (λ (s : SourceState). s.failed) c.new-waivers.ensures) refl)
    c.run-status.ensures.ends

pub returns-in-Err : goal.returns-in-Err
returns-in-Err g c =
    no_waivers c.in-Some.name.now (sym c.waivers.ensures ∙ ap (option_map (λ s. s.now)) c.in-Some.is)
    (c.in-Err.field-0, (c.in-Some.name, c.in-Err.ensures, refl)) refl refl refl (rw c.name.ensures at c.tell_failure.ensures)

pub returns-in-None : goal.returns-in-None
returns-in-None g c =
    ran _ (none_named (sym c.waivers.ensures ∙ ap (option_map (λ s. s.now)) c.in-None.is) (ap (λ (s : SourceState). s.failed) c.new-none.ensures) refl)
    c.run.ensures.ends
