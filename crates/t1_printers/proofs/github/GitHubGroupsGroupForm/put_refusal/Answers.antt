use Rattle.std.proofs.Common.{◌≡◌, ◌++◌, ◌∙◌, None, Some, ap, codes, subst}
use Rattle.t1_forms.specs.Commands.{command_of}
use Rattle.t1_forms.specs.Tellings.{of_line}
use Rattle.t1_printers.proofs.github.GitHubGroupsGroupForm.put_refusal.Goals as goal
use Rattle.t1_many.specs.Plain.{IsLinePut}
use Rattle.t1_lines.specs.Lines.{of_refusal, spelled}
use Rattle.t1_many.specs.Handing.{lost_of}

pub returns : goal.returns
returns g c =
    let refusal = of_refusal c.args.code in
    let line : c.as_slice.result.now ≡ spelled refusal =
    c.as_slice.ensures.value ∙ c.in-Ok.ensures ∙ ap (λ t. codes "refused: " ++ t) (c.as_bytes.ensures.value ∙ c.refusal_text.ensures) in
    let from = g.W.Sink.state c.args.sink.now in
    let to = g.W.Sink.state c.put_told.new.sink in
    subst
    (λ l. IsLinePut from to (command_of (record { font = Some c.args.name.now; what = of_line refusal; reason = None }) l) (lost_of c.put_told.result))
    line c.put_told.ensures
