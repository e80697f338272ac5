use Rattle.std.proofs.Common.{◌≡◌, ◌++◌, ◌∙◌, None, Some, ap, codes, subst}
use Rattle.t1_forms.specs.Commands.{command_of}
use Rattle.t1_forms.specs.Tellings.{of_unchecked}
use Rattle.t1_printers.proofs.github.GitHubGroupsGroupForm.put_unchecked.Goals as goal
use Rattle.t1_many.specs.Plain.{IsLinePut}
use Rattle.t1_many.specs.Handing.{lost_of}

pub returns : goal.returns
returns g c =
    let reason = c.args.reason.now in
    let line : c.as_slice.result.now ≡ codes "t1check: " ++ reason =
    c.as_slice.ensures.value ∙ c.in-Ok.ensures ∙ ap (λ t. codes "t1check: " ++ t) c.as_bytes.ensures.value in
    let from = g.W.Sink.state c.args.sink.now in
    let to = g.W.Sink.state c.put_told.new.sink in
    let lost = lost_of c.put_told.result in
    subst (λ r. IsLinePut from to (command_of (record { font = Some c.args.name.now; what = of_unchecked r; reason = None }) (codes "t1check: " ++ reason)) lost)
    c.as_bytes-2.ensures.value
    (subst
    (λ l. IsLinePut from to (command_of (record { font = Some c.args.name.now; what = of_unchecked c.as_bytes-2.result.now; reason = None }) l) lost)
    line c.put_told.ensures)
