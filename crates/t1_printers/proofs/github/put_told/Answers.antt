use Rattle.std.proofs.Common.{◌≡◌, List, None, Ok, Err, Result, Some, subst, sym, ℕ}
use Rattle.std.specs.Result.{IsErrAnd}
use Rattle.t1_forms.specs.Commands.{command_of}
use Rattle.t1_forms.specs.Tellings.{what_value}
use Rattle.t1_printers.proofs.github.put_told.Goals as goal
use Rattle.t1_many.specs.Plain.{IsLinePut}
use Rattle.t1_io.specs.Devices.{PutFailed, SinkState, Wrote}
use Rattle.t1_many.specs.Handing.{lost_of}
use Rattle.t1_many.specs.declared.policy.Lost.{Lost}
use Rattle.t1_many.specs.declared.policy.Lost.TheVariants.{Device}

text_failed : {T : Type 0} (result : Result T Lost) (a b : SinkState) (text : List ℕ) → IsErrAnd result (λ lost. lost ≡ Device)
    → PutFailed a b text → IsLinePut a b text (lost_of result)
text_failed (Ok value) a b text is broke = absurd is
text_failed (Err lost) a b text is broke = subst (λ (l : Lost). IsLinePut a b text (Some l)) (sym is) broke

pub returns-in_err-write_command : goal.returns-in_err-write_command
returns-in_err-write_command g c =
    let from = g.W.Sink.state c.args.sink.now in
    let to = g.W.Sink.state c.write_command.new.sink in
    let what = what_value c.args.what in
    let text = command_of (record { font = Some c.args.name.now; what = what; reason = None }) c.args.line.now in
    text_failed c.from_residual.result from to text c.from_residual.ensures.1
    (subst (λ n. PutFailed from to (command_of (record { font = Some n; what = what; reason = None }) c.args.line.now)) c.as_bytes.ensures.value
    c.in_err-write_command.ensures)

pub returns : goal.returns
returns g c =
    let from = g.W.Sink.state c.args.sink.now in
    let to = g.W.Sink.state c.write_command.new.sink in
    let what = what_value c.args.what in
    subst (λ n. Wrote from to (command_of (record { font = Some n; what = what; reason = None }) c.args.line.now)) c.as_bytes.ensures.value
    c.in_ok-write_command.ensures
