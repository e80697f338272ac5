use Rattle.std.proofs.Common.{option_map, subst, sym}
use Rattle.t1_forms.proofs.Messages.{message_failed, message_parts}
use Rattle.t1_forms.specs.Tellings.{reason_value}
use Rattle.t1_io.proofs.SinkLemmas.{PutFailed-first, PutFailed-second, Writes-failed, Writes-then}
use Rattle.t1_io.specs.Devices.{PutFailed, Writes}
use Rattle.t1_forms.proofs.commands.put_message.Goals as goal

pub returns-in_err-put_escaped : goal.returns-in_err-put_escaped
returns-in_err-put_escaped g c =
    Writes-failed _ _ _ _ _ c.from_residual.ensures.1
    (message_failed _ _ c.args.line.now (option_map (λ reason. reason_value reason.now) c.args.reason) c.in_err-put_escaped.ensures)

pub returns-in_err-put_all : goal.returns-in_err-put_all
returns-in_err-put_all g c =
    rw c.in-Some.is
    (Writes-failed _ _ _ _ _ c.from_residual-in_err-put_all.ensures.1
    (subst (PutFailed (g.W.Sink.state c.args.sink.now) (g.W.Sink.state c.put_all.new.sink)) (sym (message_parts c.args.line.now (reason_value c.in-Some.reason.now)))
    (PutFailed-second _ _ _ _ _ c.in_ok-put_escaped.ensures (PutFailed-first _ _ _ _ c.in_err-put_all.ensures))))

pub returns : goal.returns
returns g c =
    rw c.in-Some.is
    (subst (λ text. Writes (g.W.Sink.state c.args.sink.now) (g.W.Sink.state c.put_escaped-2.new.sink) text c.put_escaped-2.result) (sym (message_parts c.args.line.now (reason_value c.in-Some.reason.now)))
    (Writes-then _ _ _ _ _ _ c.in_ok-put_escaped.ensures (Writes-then _ _ _ _ _ _ c.in_ok-put_all.ensures c.put_escaped-2.ensures)))
