use Rattle.t1_io.proofs.SinkLemmas.{PutFailed-first, PutFailed-second, Writes-failed, Writes-then}
use Rattle.t1_forms.proofs.commands.put_command.Goals as goal

pub returns-in_err-put_parts : goal.returns-in_err-put_parts
returns-in_err-put_parts g c =
    (Writes-failed _ _ _ _ _ c.from_residual.ensures.1 (PutFailed-first _ _ _ _ c.in_err-put_parts.ensures))

pub returns-in_err-put_file : goal.returns-in_err-put_file
returns-in_err-put_file g c =
    (Writes-failed _ _ _ _ _ c.from_residual-in_err-put_file.ensures.1
    (PutFailed-second _ _ _ _ _ c.in_ok-put_parts.ensures (PutFailed-first _ _ _ _ c.in_err-put_file.ensures)))

pub returns-in_err-put_parts-2 : goal.returns-in_err-put_parts-2
returns-in_err-put_parts-2 g c =
    (Writes-failed _ _ _ _ _ c.from_residual-in_err-put_parts-2.ensures.1
    (PutFailed-second _ _ _ _ _ c.in_ok-put_parts.ensures
    (PutFailed-second _ _ _ _ _ c.in_ok-put_file.ensures (PutFailed-first _ _ _ _ c.in_err-put_parts-2.ensures))))

pub returns-in_err-put_escaped : goal.returns-in_err-put_escaped
returns-in_err-put_escaped g c =
    (Writes-failed _ _ _ _ _ c.from_residual-in_err-put_escaped.ensures.1
    (PutFailed-second _ _ _ _ _ c.in_ok-put_parts.ensures
    (PutFailed-second _ _ _ _ _ c.in_ok-put_file.ensures
    (PutFailed-second _ _ _ _ _ c.in_ok-put_parts-2.ensures (PutFailed-first _ _ _ _ c.in_err-put_escaped.ensures)))))

pub returns-in_err-put_all : goal.returns-in_err-put_all
returns-in_err-put_all g c =
    (Writes-failed _ _ _ _ _ c.from_residual-in_err-put_all.ensures.1
    (PutFailed-second _ _ _ _ _ c.in_ok-put_parts.ensures
    (PutFailed-second _ _ _ _ _ c.in_ok-put_file.ensures
    (PutFailed-second _ _ _ _ _ c.in_ok-put_parts-2.ensures
    (PutFailed-second _ _ _ _ _ c.in_ok-put_escaped.ensures (PutFailed-first _ _ _ _ c.in_err-put_all.ensures))))))

pub returns-in_err-put_message : goal.returns-in_err-put_message
returns-in_err-put_message g c =
    (Writes-failed _ _ _ _ _ c.from_residual-in_err-put_message.ensures.1
    (PutFailed-second _ _ _ _ _ c.in_ok-put_parts.ensures
    (PutFailed-second _ _ _ _ _ c.in_ok-put_file.ensures
    (PutFailed-second _ _ _ _ _ c.in_ok-put_parts-2.ensures
    (PutFailed-second _ _ _ _ _ c.in_ok-put_escaped.ensures
    (PutFailed-second _ _ _ _ _ c.in_ok-put_all.ensures (PutFailed-first _ _ _ _ c.in_err-put_message.ensures)))))))

pub returns : goal.returns
returns g c =
    (Writes-then _ _ _ _ _ _ c.in_ok-put_parts.ensures
    (Writes-then _ _ _ _ _ _ c.in_ok-put_file.ensures
    (Writes-then _ _ _ _ _ _ c.in_ok-put_parts-2.ensures
    (Writes-then _ _ _ _ _ _ c.in_ok-put_escaped.ensures
    (Writes-then _ _ _ _ _ _ c.in_ok-put_all.ensures (Writes-then _ _ _ _ _ _ c.in_ok-put_message.ensures c.put_all-2.ensures))))))
