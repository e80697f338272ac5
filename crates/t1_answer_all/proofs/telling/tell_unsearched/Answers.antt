use Rattle.std.proofs.Common.{Global, String, string_bytes, subst}
use Rattle.t1_answer_all.proofs.telling.tell_unsearched.Goals as goal
use Rattle.t1_answer_all.specs.Telling.{unsearched_line}
use Rattle.t1_io.proofs.SinkLemmas.{PutFailed-part, Writes-failed, Wrote-part}
use Rattle.t1_io.specs.Devices.{PutFailed, Wrote}

pub returns-in_err-tell_unchecked : goal.returns-in_err-tell_unchecked
returns-in_err-tell_unchecked g c =
    let line = λ (folder : String Global). unsearched_line (string_bytes folder) in
    Writes-failed _ _ _ _ _ c.from_residual.ensures.1
    (PutFailed-part line c.args.folders.now c.loop-folder.folder-index c.folder-item.result _ _ _ c.loop-folder-test.true c.loop-folder.invariant
    (subst (λ (folder : String Global). PutFailed (g.E.Sink.state c.loop-folder.errors) (g.E.Sink.state c.tell_unchecked.new.sink) (line folder))
    c.folder-item.is (rw c.as_str.ensures.value at c.in_err-tell_unchecked.ensures)))

pub loop-folder-preserved : goal.loop-folder-preserved
loop-folder-preserved g c =
    let line = λ (folder : String Global). unsearched_line (string_bytes folder) in
    Wrote-part line c.args.folders.now c.loop-folder.folder-index c.folder-item.result _ _ _ c.loop-folder-test.true c.loop-folder.invariant
    (subst (λ (folder : String Global). Wrote (g.E.Sink.state c.loop-folder.errors) (g.E.Sink.state c.tell_unchecked.new.sink) (line folder))
    c.folder-item.is (rw c.as_str.ensures.value at c.in_ok-tell_unchecked.ensures))
