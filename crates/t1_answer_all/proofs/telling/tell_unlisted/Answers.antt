use Rattle.std.proofs.Common.{Global, String, string_bytes}
use Rattle.std.proofs.lemmas.List.Folds.{flat_map-map}
use Rattle.t1_answer_all.proofs.telling.tell_unlisted.Goals as goal
use Rattle.t1_answer_all.specs.Telling.{unsearched_line}
use Rattle.t1_io.proofs.SinkLemmas.{PutFailed-first, Writes-failed, Writes-then}

pub returns-in_err-tell_undecoded : goal.returns-in_err-tell_undecoded
returns-in_err-tell_undecoded g c =
    Writes-failed _ _ _ _ _ c.from_residual.ensures.1 (PutFailed-first _ _ _ _ c.in_err-tell_undecoded.ensures)

pub returns : goal.returns
returns g c =
    rw (flat_map-map unsearched_line (λ (folder : String Global). string_bytes folder) c.args.unlisted.unsearched.now)
    (Writes-then _ _ _ _ _ _ c.in_ok-tell_undecoded.ensures c.tell_unsearched.ensures)
