use Rattle.std.proofs.Common.{Bool, ap, if◌then◌else◌, sym, ◌∙◌}
use Rattle.t1_answer_all.proofs.EndingTexts.{not_failed}
use Rattle.t1_answer_all.specs.Endings.{status_of}
use Rattle.t1_run.specs.declared.status.Status.TheVariants.{Failed}
use Rattle.t1_io.proofs.SinkLemmas.{PutFailed-first, PutFailed-second, Writes-failed, Wrote-trans}
use Rattle.t1_answer_all.proofs.ending.tell_rest.Goals as goal

pub returns-in_err-tell_summary-clause-told : goal.returns-in_err-tell_summary-clause-told
returns-in_err-tell_summary-clause-told g c =
    Writes-failed _ _ _ _ _ c.from_residual.ensures.1 (PutFailed-first _ _ _ _ c.in_err-tell_summary.ensures)

pub returns-in_err-tell_edition-clause-told : goal.returns-in_err-tell_edition-clause-told
returns-in_err-tell_edition-clause-told g c =
    Writes-failed _ _ _ _ _ c.from_residual-in_err-tell_edition.ensures.1
    (PutFailed-second _ _ _ _ _ c.in_ok-tell_summary.ensures (PutFailed-first _ _ _ _ c.in_err-tell_edition.ensures))

pub returns-in_err-tell_unwaived-clause-told : goal.returns-in_err-tell_unwaived-clause-told
returns-in_err-tell_unwaived-clause-told g c =
    Writes-failed _ _ _ _ _ c.from_residual-in_err-tell_unwaived.ensures.1
    (PutFailed-second _ _ _ _ _ c.in_ok-tell_summary.ensures
    (PutFailed-second _ _ _ _ _ c.in_ok-tell_edition.ensures (PutFailed-first _ _ _ _ c.in_err-tell_unwaived.ensures)))

pub returns-in_err-tell_too_many-clause-told : goal.returns-in_err-tell_too_many-clause-told
returns-in_err-tell_too_many-clause-told g c =
    Writes-failed _ _ _ _ _ c.from_residual-in_err-tell_too_many.ensures.1
    (PutFailed-second _ _ _ _ _ c.in_ok-tell_summary.ensures
    (PutFailed-second _ _ _ _ _ c.in_ok-tell_edition.ensures
    (PutFailed-second _ _ _ _ _ c.in_ok-tell_unwaived.ensures c.in_err-tell_too_many.ensures.told)))

pub returns-in-Failed-clause-told : goal.returns-in-Failed-clause-told
returns-in-Failed-clause-told g c =
    Wrote-trans _ _ _ _ _ c.in_ok-tell_summary.ensures
    (Wrote-trans _ _ _ _ _ c.in_ok-tell_edition.ensures
    (Wrote-trans _ _ _ _ _ c.in_ok-tell_unwaived.ensures c.in_ok-tell_too_many.ensures.told))

pub returns-in_default : goal.returns-in_default
returns-in_default g c = record {
  told = Wrote-trans _ _ _ _ _ c.in_ok-tell_summary.ensures
      (Wrote-trans _ _ _ _ _ c.in_ok-tell_edition.ensures
      (Wrote-trans _ _ _ _ _ c.in_ok-tell_unwaived.ensures c.in_ok-tell_too_many.ensures.told));
  status = c.status_of.ensures
      ∙ sym (ap (λ (b : Bool). if b then Failed else status_of c.args.plan.failing c.args.found.now.tally)
      (not_failed _ _ c.in_ok-tell_too_many.ensures.status c.in_default.not-Failed));
}
