use Rattle.std.proofs.Common.{Bool, List, Option, Some, ap, ap₂, if◌then◌else◌, subst, sym, ◌∙◌, ℕ}
use Rattle.t1_answer_all.proofs.EndingTexts.{rest_failed, short_failed}
use Rattle.t1_answer_all.proofs.ending.end.Goals as goal
use Rattle.t1_answer_all.specs.Endings.{AreFoundBy, LeftValue, rows_in}
use Rattle.t1_answer_all.specs.Modes.{mode_value}
use Rattle.t1_answer_all.specs.Plans.{plan_value}
use Rattle.t1_io.proofs.SinkLemmas.{Wrote-trans}
use Rattle.t1_many.specs.declared.readings.Reading.{Reading as Kept}
use Rattle.t1_run.specs.declared.status.Status.{Status}
use Rattle.t1_run.specs.declared.status.Status.TheVariants.{Failed}

pub returns-in_err-tell_mismatches : goal.returns-in_err-tell_mismatches
returns-in_err-tell_mismatches g c = λ all kept.
    let are = subst (λ (ks : List Kept). AreFoundBy (mode_value c.args.plan.mode) ks all) (sym c.as_slice-readings.ensures.value) kept in
    short_failed (plan_value c.args.plan) c.args.found all _ _ (g.E.Sink.state c.args.errors.now)
    c.in_err-tell_mismatches.field-0.0 c.from_residual-in_err-tell_mismatches.result c.from_residual-in_err-tell_mismatches.ensures.1
    (c.in_err-tell_mismatches.ensures all are)

pub returns-in_err-status : goal.returns-in_err-status
returns-in_err-status g c = λ all kept.
    let are = subst (λ (ks : List Kept). AreFoundBy (mode_value c.args.plan.mode) ks all) (sym c.as_slice-readings.ensures.value) kept in
    rest_failed (plan_value c.args.plan) c.args.found all _ _ _ c.from_residual-in_err-status.result c.from_residual-in_err-status.ensures.1
    (c.in_ok-tell_mismatches.ensures all are)
    (rw (c.rows_in.ensures ∙ ap rows_in (c.in_ok-known_faults.ensures all are)) at c.in_err-status.ensures.told)

pub returns : goal.returns
returns g c = λ all kept.
    let are = subst (λ (ks : List Kept). AreFoundBy (mode_value c.args.plan.mode) ks all) (sym c.as_slice-readings.ensures.value) kept in
    let text = c.in_ok-known_faults.ensures all are in
    let left : Status → Option (List ℕ) → LeftValue = λ status text. record { status = status; known_faults = text; waivers = Some c.args.found.kept } in (
      Wrote-trans _ _ _ _ _ (c.in_ok-tell_mismatches.ensures all are)
          (rw (c.rows_in.ensures ∙ ap rows_in text) at c.in_ok-status.ensures.told),
      ap₂ left (c.status_of_list.ensures ∙ ap₂ (λ (whole : Bool) (status : Status). if whole then status else Failed) c.is_empty.ensures
          c.in_ok-status.ensures.status) text,
    )
