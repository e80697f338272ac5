use Rattle.std.proofs.Common.{◌≡◌, ap, length, map, not, string_bytes, sym, ◌∙◌}
use Rattle.std.proofs.lemmas.List.{length-map}
use Rattle.t1_answer_all.proofs.Told.{told_either}
use Rattle.t1_answer_all.proofs.checking.tell_and_check.Goals as goal
use Rattle.t1_answer_all.specs.Plans.{PlanValue}

pub returns : goal.returns
returns g c =
    let names = c.plan_by-plan.result.names.now in
    let count : length names ≡ length (map string_bytes c.args.fonts.now.names.items) =
    sym (length-map names string_bytes) ∙ ap (λ (plan : PlanValue). length plan.names) c.plan_by-plan.ensures.plan in
    let quiet = ap (λ (plan : PlanValue). not plan.quiet) c.plan_by-plan.ensures.plan in (
      g.E.Sink.state c.tell_unlisted.new.errors,
      told_either _ _ _ c.tell_unlisted.result
          (rw (c.unlisted.ensures.undecoded, c.unlisted.ensures.unsearched) at c.tell_unlisted.ensures),
      c.expect_if.new.files,
      rw (quiet, count) at c.expect_if.ensures,
      rw (c.plan_by-plan.ensures.plan, c.plan_by-plan.ensures.beside) at c.run.ensures,
    )
