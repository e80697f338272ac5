use Rattle.std.proofs.Common.{sym, ◌∙◌, refl}
use Rattle.std.specs.List.{flat_map}
use Rattle.t1_reasons.specs.StepReasons.{beside, is_flawed_pair}
use Rattle.t1_reasons.proofs.Finds.{found_at_first, found_later}
use Rattle.t1_reasons.proofs.step_reasons.flawed_with.Goals as goal

pub returns-in-Some : goal.returns-in-Some
returns-in-Some c =
    found_at_first (is_flawed_pair c.args.flaw) (λ own others. beside own.stem c.args.kept.now) (flat_map (λ own. beside own.stem c.args.kept.now))
    (λ own others. refl) c.loop-rest.rest.now _ c.in-Some.reason _ c.in-len1-up.len_at_least
    (sym c.flawed_beside.ensures ∙ c.in-Some.is) c.loop-rest.invariant

pub loop-rest-preserved : goal.loop-rest-preserved
loop-rest-preserved c =
    found_later (is_flawed_pair c.args.flaw) (λ own others. beside own.stem c.args.kept.now) (flat_map (λ own. beside own.stem c.args.kept.now))
    (λ own others. refl) c.loop-rest.rest.now _ _ c.in-len1-up.len_at_least
    (sym c.flawed_beside.ensures ∙ c.in_default-flawed_beside.is) c.loop-rest.invariant
