use Rattle.std.proofs.Common.{sym, ◌∙◌}
use Rattle.std.specs.List.{flat_map}
use Rattle.t1_reasons.specs.StepReasons.{beside, is_flawed_pair, pairs}
use Rattle.t1_reasons.proofs.Finds.{found_behind, found_in_front}
use Rattle.t1_reasons.proofs.step_reasons.flawed_pair.Goals as goal

pub returns-in-Some : goal.returns-in-Some
returns-in-Some c =
    sym (found_in_front (is_flawed_pair c.args.flaw) (flat_map (λ own. beside own.stem c.args.kept.now) c.args.stems.now) (pairs c.args.stems.now)
    c.in-Some.reason (sym c.flawed_with.ensures ∙ c.in-Some.is))

pub returns-in-None : goal.returns-in-None
returns-in-None c =
    c.flawed_of_two.ensures
    ∙ sym (found_behind (is_flawed_pair c.args.flaw) (flat_map (λ own. beside own.stem c.args.kept.now) c.args.stems.now) (pairs c.args.stems.now)
    (sym c.flawed_with.ensures ∙ c.in-None.is))
