use Rattle.std.proofs.Common.{◌≡◌, subst}
use Rattle.t1_char.specs.Turns.{MachineView}
use Rattle.t1_picture.specs.Private.Runs.{seen_steps}
use Rattle.t1_picture.proofs.run.Run.is_in_flex.Goals as goal
use Rattle.t1_rules.specs.StepRules.Paths.{in_flex}

pub returns : goal.returns
returns c =
    subst (λ (m : MachineView). c.is_in_flex.result ≡ in_flex (seen_steps m)) c.self.view_is
    (c.is_in_flex.ensures c.self.inside.machine.edition _ c.self.invariant.0)
