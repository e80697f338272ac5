use Rattle.std.proofs.Common.{◌≡◌, subst}
use Rattle.t1_char.specs.Turns.{MachineView}
use Rattle.t1_picture.specs.Private.Runs.{seen_steps}
use Rattle.t1_picture.proofs.run.Run.point.Goals as goal
use Rattle.t1_rules.specs.StepRules.Flex.{current_point}

pub returns : goal.returns
returns c =
    subst (λ (m : MachineView). c.point.result ≡ current_point (seen_steps m)) c.self.view_is
    (c.point.ensures c.self.inside.machine.edition _ c.self.invariant.0)
