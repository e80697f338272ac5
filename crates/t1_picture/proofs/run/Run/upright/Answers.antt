use Rattle.std.proofs.Common.{◌≡◌, subst}
use Rattle.t1_char.specs.Turns.{MachineView}
use Rattle.t1_picture.specs.Private.Runs.{seen_steps}
use Rattle.t1_picture.proofs.run.Run.upright.Goals as goal
use Rattle.t1_rules.specs.StepRules.Stems.{hint_set, stands_upright}

pub returns : goal.returns
returns c =
    subst (λ (m : MachineView). c.upright.result.now ≡ hint_set stands_upright (seen_steps m)) c.self.view_is
    (c.upright.ensures c.self.inside.machine.edition _ c.self.invariant.0)
