use Rattle.std.proofs.Common.{◌≡◌, subst}
use Rattle.t1_char.specs.Turns.{MachineView}
use Rattle.t1_picture.specs.Private.Runs.{seen_steps}
use Rattle.t1_picture.proofs.run.Run.across.Goals as goal
use Rattle.t1_rules.specs.StepRules.Stems.{hint_set, lies_across}

pub returns : goal.returns
returns c =
    subst (λ (m : MachineView). c.across.result.now ≡ hint_set lies_across (seen_steps m)) c.self.view_is
    (c.across.ensures c.self.inside.machine.edition _ c.self.invariant.0)
