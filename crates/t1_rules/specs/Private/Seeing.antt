-- What all watchers say of a step.
use Rattle.std.specs.Prelude.{◌≡◌, ℕ, ◌<◌, List, [], ◌∷◌, ◌++◌, length}
use Rattle.t1_char.specs.declared.edition.Edition.{Edition}
use Rattle.t1_char.specs.Steps.{StepView}
use Rattle.t1_rules.specs.declared.mask.Mask.{Mask}
use Rattle.t1_rules.specs.declared.watches.Watches.{Watches}
use Rattle.t1_rules.specs.Mask.{has}
use Rattle.t1_rules.specs.StepRules.{breaks, step_rules}
use Rattle.t1_rules.specs.Watches.{most_steps}
use Rattle.t1_rules.specs.Private.Standing.{WatchesStandFor}

-- They have seen so few steps that they can see one more.
abbrev pub CanSee : Watches → Type 0
CanSee watches = (edition : Edition) × ((before : List StepView) × (WatchesStandFor edition watches before × (length before < most_steps)))

-- They have seen this step too, and these are the rules that it breaks.
pub record Sees (old : Watches) (step : StepView) (new : Watches) (broken : Mask) : Type 0 where
  pub stands : (edition : Edition) (before : List StepView) → WatchesStandFor edition old before → length before < most_steps →
      WatchesStandFor edition new (before ++ step ∷ [])
  pub answer : (edition : Edition) (before : List StepView) → WatchesStandFor edition old before → length before < most_steps →
      (n : ℕ) → has broken n ≡ breaks (step_rules edition) n before step
