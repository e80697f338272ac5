-- What the rules' watchers say of a step, for what it draws.
use Rattle.std.specs.Prelude.{◌≡◌, ◌||◌, Bool, List, [], ◌∷◌, ◌++◌}
use Rattle.t1_char.specs.Steps.{StepView}
use Rattle.t1_outline.specs.declared.nib.Around.{Around}
use Rattle.t1_outline.specs.Outlines.{spoils_flex}
use Rattle.t1_rules.specs.declared.mask.Mask.{Mask}
use Rattle.t1_rules.specs.declared.rule.Rule.TheVariants.{X01, X03, X04}
use Rattle.t1_rules.specs.Book.{number_of}
use Rattle.t1_rules.specs.Mask.{has}
use Rattle.t1_rules.specs.StepRules.Flex.{current_point}
use Rattle.t1_rules.specs.StepRules.Paths.{in_flex}

-- Of these broken rules one spoils a flex.
abbrev pub spoils : Mask → Bool
spoils broken = has broken (number_of X01) || (has broken (number_of X03) || has broken (number_of X04))

-- It is said of this step, after others.
pub record IsAround (before : List StepView) (step : StepView) (around : Around) : Type 0 where
  pub start : around.start ≡ current_point before
  pub end : around.end ≡ current_point (before ++ step ∷ [])
  pub inside : around.is_in_flex ≡ in_flex before
  pub spoils : around.spoils_flex ≡ spoils_flex before step
