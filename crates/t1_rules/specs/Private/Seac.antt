-- What is known of a component after one step more of it.
use Rattle.std.specs.Prelude.{ℤ, ◌||◌, if◌then◌else◌, Option, Some, None}
use Rattle.t1_char.specs.Arguments.{argument}
use Rattle.t1_char.specs.Steps.{StepView}
use Rattle.t1_rules.specs.declared.sidebearings.Component.{Component}
use Rattle.t1_rules.specs.Components.{component, is_seac_step}
use Rattle.t1_rules.specs.StepRules.Tokens.{sets_width}

-- The first sidebearing stays.
abbrev pub sidebearing_with : Option ℤ → StepView → Option ℤ
sidebearing_with None step = if sets_width step.token then Some (argument step.stack 0) else None
sidebearing_with (Some sidebearing) step = Some sidebearing

abbrev pub with_step : Component → StepView → Component
with_step known step =
    component known.there (sidebearing_with known.sidebearing step) (known.has_seac || is_seac_step step)
