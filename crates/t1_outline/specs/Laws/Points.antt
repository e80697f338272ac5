-- Where segments end, and the current point of the rules.
use Rattle.std.specs.Prelude.{◌≡◌, false, Option, Some, None, List, [], ◌∷◌, ◌++◌}
use Rattle.t1_char.specs.Steps.{StepView}
use Rattle.t1_outline.specs.declared.segment.Segment.{Segment}
use Rattle.t1_outline.specs.declared.segment.Segment.TheVariants.{Move, Line, Curve, Close}
use Rattle.t1_outline.specs.Outlines.{drawn}
use Rattle.t1_rules.specs.declared.step_rules.flex.Point.{Point}
use Rattle.t1_rules.specs.StepRules.Flex.{current_point}
use Rattle.t1_rules.specs.StepRules.Tokens.{closes}

abbrev pub end_of : Segment → Option Point
end_of (Move p) = Some p
end_of (Line p) = Some p
end_of (Curve a b p) = Some p
end_of Close = None

-- Where the last of some segments ends; this point, where there are none.
abbrev pub last_end : Option Point → List Segment → Option Point
last_end point [] = point
last_end point (s ∷ ss) = last_end (end_of s) ss

-- But for closepath, the last segment that a step draws ends where the current point is after the step.
abbrev pub StepsEndAtTheCurrentPoint : Type 0
StepsEndAtTheCurrentPoint =
    (before : List StepView) (step : StepView) → closes step.token ≡ false →
    last_end (Some (current_point (before ++ step ∷ []))) (drawn before step) ≡ Some (current_point (before ++ step ∷ []))
