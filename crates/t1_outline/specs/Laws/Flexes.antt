-- Which flex is drawn. Type 1 Font Format 1.1, 8.3.
use Rattle.std.specs.Prelude.{◌≡◌, ◌↔◌, ℕ, ◌+◌, Bool, true, false, List, [], ◌∷◌, ◌++◌}
use Rattle.t1_char.specs.Arguments.{is_flex_end, is_flex_point, is_flex_start}
use Rattle.t1_char.specs.Steps.{StepView}
use Rattle.t1_outline.specs.declared.segment.Segment.{Segment}
use Rattle.t1_outline.specs.declared.segment.Segment.TheVariants.{Curve}
use Rattle.t1_outline.specs.Outlines.{draws_flex, drawn, has_subpath, with_opening}
use Rattle.t1_rules.specs.declared.step_rules.flex.Point.{Point}
use Rattle.t1_rules.specs.StepRules.Paths.{in_flex}
use Rattle.t1_rules.specs.StepRules.Tokens.{clears, is_move}

-- A step within a flex that says nothing of it: no command that takes arguments from the bottom of the stack, as a move
-- does, and no start, point or end.
pub record IsAside (step : StepView) : Type 0 where
  pub no_command : clears step.token ≡ false
  pub no_start : is_flex_start step ≡ false
  pub no_point : is_flex_point step ≡ false
  pub no_end : is_flex_end step ≡ false

-- So many times a move and then a point, with steps aside between, and whether a move more has come, whose point
-- hasn't.
pub data ArePairs : ℕ → Bool → List StepView → Type 0 where
  none : ArePairs 0 false []
  and_aside : (n : ℕ) (is_half : Bool) (steps : List StepView) (step : StepView) →
      ArePairs n is_half steps → IsAside step → ArePairs n is_half (steps ++ step ∷ [])
  and_move : (n : ℕ) (steps : List StepView) (step : StepView) →
      ArePairs n false steps → is_move step.token ≡ true → ArePairs n true (steps ++ step ∷ [])
  and_point : (n : ℕ) (steps : List StepView) (step : StepView) →
      ArePairs n true steps → is_flex_point step ≡ true → ArePairs (n + 1) false (steps ++ step ∷ [])

-- A flex from its start to its end: seven pairs.
pub record IsWholeFlex (before : List StepView) (end : StepView) : Type 0 where
  pub front : List StepView
  pub start : StepView
  pub pairs : List StepView
  pub is : before ≡ (front ++ start ∷ []) ++ pairs
  pub outside : in_flex front ≡ false
  pub starts : is_flex_start start ≡ true
  pub seven : ArePairs 7 false pairs
  pub ends : is_flex_end end ≡ true

-- Just such a flex is drawn.
abbrev pub WholeFlexesAreDrawn : Type 0
WholeFlexesAreDrawn = (before : List StepView) (end : StepView) → (draws_flex before end ≡ true) ↔ IsWholeFlex before end

-- It draws two curves, and each other end nothing.
pub record AreTwoCurves (before : List StepView) (segments : List Segment) : Type 0 where
  pub start : Point
  pub a : Point
  pub b : Point
  pub c : Point
  pub d : Point
  pub e : Point
  pub f : Point
  pub are : segments ≡ with_opening (has_subpath before) start (Curve a b c ∷ Curve d e f ∷ [])

abbrev pub FlexesAreTwoCurves : Type 0
FlexesAreTwoCurves =
    (before : List StepView) (end : StepView) → draws_flex before end ≡ true → AreTwoCurves before (drawn before end)

abbrev pub OtherFlexesDrawNothing : Type 0
OtherFlexesDrawNothing =
    (before : List StepView) (end : StepView) → is_flex_end end ≡ true → draws_flex before end ≡ false → drawn before end ≡ []
