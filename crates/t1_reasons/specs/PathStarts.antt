-- The laws of where paths begin, and where they were left.
use Rattle.std.specs.Prelude.{◌≡◌, ◌||◌, true, false, List, [], ◌∷◌, ◌++◌}
use Rattle.t1_char.specs.Since.{Test, any_from}
use Rattle.t1_char.specs.Steps.{StepView}
use Rattle.t1_reasons.specs.Backgrounds.{ends_path, path_end, path_start}
use Rattle.t1_rules.specs.StepRules.Flex.{current_point}
use Rattle.t1_rules.specs.StepRules.Paths.{drawing, in_flex}
use Rattle.t1_rules.specs.StepRules.Tokens.{sets_point}

-- A step that draws, ends a path, or sets the current point. Moves inside a flex do none of these.
abbrev pub stirs : Test
stirs before step = drawing before step || (ends_path before step || sets_point step.token)

-- A path: the move outside flex or the closepath before it, steps up to the first that draws, that step, and more up to the path's end.
pub record IsPath (before : List StepView) (ended : StepView) (between : List StepView) (first : StepView) (more : List StepView) : Type 0 where
  pub outside : in_flex before ≡ false
  pub ends : ends_path before ended ≡ true
  pub still : any_from stirs (before ++ ended ∷ []) between ≡ false
  pub draws : drawing ((before ++ ended ∷ []) ++ between) first ≡ true
  pub goes_on : any_from ends_path (((before ++ ended ∷ []) ++ between) ++ first ∷ []) more ≡ false

-- A path begins where the move or the closepath before it left the pen, be its first step a line or a flex. It does so up to its end.
abbrev pub PathsBeginWhereThePenWasLeft : Type 0
PathsBeginWhereThePenWasLeft =
    (before : List StepView) (ended : StepView) (between : List StepView) (first : StepView) (more : List StepView) →
    IsPath before ended between first more →
    path_start ((((before ++ ended ∷ []) ++ between) ++ first ∷ []) ++ more) ≡ current_point (before ++ ended ∷ [])

-- The other end that a reason of P02 names is where the last step that drew left the pen.
abbrev pub PathsEndWhereThePenWasLeft : Type 0
PathsEndWhereThePenWasLeft =
    (before : List StepView) (drawn : StepView) (between : List StepView) →
    drawing before drawn ≡ true → any_from drawing (before ++ drawn ∷ []) between ≡ false →
    path_end ((before ++ drawn ∷ []) ++ between) ≡ current_point (before ++ drawn ∷ [])
