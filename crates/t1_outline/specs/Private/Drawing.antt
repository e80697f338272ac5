-- What a step draws, by what a pen keeps.
use Rattle.std.specs.Prelude.{◌&&◌, ◌||◌, not, if◌then◌else◌, Bool, List, [], ◌∷◌, ◌++◌, take}
use Rattle.t1_char.specs.Arguments.{is_flex_end, is_flex_point, is_flex_start}
use Rattle.t1_char.specs.Steps.{StepView}
use Rattle.t1_outline.specs.declared.segment.Segment.{Segment}
use Rattle.t1_outline.specs.declared.segment.Segment.TheVariants.{Move}
use Rattle.t1_outline.specs.Outlines.{drawn_by, flex_curves, stroke}
use Rattle.t1_rules.specs.declared.step_rules.flex.Point.{Point}
use Rattle.t1_rules.specs.StepRules.Tokens.{closes, is_line, is_move}

-- The places of a flex after a step, at most eight.
abbrev pub places_kept : List Point → Point → StepView → List Point
places_kept places point step =
    if is_flex_start step then point ∷ []
    else (if is_flex_point step then take 8 (places ++ point ∷ []) else places)

abbrev pub moves_outside : Bool → StepView → Bool
moves_outside in_flex step = is_move step.token && not in_flex

abbrev pub ends_whole : Bool → Bool → StepView → Bool
ends_whole in_flex spoiled step = is_flex_end step && in_flex && not spoiled

-- By the points before and after the step, whether it is in flex, whether that is spoiled, its places, and whether
-- there is a subpath.
abbrev pub drawn_in : StepView → Point → Point → Bool → Bool → List Point → Bool → List Segment
drawn_in step start end in_flex spoiled places there =
    if moves_outside in_flex step then Move end ∷ []
    else (if ends_whole in_flex spoiled step then flex_curves there places
    else drawn_by there start (closes step.token) (stroke start step))

abbrev pub makes_subpath_in : StepView → Bool → Bool → Bool
makes_subpath_in step in_flex spoiled =
    moves_outside in_flex step || (is_line step.token || ends_whole in_flex spoiled step)
