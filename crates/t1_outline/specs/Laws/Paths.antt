-- Subpaths, and the rules on paths, P01 to P03.
use Rattle.std.specs.Prelude.{◌≡◌, ◌&&◌, not, Bool, true, false, List, [], ◌∷◌}
use Rattle.std.specs.List.{list_any}
use Rattle.t1_char.specs.declared.edition.Edition.{Edition}
use Rattle.t1_char.specs.Steps.{StepView}
use Rattle.t1_outline.specs.declared.segment.Segment.{Segment}
use Rattle.t1_outline.specs.declared.segment.Segment.TheVariants.{Move, Line, Curve, Close}
use Rattle.t1_outline.specs.Outlines.{DrawnView, drawn, drawn_of}
use Rattle.t1_rules.specs.declared.rule.Rule.TheVariants.{P01, P02, P03}
use Rattle.t1_rules.specs.Laws.StepRules.{violates}
use Rattle.t1_rules.specs.StepRules.Paths.{is_open, outer_move, wants_closed}
use Rattle.t1_rules.specs.StepRules.Tokens.{closes}

-- That something was drawn, and no closepath came since, is just what P02 and P03 ask.
pub record AskIsOpen (edition : Edition) (before : List StepView) (step : StepView) : Type 0 where
  pub p02 : violates edition P02 before step ≡ (wants_closed before step && is_open before)
  pub p03 : violates edition P03 before step ≡ (closes step.token && not (is_open before))

abbrev pub RulesAskIsOpen : Type 0
RulesAskIsOpen = (edition : Edition) (before : List StepView) (step : StepView) → AskIsOpen edition before step

-- A step that doesn't break P01 begins no subpath, unless it is a move outside flex.
abbrev pub is_opening : Segment → Bool
is_opening (Move p) = true
is_opening _ = false

abbrev pub SubpathsBeginAtMoves : Type 0
SubpathsBeginAtMoves =
    (edition : Edition) (before : List StepView) (step : StepView) → violates edition P01 before step ≡ false →
    outer_move before step ≡ false → list_any is_opening (drawn before step) ≡ false

-- A line or a curve was drawn, and the subpath wasn't closed since.
abbrev pub open_behind : Bool → Segment → Bool
open_behind is (Move p) = is
open_behind is (Line p) = true
open_behind is (Curve a b c) = true
open_behind is Close = false

abbrev pub is_left_open : Bool → List DrawnView → Bool
is_left_open is [] = is
is_left_open is (d ∷ ds) = is_left_open (open_behind is d.segment) ds

-- If a step that requires the path to be closed doesn't break P02, nothing that was drawn is open. Such a step is a
-- move outside flex, or the end. So in a glyph without P02 each subpath that draws is closed.
abbrev pub DrawnSubpathsAreClosed : Type 0
DrawnSubpathsAreClosed =
    (edition : Edition) (before : List StepView) (step : StepView) → violates edition P02 before step ≡ false →
    wants_closed before step ≡ true → is_left_open false (drawn_of before) ≡ false
