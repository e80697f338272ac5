-- What the watchers have seen of a glyph's steps, and the step that follows.
use Rattle.std.specs.Prelude.{◌≡◌, ◌+◌, ◌≤◌, Option, List, length}
use Rattle.t1_char.specs.declared.edition.Edition.{Edition}
use Rattle.t1_char.specs.Editions.{limit_of}
use Rattle.t1_char.specs.declared.step.Step.{Step}
use Rattle.t1_char.specs.Steps.{StepView}
use Rattle.t1_drawing.specs.declared.font_box.FontBox.{FontBox}
use Rattle.t1_drawing.specs.declared.glyph.DrawingWatcher.{DrawingWatcher}
use Rattle.t1_drawing.specs.Private.Standing.{LatestDrawingStandsFor}
use Rattle.t1_rules.specs.declared.watches.Watches.{Watches}
use Rattle.t1_rules.specs.Private.Standing.{WatchesStandFor}

-- The watchers have seen these steps, unless there are more than the limit.
abbrev pub HaveSeen : Edition → Watches → List StepView → Type 0
HaveSeen edition watches steps = length steps ≤ limit_of edition → WatchesStandFor edition watches steps

-- So has that of the drawing, where the edition has its rules.
abbrev pub HaveDrawn : Edition → Option FontBox → DrawingWatcher → List StepView → Type 0
HaveDrawn edition box drawing steps = length steps ≤ limit_of edition → LatestDrawingStandsFor edition box drawing steps

-- The step follows these, which the watchers have seen, and at most the first one is past the limit.
pub record IsNextStep (edition : Edition) (box : Option FontBox) (watches : Watches) (drawing : DrawingWatcher) (before : List StepView) (step : Step) : Type 0 where
  pub seen : WatchesStandFor edition watches before
  pub drawn : LatestDrawingStandsFor edition box drawing before
  pub number : step.number ≡ length before + 1
  pub few : length before ≤ limit_of edition
