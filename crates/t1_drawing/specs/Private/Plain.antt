-- Steps that draw nothing, and those that draw a line or a curve and nothing else.
use Rattle.std.specs.Prelude.{◌≡◌, ◌<◌, ◌||◌, not, Bool, true, false, Option, List, [], ◌∷◌, ◌++◌, length}
use Rattle.t1_char.specs.declared.command.Command.{Command as Commands}
use Rattle.t1_char.specs.declared.command.Command.TheVariants.{Callsubr, Div, Dotsection, Pop, Return, Setcurrentpoint}
use Rattle.t1_char.specs.declared.edition.Edition.{Edition}
use Rattle.t1_char.specs.declared.token.CharToken.{CharToken}
use Rattle.t1_char.specs.declared.token.CharToken.TheVariants.{Command, Number}
use Rattle.t1_char.specs.Arguments.{is_callothersubr}
use Rattle.t1_char.specs.Steps.{StepView}
use Rattle.t1_drawing.specs.declared.font_box.FontBox.{FontBox}
use Rattle.t1_drawing.specs.declared.glyph.DrawingWatcher.{DrawingWatcher}
use Rattle.t1_drawing.specs.Private.Standing.{DrawingStandsFor}
use Rattle.t1_outline.specs.declared.segment.Segment.{Segment}
use Rattle.t1_outline.specs.Outlines.{begins_or_closes, drawn}
use Rattle.t1_outline.specs.Private.Standing.{NibStandsFor}
use Rattle.t1_rules.specs.declared.watches.Watches.{Watches}
use Rattle.t1_rules.specs.Private.Standing.{WatchesStandFor}
use Rattle.t1_rules.specs.StepRules.Paths.{in_flex}
use Rattle.t1_rules.specs.StepRules.Tokens.{closes, is_line, is_move}
use Rattle.t1_rules.specs.Watches.{most_steps}

abbrev pub is_silent_command : Commands → Bool
is_silent_command Callsubr = true
is_silent_command Return = true
is_silent_command Pop = true
is_silent_command Div = true
is_silent_command Dotsection = true
is_silent_command Setcurrentpoint = true
is_silent_command _ = false

abbrev pub is_silent : CharToken → Bool
is_silent (Number z) = true
is_silent (Command command) = is_silent_command command
is_silent _ = false

-- The step draws this line or curve and nothing else, outside flex, and the nib has seen it too.
pub record DrawsAlone (edition : Edition) (box : Option FontBox) (watches : Watches) (watcher : DrawingWatcher) (before : List StepView) (step : StepView) (segment : Segment) : Type 0 where
  pub watched : WatchesStandFor edition watches before
  pub stands : DrawingStandsFor box watcher before
  pub short : length before < most_steps
  pub outside : in_flex before ≡ false
  pub line : is_line step.token ≡ true
  pub alone : drawn before step ≡ segment ∷ []
  pub seen : NibStandsFor watcher.nib (before ++ step ∷ [])

abbrev pub draws_nothing : CharToken → Bool
draws_nothing token = not (is_move token || is_line token || closes token || is_callothersubr token)

-- The step begins a subpath, or closes one, outside flex.
pub record TurnsAlone (edition : Edition) (box : Option FontBox) (watches : Watches) (watcher : DrawingWatcher) (before : List StepView) (step : StepView) : Type 0 where
  pub watched : WatchesStandFor edition watches before
  pub stands : DrawingStandsFor box watcher before
  pub short : length before < most_steps
  pub outside : in_flex before ≡ false
  pub turns : begins_or_closes before step ≡ true

-- The step draws nothing, outside flex.
pub record SetsAlone (edition : Edition) (box : Option FontBox) (watches : Watches) (watcher : DrawingWatcher) (before : List StepView) (step : StepView) : Type 0 where
  pub watched : WatchesStandFor edition watches before
  pub stands : DrawingStandsFor box watcher before
  pub short : length before < most_steps
  pub outside : in_flex before ≡ false
  pub nothing : draws_nothing step.token ≡ true
