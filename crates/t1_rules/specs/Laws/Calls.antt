-- Laws of calls of Subrs. Type 1 Font Format, chapters 6 and 8.
use Rattle.std.specs.Prelude.{◌≡◌, ℕ, ◌<◌, ◌≤◌, ◌&&◌, not, Bool, true, false, List, length}
use Rattle.t1_font.specs.Fonts.{FontValue}
use Rattle.t1_char.specs.declared.command.Command.TheVariants.{Callsubr}
use Rattle.t1_char.specs.declared.edition.Edition.{Edition}
use Rattle.t1_char.specs.declared.token.CharToken.{CharToken}
use Rattle.t1_char.specs.declared.token.CharToken.TheVariants.{Command}
use Rattle.t1_char.specs.Effects.{State, Action, goes, calls, returns, finishes, most_calls}
use Rattle.t1_char.specs.Steps.{StepView, effect_at, step_at}
use Rattle.t1_rules.specs.declared.rule.Rule.TheVariants.{S01, S02}
use Rattle.t1_rules.specs.Laws.StepRules.{violates}

-- The run goes on in a Subr.
abbrev pub goes_in : Action → Bool
goes_in goes = false
goes_in (calls number code) = true
goes_in returns = false
goes_in finishes = false

-- The step of callsubr in a state.
abbrev pub callsubr_at : FontValue → List ℕ → List CharToken → State → StepView
callsubr_at font path behind state = step_at font path (Command Callsubr) behind state

-- callsubr with a number on the stack goes into a Subr exactly where it breaks neither S01 nor S02. At
-- most ten calls are open.
abbrev pub SoundCallsGoIn : Type 0
SoundCallsGoIn =
    (edition : Edition) (font : FontValue) (path : List ℕ) (behind : List CharToken) (state : State)
    (before : List StepView) → 0 < length state.stack → length path ≤ most_calls →
    goes_in (effect_at font path (Command Callsubr) state).action
    ≡ (not (violates edition S01 before (callsubr_at font path behind state))
    && not (violates edition S02 before (callsubr_at font path behind state)))
