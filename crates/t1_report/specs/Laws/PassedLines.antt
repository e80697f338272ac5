-- What rules say of the steps that a machine passes in a path: numbers, moves, lines, curves and closepaths.
use Rattle.std.specs.Prelude.{◌≡◌, ℕ, suc, ◌+◌, ◌<◌, ◌≤◌, false, length, take}
use Rattle.t1_char.specs.declared.lines.Passing.{Passing}
use Rattle.t1_char.specs.declared.lines.Passing.TheVariants as passing
use Rattle.t1_char.specs.declared.lines.Way.{Way}
use Rattle.t1_char.specs.Editions.{has_latest_rules}
use Rattle.t1_char.specs.Lines.{PassesSteps}
use Rattle.t1_char.specs.Steps.{steps_of}
use Rattle.t1_rules.specs.declared.watches.Watches.{Watches}
use Rattle.t1_rules.specs.Private.Standing.{WatchesStandFor}
use Rattle.t1_rules.specs.Steady.{IsSteady, IsUndrawn, moved_on}
use Rattle.t1_rules.specs.Watches.{IsCalm}
use Rattle.t1_report.specs.Checked.{CheckedFont, step_limit}
use Rattle.t1_report.specs.Reports.{is_broken}

-- In an edition without rules on the drawing, watchers that have seen the first steps of a glyph are calm and steady, and a machine passes the
-- next steps, so many: moves only where nothing is drawn.
pub record IsPassedInAPath (font : CheckedFont) (glyph from count : ℕ) (what : Passing) (watches : Watches) (way : Way) : Type 0 where
  pub earlier : has_latest_rules font.edition ≡ false
  pub there : glyph < length font.value.glyphs
  pub calm : IsCalm watches
  pub steady : IsSteady watches
  pub undrawn : what ≡ passing.Moves → IsUndrawn watches
  pub seen : WatchesStandFor font.edition watches (take from (steps_of font.value glyph))
  pub passed : PassesSteps what (step_limit font) (steps_of font.value glyph) from count way

-- None of these steps breaks a rule.
abbrev pub PassedLinesBreakNoRule : Type 0
PassedLinesBreakNoRule =
    (font : CheckedFont) (glyph from count place n : ℕ) (what : Passing) (watches : Watches) (way : Way) →
    IsPassedInAPath font glyph from count what watches way → from ≤ place → place < from + count →
    is_broken font (suc glyph) (suc place) n ≡ false

-- What the watchers would keep after these steps is what they keep, moved on by the way of the steps.
abbrev pub WatchersMoveOnByLines : Type 0
WatchersMoveOnByLines =
    (font : CheckedFont) (glyph from count : ℕ) (what : Passing) (watches : Watches) (way : Way) →
    IsPassedInAPath font glyph from count what watches way →
    WatchesStandFor font.edition (moved_on watches way) (take (from + count) (steps_of font.value glyph))
