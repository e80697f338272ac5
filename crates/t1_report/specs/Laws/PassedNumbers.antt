-- What rules say of numbers that a machine passes, and what calm watchers mean.
use Rattle.std.specs.Prelude.{◌≡◌, ℕ, suc, ◌<◌, ◌≤◌, false, List, length, take}
use Rattle.t1_char.specs.declared.edition.Edition.{Edition}
use Rattle.t1_char.specs.Passing.{ArePassed}
use Rattle.t1_char.specs.Steps.{StepView, steps_of}
use Rattle.t1_rules.specs.declared.watches.Watches.{Watches}
use Rattle.t1_rules.specs.StepRules.Stems.{is_replaced, is_replaced_and_popped}
use Rattle.t1_rules.specs.Private.Standing.{WatchesStandFor}
use Rattle.t1_rules.specs.Watches.{IsCalm}
use Rattle.t1_report.specs.Checked.{CheckedFont, step_limit}
use Rattle.t1_report.specs.Reports.{is_broken}

-- The last of these steps is no hint replacement, nor the pop after one.
abbrev pub IsBehindNoReplacement : List StepView → Type 0
IsBehindNoReplacement before = (is_replaced before ≡ false) × (is_replaced_and_popped before ≡ false)

-- Some steps of a glyph, from one place up to another, are numbers that a machine passes; places count from 0. If the
-- first of them isn't directly after a hint replacement or a pop of one, none of them breaks a rule.
abbrev pub PassedNumbersBreakNoRule : Type 0
PassedNumbersBreakNoRule =
    (font : CheckedFont) (glyph from to place n : ℕ) → glyph < length font.value.glyphs →
    IsBehindNoReplacement (take from (steps_of font.value glyph)) →
    ArePassed (step_limit font) (steps_of font.value glyph) from to → from ≤ place → place < to →
    is_broken font (suc glyph) (suc place) n ≡ false

-- Where watchers are calm, the last step that they have seen is neither.
abbrev pub CalmIsBehindNoReplacement : Type 0
CalmIsBehindNoReplacement =
    (edition : Edition) (watches : Watches) (before : List StepView) →
    WatchesStandFor edition watches before → IsCalm watches → IsBehindNoReplacement before

-- What calm watchers keep is what they would keep after such numbers, too.
abbrev pub CalmWatchersStandBehindNumbers : Type 0
CalmWatchersStandBehindNumbers =
    (font : CheckedFont) (glyph from to : ℕ) (watches : Watches) → from ≤ to →
    ArePassed (step_limit font) (steps_of font.value glyph) from to → IsCalm watches →
    WatchesStandFor font.edition watches (take from (steps_of font.value glyph)) →
    WatchesStandFor font.edition watches (take to (steps_of font.value glyph))
