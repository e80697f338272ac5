-- Within one unit: where a rule is first broken, and the state of the places of the font and of the run of a glyph.
use Rattle.std.specs.Prelude.{◌≡◌, ℕ, ◌+◌, ◌*◌, ◌<◌, ◌≤◌, false, Option, None, Some, length, take}
use Rattle.t1_char.specs.Steps.{steps_of}
use Rattle.t1_drawing.specs.declared.glyph.DrawingWatcher.{DrawingWatcher}
use Rattle.t1_drawing.specs.DrawingRules.{box_of}
use Rattle.t1_rules.specs.declared.rule.Rule.{Rule}
use Rattle.t1_rules.specs.Book.{number_of}
use Rattle.t1_rules.specs.Keys.{places_of, index_count, key_count}
use Rattle.t1_rules.specs.Mask.{has}
use Rattle.t1_rules.specs.declared.watches.Watches.{Watches}
use Rattle.t1_char.specs.Turns.{MachineView}
use Rattle.t1_report.specs.declared.walk.found.Found.{Found}
use Rattle.t1_report.specs.declared.walk.font_places.FontPlaces.{FontPlaces}
use Rattle.t1_report.specs.Checked.{CheckedFont, checked}
use Rattle.t1_report.specs.Reports.{is_broken, path_in}
use Rattle.t1_report.specs.Walks.{turns_of_glyph, turns_of_waiver}
use Rattle.t1_report.specs.Private.Reporting.{HaveDrawn, HaveSeen}
use Rattle.t1_report.specs.Waivers.{Waiver}

-- No rule is broken at a unit's steps from one on up to another; nor from one on.
abbrev pub IsQuiet : CheckedFont → ℕ → ℕ → ℕ → Type 0
IsQuiet font unit from to =
    (s : ℕ) (r : Rule) → from ≤ s → s < to → is_broken font unit s (number_of r) ≡ false

abbrev pub IsQuietFrom : CheckedFont → ℕ → ℕ → Type 0
IsQuietFrom font unit from =
    (s : ℕ) (r : Rule) → from ≤ s → is_broken font unit s (number_of r) ≡ false

-- What was found is where a rule is first broken in a unit from a step on, with the rules and the path of it.
pub record IsFirst (font : CheckedFont) (unit from : ℕ) (found : Found) : Type 0 where
  pub unit_is : found.unit ≡ unit
  pub behind : from ≤ found.step
  pub quiet : IsQuiet font unit from found.step
  pub rules : (n : ℕ) → has found.rules n ≡ is_broken font unit found.step n
  pub path : found.path.items ≡ path_in font.value unit found.step

-- The next place of the font to be tested.
abbrev pub font_step : FontPlaces → ℕ
font_step p = index_count * p.key + p.index

pub record IsFontPlaces (font : CheckedFont) (p : FontPlaces) : Type 0 where
  pub key : p.key ≤ key_count
  pub index : p.index ≤ index_count
  pub places : p.places ≡ places_of font.edition font.value p.key

-- What a machine executes.
abbrev pub executed : MachineView → CheckedFont
executed machine = checked machine.font machine.edition

-- The machine returned no more of its glyph than there is, and the watchers have seen what it returned up to the limit.
pub record IsRun (machine : MachineView) (watches : Watches) : Type 0 where
  pub there : machine.glyph < length machine.font.glyphs
  pub counted : machine.counted ≤ turns_of_glyph (executed machine) machine.glyph
  pub seen : HaveSeen machine.edition watches (take machine.counted (steps_of machine.font machine.glyph))

-- So has the watcher of the drawing.
abbrev pub HaveDrawnAt : CheckedFont → ℕ → ℕ → DrawingWatcher → Type 0
HaveDrawnAt font glyph counted drawing =
    HaveDrawn font.edition (box_of font.value) drawing (take counted (steps_of font.value glyph))

abbrev pub IsDrawn : MachineView → DrawingWatcher → Type 0
IsDrawn machine drawing = HaveDrawnAt (executed machine) machine.glyph machine.counted drawing

abbrev pub turns_if_any : CheckedFont → Option Waiver → ℕ
turns_if_any font None = 0
turns_if_any font (Some w) = turns_of_waiver font w
