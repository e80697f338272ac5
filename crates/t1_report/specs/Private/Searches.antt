-- The state of a search.
use Rattle.std.specs.Prelude.{◌≡◌, ⊤, ℕ, ◌+◌, ◌<◌, ◌≤◌, ◌⊎◌, Bool, true, false, length, ◌-◌, List}
use Rattle.t1_font.specs.Fonts.{FontValue}
use Rattle.t1_rules.specs.Components.{AreOf}
use Rattle.t1_rules.specs.Mask.{has}
use Rattle.t1_report.specs.declared.walk.found.Found.{Found}
use Rattle.t1_report.specs.declared.walk.font_places.FontPlaces.{FontPlaces}
use Rattle.t1_report.specs.declared.walk.glyph_run.GlyphRun.{GlyphRun}
use Rattle.t1_report.specs.declared.walk.search.Part.{Part}
use Rattle.t1_report.specs.declared.walk.search.Part.TheVariants.{Font, Glyph, Over, Waivers}
use Rattle.t1_report.specs.declared.walk.search.Search.{Search}
use Rattle.t1_report.specs.Checked.{CheckedFont, checked}
use Rattle.t1_report.specs.Reports.{Place, path_in, IsTold, is_told}
use Rattle.t1_report.specs.Private.Units.{IsDrawn, IsFontPlaces, IsRun, font_step, executed}
use Rattle.t1_report.specs.Walks.{turns_before, first_asked, turns_asked, turns_of_unit}
use Rattle.t1_rules.specs.declared.rule.Rule.{Rule}
use Rattle.t1_rules.specs.Book.{number_of}
use Rattle.t1_report.specs.Waivers.{Waiver, largest_waivers}
use Rattle.t1_font.specs.Bounds.{most_glyphs}

-- The place doesn't come before a unit and a step.
abbrev pub IsFrom : ℕ → ℕ → ℕ → ℕ → Type 0
IsFrom unit step unit' step' = (unit < unit') ⊎ ((unit ≡ unit') × (step ≤ step'))

-- Nothing is reported from a unit and a step on.
abbrev pub HasNoneFrom : CheckedFont → List Waiver → ℕ → ℕ → Type 0
HasNoneFrom font waivers unit step = (p : Place) → IsTold font waivers p → IsFrom unit step p.unit p.step → ⊥

-- Nothing is reported of a unit from a step on; nor from one up to another.
abbrev pub TellsNoneFrom : CheckedFont → List Waiver → ℕ → ℕ → Type 0
TellsNoneFrom font waivers unit from =
    (s : ℕ) (r : Rule) → from ≤ s → is_told font waivers unit s (number_of r) ≡ false

-- What was found is where something is first reported of a unit from a step on, if there is anything.
pub record IsFirstTold (font : CheckedFont) (waivers : List Waiver) (unit from : ℕ) (found : Found) : Type 0 where
  pub unit_is : found.unit ≡ unit
  pub behind : from ≤ found.step
  pub quiet : (s : ℕ) (r : Rule) → from ≤ s → s < found.step → is_told font waivers unit s (number_of r) ≡ false
  pub rules : (n : ℕ) → has found.rules n ≡ is_told font waivers unit found.step n
  pub path : found.path.items ≡ path_in font.value unit found.step

-- What was found is the first place from a unit and a step on where a rule is broken.
pub record IsFirstPlace (font : CheckedFont) (waivers : List Waiver) (unit step : ℕ) (found : Found) : Type 0 where
  pub behind : IsFrom unit step found.unit found.step
  pub within : found.unit ≤ length font.value.glyphs + 1
  pub first : (p : Place) → IsTold font waivers p → IsFrom unit step p.unit p.step → IsFrom found.unit found.step p.unit p.step
  pub rules : (n : ℕ) → has found.rules n ≡ is_told font waivers found.unit found.step n
  pub path : found.path.items ≡ path_in font.value found.unit found.step

-- The next step of a part, and how many steps were requested of its machine.
abbrev pub step_of_part : Part → ℕ
step_of_part (Font places) = font_step places
step_of_part (Glyph run) = run.machine.counted + 1
step_of_part (Waivers next) = next
step_of_part Over = 0

abbrev pub turns_in : Part → ℕ
turns_in (Font places) = 0
turns_in (Glyph run) = run.machine.counted
turns_in (Waivers next) = 0
turns_in Over = 0

abbrev pub is_over : Part → Bool
is_over (Font places) = false
is_over (Glyph run) = false
is_over (Waivers next) = false
is_over Over = true

-- A glyph is before its first step; past the last glyph all is over.
pub record IsBegun (font : CheckedFont) (glyph : ℕ) (run : GlyphRun) : Type 0 where
  pub glyph_is : run.machine.glyph ≡ glyph
  pub font_is : executed run.machine ≡ font
  pub runs : IsRun run.machine run.watches
  pub draws : IsDrawn run.machine run.drawing
  pub counted : run.machine.counted ≡ 0

-- The waivers are before a step, or before the first or after the last.
pub record AreBegun (font : CheckedFont) (waivers : List Waiver) (glyph step next : ℕ) : Type 0 where
  pub behind : glyph ≡ length font.value.glyphs
  pub first : 1 ≤ next
  pub near : (next ≤ 1) ⊎ (next ≤ step)
  pub past : (step ≤ next) ⊎ (length waivers < next)
  pub within : next ≤ length waivers + 1

abbrev pub IsPartBegun : CheckedFont → List Waiver → ℕ → ℕ → Part → Type 0
IsPartBegun font waivers glyph step (Font places) = ⊥
IsPartBegun font waivers glyph step (Glyph run) = IsBegun font glyph run
IsPartBegun font waivers glyph step (Waivers next) = AreBegun font waivers glyph step next
IsPartBegun font waivers glyph step Over = length font.value.glyphs < glyph

-- A glyph is done when its machine has returned all of it; the waivers are, when the last was tested.
abbrev pub IsDone : CheckedFont → List Waiver → ℕ → Part → Type 0
IsDone font waivers unit (Font places) = Unit {0}
IsDone font waivers unit (Glyph run) = run.machine.counted ≡ turns_of_unit font unit
IsDone font waivers unit (Waivers next) = length waivers < next
IsDone font waivers unit Over = Unit {0}

-- A glyph that is under way is of this font.
abbrev pub IsOfFont : FontValue → Part → Type 0
IsOfFont font (Font places) = ⊤
IsOfFont font (Glyph run) = run.machine.font ≡ font
IsOfFont font (Waivers next) = ⊤
IsOfFont font Over = ⊤

-- The part is that of the unit, and the turns are those of the units before.
pub record IsFontPart (font : CheckedFont) (from unit passed : ℕ) (places : FontPlaces) : Type 0 where
  pub begins : from ≡ 0
  pub unit_is : unit ≡ 0
  pub none_passed : passed ≡ 0
  pub places_are : IsFontPlaces font places

pub record IsGlyphPart (font : CheckedFont) (from unit passed : ℕ) (run : GlyphRun) : Type 0 where
  pub begins : from ≤ unit
  pub unit_is : unit ≡ run.machine.glyph + 1
  pub font_is : executed run.machine ≡ font
  pub runs : IsRun run.machine run.watches
  pub draws : IsDrawn run.machine run.drawing
  pub passed_are : passed ≡ turns_before font from unit
  pub few : length font.value.glyphs ≤ most_glyphs

-- The waivers: those before the next one were tested, from the first that the search tests on.
pub record IsWaiverPart (font : CheckedFont) (waivers : List Waiver) (from first_step unit passed checked next : ℕ) : Type 0 where
  pub begins : from ≤ unit
  pub unit_is : unit ≡ length font.value.glyphs + 1
  pub first : 1 ≤ next
  pub within : next ≤ length waivers + 1
  pub passed_are : passed ≡ turns_before font from unit
  pub begun : (first_asked font waivers from first_step < next) ⊎ (length waivers < next)
  pub checked_are : checked ≡ turns_asked font waivers from first_step (next - 1)
  pub few : length font.value.glyphs ≤ most_glyphs
  pub few_waivers : length waivers ≤ largest_waivers

pub record IsOver (font : CheckedFont) (from unit passed : ℕ) : Type 0 where
  pub past : length font.value.glyphs + 1 < unit
  pub passed_are : passed ≡ turns_before font from (length font.value.glyphs + 1)
  pub few : length font.value.glyphs ≤ most_glyphs

abbrev pub IsPart : CheckedFont → List Waiver → ℕ → ℕ → ℕ → ℕ → ℕ → Part → Type 0
IsPart font waivers from first unit passed checked (Font places) = IsFontPart font from unit passed places × (checked ≡ 0)
IsPart font waivers from first unit passed checked (Glyph run) = IsGlyphPart font from unit passed run × (checked ≡ 0)
IsPart font waivers from first unit passed checked (Waivers next) = IsWaiverPart font waivers from first unit passed checked next
IsPart font waivers from first unit passed checked Over =
    IsOver font from unit passed
    × ((checked ≡ turns_asked font waivers from first (length waivers)) × (length waivers ≤ largest_waivers))

-- The font, and the edition of its sidebearings.
abbrev pub checked_in : Search → CheckedFont
checked_in s = checked s.font.now s.sidebearings.now.edition

-- What a search keeps: the font, the edition and the waivers, and the unit and the step that it began with.
pub record Aim : Type 0 where
  pub font : CheckedFont
  pub waivers : List Waiver
  pub from : ℕ
  pub first : ℕ

abbrev pub aim_of : Search → Aim
aim_of s = record { font = checked_in s; waivers = s.waivers.now; from = s.from; first = s.first }

pub record IsSearch (s : Search) : Type 0 where
  pub part_is : IsPart (checked_in s) s.waivers.now s.from s.first s.unit s.passed s.checked s.part
  pub components_are : AreOf s.font.now s.sidebearings.now
