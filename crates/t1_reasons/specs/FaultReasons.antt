-- Why a fault of a glyph is in the report.
use Rattle.std.specs.Prelude.{◌≡◌, ℕ, zero, suc, ◌/◌, ◌%◌, ◌<◌, ◌≤◌, true, is_some, List, length}
use Rattle.t1_char.specs.Turns.{MachineView}
use Rattle.t1_report.specs.Checked.{CheckedFont}
use Rattle.t1_report.specs.Reports.{IsTold, Place, is_broken}
use Rattle.t1_report.specs.Waivers.{Waiver}
use Rattle.t1_rules.specs.declared.rule.Rule.{Rule}
use Rattle.t1_rules.specs.Book.{number_of}
use Rattle.t1_rules.specs.Keys.{index_count}
use Rattle.t1_reasons.specs.FontReasons.{font_reason}
use Rattle.t1_reasons.specs.GlyphReasons.{reason_at}

-- The machine executes a glyph of this font, by this edition.
pub record IsOf (font : CheckedFont) (glyph : ℕ) (m : MachineView) : Type 0 where
  pub font_is : m.font ≡ font.value
  pub edition_is : m.edition ≡ font.edition
  pub glyph_is : m.glyph ≡ glyph
  pub there : glyph < length font.value.glyphs

-- What the report says is broken, waived or not, is what has a reason.
abbrev pub FaultsHaveReasons : Type 0
FaultsHaveReasons =
    (font : CheckedFont) (glyph step : ℕ) (rule : Rule) (m : MachineView) → IsOf font glyph m →
    is_broken font (suc glyph) step (number_of rule) ≡ is_some (reason_at m rule step)

-- There is a reason at a unit and a step: in the font at the key and the index of the step, in a glyph at one of its steps.
abbrev pub HasReason : CheckedFont → ℕ → ℕ → Rule → Type 0
HasReason font zero step rule = is_some (font_reason font.edition font.value rule (step / index_count) (step % index_count)) ≡ true
HasReason font (suc glyph) step rule = (m : MachineView) → IsOf font glyph m → is_some (reason_at m rule step) ≡ true

-- Each place of a report has a reason, but for the waivers that aren't used.
abbrev pub ReportedPlacesHaveReasons : Type 0
ReportedPlacesHaveReasons =
    (font : CheckedFont) (waivers : List Waiver) (p : Place) → p.unit ≤ length font.value.glyphs → IsTold font waivers p →
    HasReason font p.unit p.step p.rule
