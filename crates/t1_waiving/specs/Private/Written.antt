-- What was written of the glyph that is being read.
use Rattle.std.specs.Prelude.{ℕ, ◌-◌, ◌==◌, ◌&&◌, List, [], ◌++◌, codes, Bool, if◌then◌else◌}
use Rattle.t1_font.specs.Fonts.{FontValue, glyph_name}
use Rattle.t1_report.specs.Faults.{FaultValue}
use Rattle.t1_report.specs.Laws.WaiverLines.{waiver_line}
use Rattle.t1_report.specs.Waivers.{Waiver}
use Rattle.t1_rules.specs.Mask.{has}
use Rattle.t1_rules.specs.declared.mask.Mask.{Mask}

-- The rule of this number was written of the glyph of a unit.
abbrev pub was_written : ℕ → Mask → ℕ → ℕ → Bool
was_written last rules unit n = last == unit && has rules n

-- The waiver of a fault in a glyph.
abbrev pub waiver_at : FontValue → FaultValue → Waiver
waiver_at font fault = (glyph_name font (fault.unit - 1), fault.rule)

abbrev pub ended_line : Waiver → List ℕ
ended_line waiver = waiver_line waiver ++ codes "\n"

-- The line of a waiver, unless it was written.
abbrev pub line_unless : Bool → Waiver → List ℕ
line_unless written waiver = if written then [] else ended_line waiver
