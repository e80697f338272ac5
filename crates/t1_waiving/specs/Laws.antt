-- The statements of laws.
use Rattle.std.specs.Prelude.{◌≡◌, ◌≤◌, ◌&&◌, false, List, [], Some, length}
use Rattle.std.specs.List.{All}
use Rattle.t1_lines.specs.Names.{HasNames}
use Rattle.t1_report.specs.Checked.{CheckedFont}
use Rattle.t1_report.specs.Faults.{FaultValue}
use Rattle.t1_report.specs.Laws.WaivedFaults.{HasNoNameTwice}
use Rattle.t1_report.specs.Reports.{IsReport}
use Rattle.t1_report.specs.Waivers.{waivers_of}
use Rattle.t1_rules.specs.Book.{number_of}
use Rattle.t1_rules.specs.Mask.{has}
use Rattle.t1_rules.specs.declared.mask.Mask.{Mask}
use Rattle.t1_waiving.specs.GlyphLines.{is_in_glyph}
use Rattle.t1_waiving.specs.Reports.{report_text, report_waivers}

-- The text of waivers that is written of a font's report is read by its edition as exactly these. No name of its glyphs may have a
-- blank or a delimiter.
abbrev pub WrittenTextsAreRead : Type 0
WrittenTextsAreRead =
    (rules : Mask) (font : CheckedFont) (faults : List FaultValue) → HasNames font.value → IsReport font [] faults
    → waivers_of font.edition (report_text rules font.value [] faults) ≡ Some (report_waivers rules font.value [] faults)

-- With the waivers that are written of a font's report, by the same edition, no line of these rules is left in a glyph.
abbrev pub NoGlyphLineIsLeft : Type 0
NoGlyphLineIsLeft =
    (rules : Mask) (font : CheckedFont) (broken told : List FaultValue) → IsReport font [] broken
    → IsReport font (report_waivers rules font.value [] broken) told
    → All (λ fault. (has rules (number_of fault.rule) && is_in_glyph font.value fault) ≡ false) told

-- And none of them is unused: each line is of the font itself or of one of its glyphs.
abbrev pub NoWaiverIsUnused : Type 0
NoWaiverIsUnused =
    (rules : Mask) (font : CheckedFont) (broken told : List FaultValue) → HasNoNameTwice font.value → IsReport font [] broken
    → IsReport font (report_waivers rules font.value [] broken) told
    → All (λ fault. fault.unit ≤ length font.value.glyphs) told
