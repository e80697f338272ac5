-- Lines of glyphs, which can be waived, and those of the font itself and of its waivers, which can't.
use Rattle.std.specs.Prelude.{◌+◌, ◌==◌, ◌&&◌, ℕ, not, Bool, List, length, if◌then◌else◌}
use Rattle.t1_font.specs.Fonts.{FontValue}
use Rattle.t1_many.specs.Outcomes.{Report}
use Rattle.t1_many.specs.Verdicts.{of_rules}
use Rattle.t1_many.specs.declared.verdict.Verdict.{Verdict}
use Rattle.t1_many.specs.declared.verdict.Verdict.TheVariants.{Skipped, Reported}
use Rattle.t1_names.specs.Words.{is_input}
use Rattle.t1_report.specs.Faults.{FaultValue}
use Rattle.t1_rules.specs.Book.{number_of}
use Rattle.t1_rules.specs.Mask.{has}
use Rattle.t1_rules.specs.declared.mask.Mask.{Mask}

-- A fault is in a glyph: neither in the font itself, unit 0, nor at a waiver, in the unit after the last glyph's.
abbrev pub is_in_glyph : FontValue → FaultValue → Bool
is_in_glyph font fault = not (fault.unit == 0) && not (fault.unit == length font.glyphs + 1)

-- The faults of these rules are reported, but those in glyphs.
abbrev pub judged_outside : Mask → FontValue → FaultValue → Verdict
judged_outside rules font fault = if has rules (number_of fault.rule) && not (is_in_glyph font fault) then Reported else Skipped

abbrev pub outside_glyphs : Mask → Report → FaultValue → Verdict
outside_glyphs rules report fault = judged_outside rules report.font fault

-- So are those of the font of this name. No waivers are written beside standard input, so all of its faults are reported.
abbrev pub but_waived : Mask → List ℕ → Report → FaultValue → Verdict
but_waived rules name = if is_input name then of_rules rules else outside_glyphs rules
