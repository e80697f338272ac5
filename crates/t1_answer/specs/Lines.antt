-- The text of a report: a line a fault.
use Rattle.std.specs.Prelude.{ℕ, List}
use Rattle.std.specs.List.{flat_map}
use Rattle.t1_font.specs.Fonts.{FontValue}
use Rattle.t1_report.specs.Faults.{FaultValue}
use Rattle.t1_report.specs.Lines.{line_of}
use Rattle.t1_report.specs.Waivers.{Waiver}

abbrev pub lines_of : FontValue → List Waiver → List FaultValue → List ℕ
lines_of font waivers faults = flat_map (line_of font waivers) faults
