-- The line of a fault is written as it is spelled, whatever its names are.
use Rattle.std.proofs.Common.{sym}
use Rattle.t1_lines.proofs.LinesWritten.{line-written}
use Rattle.t1_printers.specs.Laws.{LinesAreThoseOfReports}

pub those_of_reports : LinesAreThoseOfReports
those_of_reports reasons name font waivers fault there = sym (line-written font.value waivers fault there)
