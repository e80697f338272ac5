use Rattle.std.proofs.Common.{[], take}
use Rattle.t1_known.specs.Private.Fonts.{IsLeft}
use Rattle.t1_known.proofs.readings.fonts_of.Given as goal

abbrev pub invariant-loop-reading : goal.invariant-loop-reading
invariant-loop-reading l = IsLeft (take l.reading-index l.readings) [] l.fonts.entries
