-- Fonts whose reports were made.
use Rattle.std.specs.Prelude.{◌≡◌, ◌<◌, ◌^◌, ℕ, true, List, length}
use Rattle.std.specs.List.{AllByRecursion, AllZip}
use Rattle.t1_known.specs.Lines.{has_no_line_end}
use Rattle.t1_many.specs.KnownFaults.{IsKind, Reading}
use Rattle.t1_many.specs.Readings.{IsReadingOf}
use Rattle.t1_many.specs.declared.readings.Reading.{Reading as Kept}

-- What was found in fonts is kept.
abbrev pub AreReadingsOf : List Kept → List Reading → Type 0
AreReadingsOf kept readings = AllZip IsReadingOf kept readings

-- A kind that is one, in one line.
abbrev pub IsPlainKind : List ℕ → Type 0
IsPlainKind kind = IsKind kind × (has_no_line_end kind ≡ true)

-- The rows of a font can be read: its name and its kinds can be in a row, and they are fewer than a number of 64 bits
-- counts.
pub record IsReadable (reading : Reading) : Type 0 where
  pub kinds : AllByRecursion IsPlainKind reading.kinds
  pub few : length reading.kinds < 2 ^ 64
  pub named : 0 < length reading.font
  pub font : has_no_line_end reading.font ≡ true
