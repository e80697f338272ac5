-- The statements of laws.
use Rattle.std.specs.Prelude.{◌≡◌, ◌⊎◌, ◌<◌, ◌^◌, ℕ, true, List, [], length, map, Some, Result, Ok, Err}
use Rattle.std.specs.List.{AllByRecursion, IsDistinct, flat_map}
use Rattle.std.specs.Str.{bytes_eq}
use Rattle.t1_char.specs.declared.edition.Edition.{Edition}
use Rattle.t1_font.specs.Fonts.{FontValue}
use Rattle.t1_known.specs.Keys.{key_of}
use Rattle.t1_known.specs.Lines.{has_no_line_end}
use Rattle.t1_known.specs.Readings.{IsReadable}
use Rattle.t1_known.specs.Reads.{IsReadAs}
use Rattle.t1_known.specs.declared.known.NotKnown.{NotKnown}
use Rattle.t1_known.specs.declared.known.NotKnown.TheVariants.{Memory, NoRow, Twice}
use Rattle.t1_lines.specs.Lines.{FaultLineValue, IsFaultLine}
use Rattle.t1_many.specs.Choice.{Choice}
use Rattle.t1_many.specs.Known.{kind_in}
use Rattle.t1_many.specs.KnownFaults.{IsRow, Reading, RowValue, beyond, file_text, kind_of, kinds_in, mismatch, updated}
use Rattle.t1_many.specs.Laws.{AreReadings}
use Rattle.t1_many.specs.Outcomes.{IsRead}
use Rattle.t1_many.specs.Verdicts.{told_faults}
use Rattle.t1_report.specs.Checked.{checked}
use Rattle.t1_report.specs.Faults.{FaultValue}
use Rattle.t1_report.specs.Reports.{IsReport}
use Rattle.t1_report.specs.Waivers.{Waiver}
use Rattle.t1_rules.specs.declared.mask.Mask.{Mask}

-- The text of a row is one line.
pub record IsInOneLine (row : RowValue) : Type 0 where
  pub is : IsRow row
  pub kind : has_no_line_end row.kind ≡ true
  pub font : has_no_line_end row.font ≡ true

-- The file that is written of rows is read as exactly these.
abbrev pub RowsAreReadBack : Type 0
RowsAreReadBack =
    (rows : List RowValue) → AllByRecursion IsInOneLine rows → IsDistinct bytes_eq (map key_of rows)
    → (result : Result (List RowValue) NotKnown) → IsReadAs (file_text rows) result → (result ≡ Ok rows) ⊎ (result ≡ Err Memory)

-- The file that an update writes is read as exactly the rows of the update, if the known faults were read of a text.
-- What was found in fonts must be readable of its rows, and of rules that are reported.
abbrev pub UpdatesAreReadBack : Type 0
UpdatesAreReadBack =
    (choice : Choice) (readings : List Reading) (text : List ℕ) (rows : List RowValue) → IsReadAs text (Ok rows)
    → AllByRecursion IsReadable readings → AreReadings choice readings
    → (result : Result (List RowValue) NotKnown) → IsReadAs (file_text (updated choice readings rows)) result
    → (result ≡ Ok (updated choice readings rows)) ⊎ (result ≡ Err Memory)

-- Of the fonts that were read no line goes beyond what is known, and no row differs from what was found.
pub record IsReached (choice : Choice) (readings : List Reading) (known : List RowValue) : Type 0 where
  pub lines :
      (font : List ℕ) (lines : List FaultLineValue) → kinds_in readings font ≡ Some (map kind_of lines) → beyond known font lines ≡ []
  pub rows : flat_map (mismatch choice readings) known ≡ []

-- So what is read of the file that an update writes is reached.
abbrev pub UpdatesAreReached : Type 0
UpdatesAreReached =
    (choice : Choice) (readings : List Reading) (text : List ℕ) (rows : List RowValue) → IsReadAs text (Ok rows)
    → AllByRecursion IsReadable readings → AreReadings choice readings
    → (known : List RowValue) → IsReadAs (file_text (updated choice readings rows)) (Ok known) → IsReached choice readings known

-- Two readings of a text are the same, unless memory runs out.
abbrev pub IsSameReading : Result (List RowValue) NotKnown → Result (List RowValue) NotKnown → Type 0
IsSameReading (Ok a) (Ok b) = a ≡ b
IsSameReading (Ok a) (Err (NoRow line)) = ⊥
IsSameReading (Ok a) (Err (Twice line)) = ⊥
IsSameReading (Ok a) (Err Memory) = Unit {0}
IsSameReading (Err (NoRow line)) (Ok b) = ⊥
IsSameReading (Err (NoRow line)) (Err (NoRow other)) = (line.number ≡ other.number) × (line.text.now ≡ other.text.now)
IsSameReading (Err (NoRow line)) (Err (Twice other)) = ⊥
IsSameReading (Err (NoRow line)) (Err Memory) = Unit {0}
IsSameReading (Err (Twice line)) (Ok b) = ⊥
IsSameReading (Err (Twice line)) (Err (NoRow other)) = ⊥
IsSameReading (Err (Twice line)) (Err (Twice other)) = (line.number ≡ other.number) × (line.text.now ≡ other.text.now)
IsSameReading (Err (Twice line)) (Err Memory) = Unit {0}
IsSameReading (Err Memory) b = Unit {0}

abbrev pub ATextIsReadOneWay : Type 0
ATextIsReadOneWay = (text : List ℕ) (a b : Result (List RowValue) NotKnown) → IsReadAs text a → IsReadAs text b → IsSameReading a b

-- What is found in a font can be read of its rows: of the lines of its report, where its name can be in a row.
abbrev pub LinesAreReadable : Type 0
LinesAreReadable =
    (font : List ℕ) (lines : List FaultLineValue) → AllByRecursion IsFaultLine lines → length lines < 2 ^ 64 → 0 < length font
    → has_no_line_end font ≡ true → IsReadable (record { font = font; kinds = map kind_of lines })

-- What the report of a font that was read says can be read of its rows, where its name can stand in a row.
abbrev pub ReportsAreReadable : Type 0
ReportsAreReadable =
    (name : List ℕ) (font : FontValue) (waivers : List Waiver) (faults : List FaultValue) (edition : Edition) (rules : Mask)
    → IsRead font waivers → IsReport (checked font edition) waivers faults → 0 < length name → has_no_line_end name ≡ true
    → IsReadable (record { font = name; kinds = map (kind_in font waivers) (told_faults rules faults) })
