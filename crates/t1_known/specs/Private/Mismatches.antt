-- Rows from which what was found differs, as the program finds them.
use Rattle.std.specs.Prelude.{ℕ, List, [], Option, None, Some, if◌then◌else◌}
use Rattle.t1_known.specs.Private.Fonts.{FontsLeft, count_in, left_at}
use Rattle.t1_known.specs.Private.Kept.{Entry}
use Rattle.t1_many.specs.Choice.{Choice, is_told}
use Rattle.t1_many.specs.KnownFaults.{RowValue, mismatch_at, rule_of}
use Rattle.t1_many.specs.RowValues.{row_value}
use Rattle.t1_many.specs.declared.readings.Reading.{Reading}

abbrev pub told_in : Choice → RowValue → Option (Option Reading) → List ℕ
told_in choice row None = []
told_in choice row (Some None) = []
told_in choice row (Some (Some reading)) =
    if is_told choice (rule_of row.kind) then mismatch_at row (count_in reading.counts.entries row.kind) else []

abbrev pub told_of : Choice → FontsLeft → Entry → List ℕ
told_of choice fonts entry = told_in choice (row_value entry.1) (left_at fonts entry.1.font.now)
