-- What is printed on standard error besides what a run prints.
use Rattle.std.specs.Prelude.{◌++◌, ◌⊎◌, ℕ, List, codes, replicate}
use Rattle.std.specs.List.{concat, flat_map}
use Rattle.t1_io.specs.Devices.{PutFailed, SinkState, Wrote}
use Rattle.t1_many.specs.Unchecked.{unchecked_line}

-- ---- what couldn't be listed

abbrev pub undecoded_line : List ℕ
undecoded_line = codes "t1check-all: a name that is not UTF-8 is passed over\n"

abbrev pub unsearched_line : List ℕ → List ℕ
unsearched_line folder = unchecked_line folder (codes "search failed")

-- Names that aren't UTF-8, and folders that weren't searched whole.
abbrev pub unlisted_text : ℕ → List (List ℕ) → List ℕ
unlisted_text undecoded unsearched = concat (replicate undecoded undecoded_line) ++ flat_map unsearched_line unsearched

-- ---- where the status is that of a failure anyway

-- A text is printed as far as the device takes it.
abbrev pub IsTold : List ℕ → SinkState → SinkState → Type 0
IsTold text old new = Wrote old new text ⊎ PutFailed old new text
