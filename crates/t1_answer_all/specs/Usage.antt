-- What is wrong with the use of the program, as it is printed.
use Rattle.std.specs.Prelude.{◌++◌, ℕ, List, codes, string_bytes}
use Rattle.std.specs.Fmt.{decimal}
use Rattle.std.specs.Str.Lossy.{utf8_lossy}
use Rattle.t1_names.specs.declared.causes.Cause.{Cause}
use Rattle.t1_options.specs.Settings.Finding.{unread_text}
use Rattle.t1_run.specs.declared.usage.UsageError.{UsageError}
use Rattle.t1_run.specs.declared.usage.UsageError.TheVariants.{Help, Memory, Usage}

-- A file can't be read, for this cause.
abbrev pub unreadable_text : List ℕ → Cause → List ℕ
unreadable_text file cause = unread_text file cause ++ codes "t1check-all: 't1check-all --help' says how it is used\n"

-- The words name no font.
abbrev pub no_font_text : List ℕ
no_font_text = codes "t1check-all: there is no font to check\nt1check-all: 't1check-all --help' says how it is used\n"

-- A word of `--explain` is no code.
abbrev pub no_page_text : List ℕ → List ℕ
no_page_text word =
    codes "t1check-all: there is no rule and no refusal '" ++ (word ++ codes "'\nt1check-all: 't1check-all --help' says how it is used\n")

-- What is wrong with the line of this number, from 1, in a file. What isn't UTF-8 in it is printed as U+FFFD.
abbrev pub line_text : List ℕ → ℕ → List ℕ → List ℕ → List ℕ
line_text file number wrong line =
    codes "t1check-all: " ++ (file ++ (codes ": line " ++ (decimal number ++ (wrong ++ (utf8_lossy line ++ codes "\n")))))

-- A line of a file of known faults is no row, or one that is there already.
abbrev pub no_row_text : List ℕ → ℕ → List ℕ → List ℕ
no_row_text file number line = line_text file number (codes ": no row of known faults: ") line

abbrev pub two_rows_text : List ℕ → ℕ → List ℕ → List ℕ
two_rows_text file number line = line_text file number (codes ": two rows of known faults: ") line

-- A text of which this is so is printed; or memory ran out.
abbrev pub IsToldSo : (List ℕ → Type 0) → UsageError → Type 0
IsToldSo Is (Help text) = ⊥
IsToldSo Is (Usage text) = Is (string_bytes text)
IsToldSo Is Memory = Unit {0}
