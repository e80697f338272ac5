-- The file of known faults, as the options name it.
use Rattle.std.specs.Global.{Global}
use Rattle.std.specs.Prelude.{◌≡◌, ◌⊎◌, ℕ, List, [], Option, None, Some, Result, Ok, Err, string_bytes}
use Rattle.std.specs.declared.string.String.{String}
use Rattle.t1_known.specs.Reads.{HasKeyTwice, HasNoRow}
use Rattle.t1_options.specs.declared.asked.Baseline.{Baseline}
use Rattle.t1_options.specs.declared.asked.Baseline.TheVariants.{Compared, Unnamed, Updated}
use Rattle.t1_options.specs.Settings.Finding.{IsUnasked, System}
use Rattle.t1_answer_all.specs.Usage.{no_row_text, two_rows_text, unreadable_text}
use Rattle.t1_names.specs.declared.causes.Cause.{Cause}
use Rattle.t1_names.specs.declared.causes.Cause.TheVariants.{NoFile}

-- The file is read, once: it has this text, or can't be read for this cause, or there is no such file.
abbrev pub Reads : System → String Global → Option (Result (List ℕ) Cause) → Type 0
Reads system file result = system.asks.ReadsText system.old system.new (string_bytes file) result

-- Its text: empty where none is named, or where one is made that isn't there yet.
abbrev pub IsKnownText : System → Baseline → List ℕ → Type 0
IsKnownText system Unnamed text = (text ≡ []) × IsUnasked system
IsKnownText system (Compared file) text = Reads system file (Some (Ok text))
IsKnownText system (Updated file) text = Reads system file (Some (Ok text)) ⊎ (Reads system file None × (text ≡ []))

-- It can't be read, and this is printed.
abbrev pub IsNotKnownText : System → Baseline → List ℕ → Type 0
IsNotKnownText system Unnamed told = ⊥
IsNotKnownText system (Compared file) told =
    (cause : Cause) × (Reads system file (Some (Err cause)) ⊎ (Reads system file None × (cause ≡ NoFile)))
    × (told ≡ unreadable_text (string_bytes file) cause)
IsNotKnownText system (Updated file) told =
    (cause : Cause) × Reads system file (Some (Err cause)) × (told ≡ unreadable_text (string_bytes file) cause)

-- The name of the file: empty where none is named.
abbrev pub file_of : Baseline → List ℕ
file_of Unnamed = []
file_of (Compared file) = string_bytes file
file_of (Updated file) = string_bytes file

-- The text of a file has no known faults, and this is printed of the first line that is wrong.
pub data IsWrong (file text told : List ℕ) : Type 0 where
  no_row : (number : ℕ) → (line : List ℕ) → HasNoRow text number line → told ≡ no_row_text file number line → IsWrong file text told
  two_rows : (number : ℕ) → (line : List ℕ) → HasKeyTwice text number line → told ≡ two_rows_text file number line → IsWrong file text told
