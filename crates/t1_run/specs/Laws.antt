-- The statements of laws: the refusals of a font's file, its size among them.
use Rattle.std.specs.Prelude.{◌≡◌, ℕ, nat_lt, Bool, true, false, List, length, Err}
use Rattle.t1_seal.specs.Segments.{joined_of}
use Rattle.t1_font.specs.Laws.Parts.{IsOfJoined}
use Rattle.t1_font.specs.declared.unread.Unread.{Unread}
use Rattle.t1_font.specs.declared.unread.Unread.TheVariants.{Memory}
use Rattle.t1_report.specs.Refusals.{Refusal}
use Rattle.t1_report.specs.Refusals.Refusal.{FontTooLarge, Font}
use Rattle.t1_run.specs.FontFiles.{font_of, largest_file}

-- Of a file, which is too large or not: E05, or of its first part that can't be read.
abbrev pub IsOfSized : Bool → List ℕ → Refusal → Type 0
IsOfSized true bytes reason = reason ≡ FontTooLarge
IsOfSized false bytes reason = (unread : Unread) × ((reason ≡ Font unread) × IsOfJoined (joined_of bytes) unread)

abbrev pub IsOfFile : List ℕ → Refusal → Type 0
IsOfFile bytes reason = IsOfSized (nat_lt largest_file (length bytes)) bytes reason

-- A file is refused for its size or for the first part that can't be read, by a refusal of that part.
abbrev pub RefusedByPart : Type 0
RefusedByPart = (bytes : List ℕ) (reason : Refusal) → font_of bytes ≡ Err reason → IsOfFile bytes reason

-- No bytes are refused as out of memory.
abbrev pub NeverForMemory : Type 0
NeverForMemory = (bytes : List ℕ) → font_of bytes ≡ Err (Font Memory) → ⊥
