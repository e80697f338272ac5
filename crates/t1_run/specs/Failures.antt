-- Why a run has no result, what is printed of it under a program's name, and its status.
use Rattle.std.specs.Prelude.{ℕ, List, [], ◌∷◌, Option, None, Some, codes}
use Rattle.std.specs.List.{concat}
use Rattle.t1_report.specs.Refusals.{refusal_code_of, Refusal}
use Rattle.t1_font.specs.Refusals.{refusal_text_of}
use Rattle.t1_font.specs.declared.unread.RefusalCode.{RefusalCode}
use Rattle.t1_run.specs.declared.failure.Failure.{Failure}
use Rattle.t1_run.specs.declared.failure.Failure.TheVariants.{Refused, Broken, Memory}
use Rattle.t1_run.specs.declared.status.Status.{Status}
use Rattle.t1_run.specs.declared.status.Status.TheVariants as status

-- A reason refuses by its number. Running out of memory, which has none, stays what it is.
abbrev pub refused_by : Option RefusalCode → Failure
refused_by (Some code) = Refused code
refused_by None = Memory

abbrev pub failure_of : Refusal → Failure
failure_of reason = refused_by (refusal_code_of reason)

-- `refused: CODE TEXT`, whatever the program.
abbrev pub refusal_line : RefusalCode → List ℕ
refusal_line code = concat (codes "refused: " ∷ refusal_text_of code ∷ codes "\n" ∷ [])

-- `PROGRAM: out of memory`, and so on.
abbrev pub out_of_memory_line : List ℕ → List ℕ
out_of_memory_line program = concat (program ∷ codes ": out of memory\n" ∷ [])

abbrev pub read_failed_line : List ℕ → List ℕ
read_failed_line program = concat (program ∷ codes ": read failed\n" ∷ [])

abbrev pub write_failed_line : List ℕ → List ℕ
write_failed_line program = concat (program ∷ codes ": write failed\n" ∷ [])

-- `PROGRAM: no glyph NAME`, of a font that has none of the name.
abbrev pub no_glyph_line : List ℕ → List ℕ → List ℕ
no_glyph_line program name = concat (program ∷ codes ": no glyph " ∷ name ∷ codes "\n" ∷ [])

-- What is printed of a failure.
abbrev pub failure_line : List ℕ → Failure → List ℕ
failure_line program (Refused code) = refusal_line code
failure_line program Broken = read_failed_line program
failure_line program Memory = out_of_memory_line program

abbrev pub failure_status : Failure → Status
failure_status (Refused code) = status.Refused
failure_status Broken = status.Failed
failure_status Memory = status.Failed
