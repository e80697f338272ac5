-- What a font and waivers that were given as bytes are read as, or why they aren't.
use Rattle.std.specs.Prelude.{◌≡◌, ◌⊎◌, ℕ, List, Result, Ok, Err}
use Rattle.t1_char.specs.declared.edition.Edition.{Edition}
use Rattle.t1_font.specs.Fonts.{FontValue}
use Rattle.t1_report.specs.Refusals.{Refusal}
use Rattle.t1_report.specs.Checked.{CheckedFont, checked}
use Rattle.t1_report.specs.Waivers.{Waiver}
use Rattle.t1_run.specs.Failures.{failure_of}
use Rattle.t1_run.specs.FontFiles.{font_of}
use Rattle.t1_run.specs.WaiverFiles.{waivers_in}
use Rattle.t1_run.specs.declared.failure.Failure.{Failure}
use Rattle.t1_run.specs.declared.failure.Failure.TheVariants.{Memory}

-- A font, as it is checked, and waivers.
pub record Input : Type 0 where
  pub font : CheckedFont
  pub waivers : List Waiver

-- What they are read as: why the font isn't read comes first.
abbrev pub input_of : Edition → Result FontValue Refusal → Result (List Waiver) Refusal → Result Input Refusal
input_of edition (Err reason) waivers = Err reason
input_of edition (Ok font) (Err reason) = Err reason
input_of edition (Ok font) (Ok waivers) = Ok (record { font = checked font edition; waivers = waivers })

-- What the bytes of a font and a text of waivers are read as.
abbrev pub input_in : Edition → List ℕ → List ℕ → Result Input Refusal
input_in edition font text = input_of edition (font_of font) (waivers_in edition text)

-- Memory ran out, or the bytes are refused for their reason.
abbrev pub IsFailureOf : {A : Type 0} → Result A Refusal → Failure → Type 0
IsFailureOf (Ok value) failure = failure ≡ Memory
IsFailureOf (Err reason) failure = (failure ≡ failure_of reason) ⊎ (failure ≡ Memory)
