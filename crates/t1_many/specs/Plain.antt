-- The plain form: lines and refusals on the output, all else on standard error, each after the font's name.
use Rattle.std.specs.Prelude.{◌≡◌, ◌⊎◌, ℕ, Bool, true, List, [], ◌∷◌, ◌++◌, codes, Option, None, Some}
use Rattle.std.specs.Io.KnownBytes.{Appends}
use Rattle.std.specs.List.{concat, flat_map}
use Rattle.t1_io.specs.Devices.{AppendsFront, CallFailed, Flushed, PutFailed, SinkState, Wrote}
use Rattle.t1_many.specs.Handing.{Handed, done, failure, line}
use Rattle.t1_many.specs.declared.policy.Lost.{Lost}
use Rattle.t1_many.specs.declared.policy.Lost.TheVariants.{Device, Memory}
use Rattle.t1_many.specs.Reasons.{told_text}
use Rattle.t1_reason_texts.specs.Texts.{line_behind}
use Rattle.t1_report.specs.Checked.{CheckedFont}
use Rattle.t1_report.specs.Faults.{FaultValue}
use Rattle.t1_report.specs.Lines.{line_of}
use Rattle.t1_report.specs.Waivers.{Waiver}
use Rattle.t1_many.specs.FontErrors.{reason_of}
use Rattle.t1_many.specs.Unchecked.{unchecked_line}
use Rattle.t1_many.specs.declared.font_error.FontError.{FontError}
use Rattle.t1_many.specs.declared.font_error.FontError.TheVariants.{Refused, Unchecked}
use Rattle.t1_run.specs.Failures.{refusal_line}
use Rattle.t1_run.specs.Opening.{Sinks}

-- `NAME: LINE`.
abbrev pub named : List ℕ → List ℕ → List ℕ
named name text = concat (name ∷ codes ": " ∷ []) ++ text

-- A refusal is written as a line of a report is; why a font isn't checked is printed on standard error.
abbrev pub failure_text : List ℕ → FontError → List ℕ
failure_text name (Refused code) = named name (refusal_line code)
failure_text name (Unchecked why) = []

abbrev pub failure_told : List ℕ → FontError → List ℕ
failure_told name (Refused code) = []
failure_told name (Unchecked why) = unchecked_line name (reason_of why)

-- The line of a fault, after the font's name, and where reasons are reported that of its reason.
abbrev pub fault_text : Bool → List ℕ → CheckedFont → List Waiver → FaultValue → List ℕ
fault_text reasons name font waivers fault =
    named name (line_of font.value waivers fault) ++ line_behind (told_text reasons font waivers fault)

-- What is written on the output of a thing that is handed on, and what on standard error.
abbrev pub text_of : Bool → Handed → List ℕ
text_of reasons (line name font waivers fault) = fault_text reasons name font waivers fault
text_of reasons (failure name reason) = failure_text name reason
text_of reasons (done name found) = []

abbrev pub told_of : Handed → List ℕ
told_of (line name font waivers fault) = []
told_of (failure name reason) = failure_told name reason
told_of (done name found) = []

abbrev pub texts : Bool → List Handed → List ℕ
texts reasons handed = flat_map (text_of reasons) handed

abbrev pub tellings : List Handed → List ℕ
tellings handed = flat_map told_of handed

-- ---- devices

-- A text was put, or that failed.
abbrev pub IsPut : SinkState → SinkState → List ℕ → Option Lost → Type 0
IsPut old new text None = Wrote old new text
IsPut old new text (Some Device) = PutFailed old new text
IsPut old new text (Some Memory) = ⊥

-- A line was put; or a put failed; or memory ran out, and nothing was put.
abbrev pub IsLinePut : SinkState → SinkState → List ℕ → Option Lost → Type 0
IsLinePut old new text None = Wrote old new text
IsLinePut old new text (Some Device) = PutFailed old new text
IsLinePut old new text (Some Memory) = new ≡ old

-- What was put was flushed, or that failed.
abbrev pub IsFlushed : SinkState → SinkState → Option Lost → Type 0
IsFlushed old new None = Flushed old new
IsFlushed old new (Some Device) = CallFailed old new
IsFlushed old new (Some Memory) = ⊥

-- A failure is put on one of them.
abbrev pub PutsFailure : Sinks → Sinks → List ℕ → FontError → Option Lost → Type 0
PutsFailure old new name (Refused code) lost = IsPut old.out new.out (named name (refusal_line code)) lost × (new.errors ≡ old.errors)
PutsFailure old new name (Unchecked why) lost =
    (new.out ≡ old.out) × IsPut old.errors new.errors (unchecked_line name (reason_of why)) lost

-- One thing that is handed on. The output is flushed after each font.
abbrev pub PlainTakes : Bool → Sinks → Sinks → Handed → Option Lost → Type 0
PlainTakes reasons old new (line name font waivers fault) lost =
    IsLinePut old.out new.out (fault_text reasons name font waivers fault) lost × (new.errors ≡ old.errors)
PlainTakes reasons old new (failure name reason) lost = PutsFailure old new name reason lost
PlainTakes reasons old new (done name found) lost = IsFlushed old.out new.out lost × (new.errors ≡ old.errors)

-- One text was written on the output, and another on standard error; or a write failed, or memory ran out, and a prefix of each was.
abbrev pub ArePrinted : Sinks → Sinks → List ℕ → List ℕ → Option Lost → Type 0
ArePrinted old new text told None = Appends old.out.written new.out.written text × Appends old.errors.written new.errors.written told
ArePrinted old new text told (Some lost) =
    AppendsFront old.out.written new.out.written text × AppendsFront old.errors.written new.errors.written told
    × ((lost ≡ Memory) ⊎ (new.out.failed ≡ true) ⊎ (new.errors.failed ≡ true))
