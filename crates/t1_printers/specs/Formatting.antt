-- What is given to a formatter of things that are handed on, and what is printed on standard error.
use Rattle.std.specs.Prelude.{◌≡◌, ℕ, Bool, true, List, Option, None, Some}
use Rattle.t1_forms.specs.Tellings.{ToldValue, of_line, of_unchecked, reason_told, what_spelled, what_value}
use Rattle.t1_forms.specs.declared.told.Told.{Told}
use Rattle.t1_io.specs.Devices.{PutFailed, SinkState, Wrote}
use Rattle.t1_lines.specs.Lines.{line_in, of_fault, of_refusal}
use Rattle.t1_font.specs.declared.unread.RefusalCode.{RefusalCode}
use Rattle.t1_many.specs.Handing.{Handed, done, failure, line}
use Rattle.t1_many.specs.Plain.{IsFlushed}
use Rattle.t1_many.specs.declared.policy.Lost.{Lost}
use Rattle.t1_many.specs.declared.policy.Lost.TheVariants.{Device, Memory}
use Rattle.t1_many.specs.Reasons.{told_reason}
use Rattle.t1_report.specs.Checked.{CheckedFont}
use Rattle.t1_report.specs.Faults.{FaultValue}
use Rattle.t1_report.specs.Waivers.{Waiver}
use Rattle.t1_many.specs.FontErrors.{reason_of}
use Rattle.t1_many.specs.Unchecked.{unchecked_line}
use Rattle.t1_many.specs.declared.font_error.FontError.TheVariants.{Refused, Unchecked}
use Rattle.t1_run.specs.Opening.{Sinks}
use Rattle.t1_summary.specs.declared.found.FontClass.{FontClass}

-- Beside what is reported is its line, as it is spelled, where lines are shown.
abbrev pub HasItsLine : Bool → Told → Type 0
HasItsLine has_lines told = has_lines ≡ true → told.line.now ≡ what_spelled (what_value told.what)

-- What is reported of the font of a name: the line of a fault, with its reason where reasons are reported, a refusal, or why it wasn't checked.
abbrev pub told_fault : Bool → List ℕ → CheckedFont → List Waiver → FaultValue → ToldValue
told_fault reasons name font waivers fault = record {
  font = Some name;
  what = of_line (of_fault (line_in font.value waivers fault));
  reason = reason_told font.value fault.rule (told_reason reasons font waivers fault);
}

abbrev pub told_refusal : List ℕ → RefusalCode → ToldValue
told_refusal name code = record { font = Some name; what = of_line (of_refusal code); reason = None }

abbrev pub told_unchecked : List ℕ → List ℕ → ToldValue
told_unchecked name reason = record { font = Some name; what = of_unchecked reason; reason = None }

-- ---- what is given

-- A formatter, and the output that it writes on.
pub record Output (T : Type 0) : Type 0 where
  pub formatter : T
  pub out : SinkState

-- The same with standard error.
pub record Formatting (T : Type 0) : Type 0 where
  pub formatter : T
  pub sinks : Sinks

abbrev pub output_of : {T : Type 0} → Formatting T → Output T
output_of f = record { formatter = f.formatter; out = f.sinks.out }

-- This was given to the formatter, which took it or stopped; or memory ran out before.
pub data Gives {T : Type 0} (writes : Output T → Output T → ToldValue → Option Lost → Type 0) (old new : Formatting T) (told : ToldValue)
    (lost : Option Lost) : Type 0 where
  given : writes (output_of old) (output_of new) told lost → Gives writes old new told lost
  no_memory : lost ≡ Some Memory → new.formatter ≡ old.formatter → new.sinks.out ≡ old.sinks.out → Gives writes old new told lost

-- That a font wasn't checked was printed on standard error, and then given; or standard error failed.
pub data GivesUnchecked {T : Type 0} (writes : Output T → Output T → ToldValue → Option Lost → Type 0) (old new : Formatting T)
    (name reason : List ℕ) (lost : Option Lost) : Type 0 where
  told :
      Wrote old.sinks.errors new.sinks.errors (unchecked_line name reason) → Gives writes old new (told_unchecked name reason) lost
      → GivesUnchecked writes old new name reason lost
  untold :
      PutFailed old.sinks.errors new.sinks.errors (unchecked_line name reason) → new.formatter ≡ old.formatter → new.sinks.out ≡ old.sinks.out
      → lost ≡ Some Device → GivesUnchecked writes old new name reason lost

-- The formatter wrote what is after all that is reported of a font, which was found so, and the output was flushed; or one of these failed.
pub data EndsFont {T : Type 0} (ends : Output T → Output T → List ℕ → FontClass → Option Lost → Type 0) (old new : Formatting T) (name : List ℕ)
    (found : FontClass) (lost : Option Lost) : Type 0 where
  ended :
      (behind : SinkState) → ends (output_of old) (record { formatter = new.formatter; out = behind }) name found None
      → IsFlushed behind new.sinks.out lost → EndsFont ends old new name found lost
  unended :
      (reason : Lost) → ends (output_of old) (output_of new) name found (Some reason) → lost ≡ Some reason
      → EndsFont ends old new name found lost

-- Nothing is written after what is reported of a font.
abbrev pub nothing_ends : {T : Type 0} → Output T → Output T → List ℕ → FontClass → Option Lost → Type 0
nothing_ends old new name found lost = (new ≡ old) × (lost ≡ None)

-- A form of a formatter, with reasons or without, and what the formatter writes of a thing, and after all that is reported of a font.
pub record Form (T : Type 0) : Type 1 where
  pub reasons : Bool
  pub writes : Output T → Output T → ToldValue → Option Lost → Type 0
  pub ends : Output T → Output T → List ℕ → FontClass → Option Lost → Type 0

-- One thing that is handed on. The output is flushed after each font.
abbrev pub FormattedTakes : {T : Type 0} → Form T → Formatting T → Formatting T → Handed → Option Lost → Type 0
FormattedTakes form old new (line name font waivers fault) lost =
    Gives form.writes old new (told_fault form.reasons name font waivers fault) lost × (new.sinks.errors ≡ old.sinks.errors)
FormattedTakes form old new (failure name (Refused code)) lost =
    Gives form.writes old new (told_refusal name code) lost × (new.sinks.errors ≡ old.sinks.errors)
FormattedTakes form old new (failure name (Unchecked why)) lost = GivesUnchecked form.writes old new name (reason_of why) lost
FormattedTakes form old new (done name found) lost = EndsFont form.ends old new name found lost × (new.sinks.errors ≡ old.sinks.errors)
