-- What a formatter writes of things that are handed on, where it may keep something from one to the next.
use Rattle.std.specs.Prelude.{◌≡◌, ℕ, Bool, List, [], ◌∷◌, ◌++◌, Option, None, Some}
use Rattle.t1_forms.specs.Tellings.{ToldValue}
use Rattle.t1_many.specs.FontErrors.{reason_of}
use Rattle.t1_many.specs.Handing.{Handed, done, failure, line}
use Rattle.t1_many.specs.Plain.{ArePrinted, tellings}
use Rattle.t1_many.specs.declared.font_error.FontError.{FontError}
use Rattle.t1_many.specs.declared.font_error.FontError.TheVariants.{Refused, Unchecked}
use Rattle.t1_many.specs.declared.policy.Lost.{Lost}
use Rattle.t1_printers.specs.Formatting.{Formatting, told_fault, told_refusal, told_unchecked}
use Rattle.t1_summary.specs.declared.found.FontClass.{FontClass}

-- Whether reasons are reported; what is written of what is reported, and after all that is reported of a font; and what is kept then.
pub record Stream (S : Type 0) : Type 0 where
  pub reasons : Bool
  pub telling : S → ToldValue → List ℕ
  pub after : S → ToldValue → S
  pub ending : S → List ℕ → FontClass → List ℕ
  pub after_font : S → List ℕ → FontClass → S

-- Why there is no report of the font of a name.
abbrev pub failure_value : List ℕ → FontError → ToldValue
failure_value name (Refused code) = told_refusal name code
failure_value name (Unchecked why) = told_unchecked name (reason_of why)

-- What is written of a thing that is handed on, and what is kept after it.
abbrev pub text_of_one : {S : Type 0} → Stream S → S → Handed → List ℕ
text_of_one stream state (line name font waivers fault) = stream.telling state (told_fault stream.reasons name font waivers fault)
text_of_one stream state (failure name reason) = stream.telling state (failure_value name reason)
text_of_one stream state (done name found) = stream.ending state name found

abbrev pub after_one : {S : Type 0} → Stream S → S → Handed → S
after_one stream state (line name font waivers fault) = stream.after state (told_fault stream.reasons name font waivers fault)
after_one stream state (failure name reason) = stream.after state (failure_value name reason)
after_one stream state (done name found) = stream.after_font state name found

-- What is written of all of these.
abbrev pub texts_of : {S : Type 0} → Stream S → S → List Handed → List ℕ
texts_of stream state [] = []
texts_of stream state (handed ∷ more) = text_of_one stream state handed ++ texts_of stream (after_one stream state handed) more

-- All of it was written, and reported as in the plain form; or a prefix of it was, since memory ran out or a device failed.
abbrev pub IsStreamed : {T S : Type 0} → Stream S → (T → S) → Formatting T → Formatting T → List Handed → Option Lost → Type 0
IsStreamed stream state old new handed lost =
    ArePrinted old.sinks new.sinks (texts_of stream (state old.formatter) handed) (tellings handed) lost

-- What is kept, unless it stopped.
abbrev pub IsKept : {S : Type 0} → S → S → Option Lost → Type 0
IsKept now state None = now ≡ state
IsKept now state (Some lost) = Unit {0}
