-- A document of JUnit's form: what is written of things that are handed on.
use Rattle.std.specs.Prelude.{◌≡◌, ◌++◌, ◌∷◌, ℕ, Bool, true, false, List, [], find, map, Option, None, Some, option_map}
use Rattle.std.specs.List.{flat_map}
use Rattle.t1_forms.specs.JUnit.{JUnitState, after_what, begun, case_text, closing, error_text, found_text, found_with, junit_state, line_text, text_of_what}
use Rattle.t1_forms.specs.Tellings.{ToldValue, what_spelled}
use Rattle.t1_forms.specs.Xml.{xml_name}
use Rattle.t1_forms.specs.declared.junit.JUnit.{JUnit}
use Rattle.t1_io.specs.Devices.{SinkState}
use Rattle.t1_many.specs.Handing.{Handed, done, failure, line}
use Rattle.t1_many.specs.Outcomes.{found_of_error}
use Rattle.t1_many.specs.Plain.{IsLinePut}
use Rattle.t1_many.specs.declared.font_error.FontError.{FontError}
use Rattle.t1_many.specs.declared.policy.Lost.{Lost}
use Rattle.t1_printers.specs.Formatting.{Formatting, Output, told_fault}
use Rattle.t1_printers.specs.Streams.{IsKept, IsStreamed, Stream, failure_value, texts_of}
use Rattle.t1_report.specs.Checked.{CheckedFont}
use Rattle.t1_report.specs.Faults.{FaultValue}
use Rattle.t1_report.specs.Waivers.{Waiver}
use Rattle.t1_rules.specs.Book.{number_of}
use Rattle.t1_rules.specs.Mask.{has}
use Rattle.t1_rules.specs.declared.mask.Mask.{Mask}
use Rattle.t1_summary.specs.declared.found.FontClass.{FontClass}
use Rattle.t1_summary.specs.declared.found.FontClass.TheVariants.{Clean, Faulty, Known, Refused, Unchecked}

-- What is written of what is reported, whose line is spelled so; and what is kept.
abbrev pub telling_text : ToldValue → List ℕ
telling_text told = text_of_what told.font told.what (what_spelled told.what)

abbrev pub after_telling : JUnitState → ToldValue → JUnitState
after_telling state told = after_what state told.what (what_spelled told.what) told.reason

-- A font that was refused or wasn't checked has its case before it is done.
abbrev pub case_at_end : JUnitState → List ℕ → FontClass → List ℕ
case_at_end state name Clean = found_text state name
case_at_end state name Known = found_text state name
case_at_end state name Faulty = found_text state name
case_at_end state name Refused = []
case_at_end state name Unchecked = []

abbrev pub after_case : JUnitState → List ℕ → FontClass → JUnitState
after_case state name Clean = begun state.failing
after_case state name Known = begun state.failing
after_case state name Faulty = begun state.failing
after_case state name Refused = state
after_case state name Unchecked = state

-- What a document has of what is reported was put, and is kept.
abbrev pub case_telling_written : Output JUnit → Output JUnit → ToldValue → Option Lost → Type 0
case_telling_written old new told lost =
    IsLinePut old.out new.out (telling_text told) lost
    × IsKept (junit_state new.formatter) (after_telling (junit_state old.formatter) told) lost

-- The case of a font was put, and nothing is kept any more.
abbrev pub found_written : Output JUnit → Output JUnit → List ℕ → Option Lost → Type 0
found_written old new name lost =
    IsLinePut old.out new.out (found_text (junit_state old.formatter) name) lost
    × IsKept (junit_state new.formatter) (begun old.formatter.failing) lost

-- A font that was checked has no case before it is done.
abbrev pub is_checked : FontClass → Bool
is_checked Clean = true
is_checked Known = true
is_checked Faulty = true
is_checked Refused = false
is_checked Unchecked = false

abbrev pub ends_case : Bool → Output JUnit → Output JUnit → List ℕ → Option Lost → Type 0
ends_case true old new name lost = found_written old new name lost
ends_case false old new name lost = (new ≡ old) × (lost ≡ None)

abbrev pub case_written : Output JUnit → Output JUnit → List ℕ → FontClass → Option Lost → Type 0
case_written old new name found lost = ends_case (is_checked found) old new name lost

-- What ends it was put.
abbrev pub cases_ended : JUnit → SinkState → SinkState → Option Lost → Type 0
cases_ended document old new lost = IsLinePut old new closing lost

-- The cases, one after another.
abbrev pub case_stream : Bool → Stream JUnitState
case_stream reasons = record {
  reasons = reasons;
  telling = λ state told. telling_text told;
  after = after_telling;
  ending = case_at_end;
  after_font = after_case;
}

abbrev pub AreCases : Bool → Formatting JUnit → Formatting JUnit → List Handed → Option Lost → Type 0
AreCases reasons = IsStreamed (case_stream reasons) junit_state

-- ---- laws

-- The lines of a font, with their reasons, where these are reported; and the first of the lines whose rules are among those that fail.
abbrev pub spelled_line : CheckedFont → List Waiver → FaultValue → List ℕ
spelled_line font waivers fault = what_spelled (told_fault false [] font waivers fault).what

abbrev pub font_lines : Bool → CheckedFont → List Waiver → List FaultValue → List ℕ
font_lines reasons font waivers faults =
    flat_map (λ fault. line_text (spelled_line font waivers fault) (told_fault reasons [] font waivers fault).reason) faults

abbrev pub first_failing : Mask → CheckedFont → List Waiver → List FaultValue → Option (List ℕ)
first_failing failing font waivers faults =
    option_map (λ fault. xml_name (spelled_line font waivers fault)) (find (λ (fault : FaultValue). has failing (number_of fault.rule)) faults)

-- A font that was checked has one case, after the cases before it: a failure exactly where one of its lines fails, by the first such line, with all
-- lines of the font.
abbrev pub CheckedFontsHaveACase : Type 0
CheckedFontsHaveACase =
    (reasons : Bool) (failing : Mask) (name : List ℕ) (font : CheckedFont) (waivers : List Waiver) (faults : List FaultValue) (found : FontClass)
    (more : List Handed) → is_checked found ≡ true
    → texts_of (case_stream reasons) (begun failing) (map (line name font waivers) faults ++ done name found ∷ more)
    ≡ case_text (Some name) (found_with (first_failing failing font waivers faults) (font_lines reasons font waivers faults))
    ++ texts_of (case_stream reasons) (begun failing) more

-- And so has one that was refused or wasn't checked: an error.
abbrev pub OtherFontsHaveACase : Type 0
OtherFontsHaveACase =
    (reasons : Bool) (failing : Mask) (name : List ℕ) (reason : FontError) (more : List Handed)
    → texts_of (case_stream reasons) (begun failing) (failure name reason ∷ done name (found_of_error reason) ∷ more)
    ≡ error_text (Some name) (what_spelled (failure_value name reason).what) ++ texts_of (case_stream reasons) (begun failing) more
