-- Each font is one case.
use Rattle.std.proofs.Common.{◌≡◌, ℕ, Bool, true, false, List, [], ◌∷◌, ◌++◌, Option, None, Some, map, refl, sym, ap, ap₂, ◌∙◌, append_assoc, append-nil}
use Rattle.t1_forms.specs.JUnit.{JUnitState, begun, case_text, first_failure, found_with, line_text}
use Rattle.t1_forms.specs.Xml.{xml_name}
use Rattle.t1_many.specs.Handing.{Handed, done, line}
use Rattle.t1_many.specs.declared.font_error.FontError.TheVariants as errors
use Rattle.t1_printers.specs.Cases.{CheckedFontsHaveACase, OtherFontsHaveACase, case_stream, first_failing, font_lines, is_checked, spelled_line}
use Rattle.t1_printers.specs.Formatting.{told_fault}
use Rattle.t1_printers.specs.Streams.{texts_of}
use Rattle.t1_report.specs.Checked.{CheckedFont}
use Rattle.t1_report.specs.Faults.{FaultValue}
use Rattle.t1_report.specs.Waivers.{Waiver}
use Rattle.t1_rules.specs.Book.{number_of}
use Rattle.t1_rules.specs.Mask.{has}
use Rattle.t1_rules.specs.declared.mask.Mask.{Mask}
use Rattle.t1_summary.specs.declared.found.FontClass.{FontClass}
use Rattle.t1_summary.specs.declared.found.FontClass.TheVariants.{Clean, Faulty, Known, Refused, Unchecked}

module _ (reasons : Bool) (failing : Mask) (name : List ℕ) (font : CheckedFont) (waivers : List Waiver) where
  -- With these lines kept, of which the first that fails is this one.
  abbrev holding : List ℕ → Option (List ℕ) → JUnitState
  holding lines first = record { failing = failing; lines = lines; failure = first }

  -- The first that fails, of those before and then these.
  abbrev first_of : Option (List ℕ) → List FaultValue → Option (List ℕ)
  first_of None faults = first_failing failing font waivers faults
  first_of (Some message) faults = Some message

  first_more : (first : Option (List ℕ)) (fault : FaultValue) (faults : List FaultValue)
      → first_of (first_failure first (has failing (number_of fault.rule)) (xml_name (spelled_line font waivers fault))) faults ≡ first_of first (fault ∷ faults)
  first_more (Some message) fault faults = refl
  first_more None fault faults = by_case (has failing (number_of fault.rule)) refl
    where
      by_case : (fails : Bool) → has failing (number_of fault.rule) ≡ fails
          → first_of (first_failure None (has failing (number_of fault.rule)) (xml_name (spelled_line font waivers fault))) faults ≡ first_of None (fault ∷ faults)
      by_case true is = rw is refl
      by_case false is = rw is refl

  at_end : (found : FontClass) (lines : List ℕ) (first : Option (List ℕ)) (more : List Handed) → is_checked found ≡ true
      → texts_of (case_stream reasons) (holding lines first) (done name found ∷ more)
      ≡ case_text (Some name) (found_with first lines) ++ texts_of (case_stream reasons) (begun failing) more
  at_end Clean lines first more is = refl
  at_end Known lines first more is = refl
  at_end Faulty lines first more is = refl
  at_end Refused lines first more is = cc
  at_end Unchecked lines first more is = cc

  lines_kept : (faults : List FaultValue) (found : FontClass) (lines : List ℕ) (first : Option (List ℕ)) (more : List Handed)
      → is_checked found ≡ true
      → texts_of (case_stream reasons) (holding lines first) (map (line name font waivers) faults ++ done name found ∷ more)
      ≡ case_text (Some name) (found_with (first_of first faults) (lines ++ font_lines reasons font waivers faults))
      ++ texts_of (case_stream reasons) (begun failing) more
  lines_kept [] found lines None more is =
      at_end found lines None more is
      ∙ ap (λ (l : List ℕ). case_text (Some name) (found_with None l) ++ texts_of (case_stream reasons) (begun failing) more) (sym (append-nil lines))
  lines_kept [] found lines (Some message) more is =
      at_end found lines (Some message) more is
      ∙ ap (λ (l : List ℕ). case_text (Some name) (found_with (Some message) l) ++ texts_of (case_stream reasons) (begun failing) more)
      (sym (append-nil lines))
  lines_kept (fault ∷ faults) found lines first more is =
      let text : List ℕ = line_text (spelled_line font waivers fault) (told_fault reasons [] font waivers fault).reason in
      lines_kept faults found (lines ++ text) (first_failure first (has failing (number_of fault.rule)) (xml_name (spelled_line font waivers fault))) more is
      ∙ ap₂ (λ (f : Option (List ℕ)) (l : List ℕ). case_text (Some name) (found_with f l) ++ texts_of (case_stream reasons) (begun failing) more)
      (first_more first fault faults) (append_assoc lines text (font_lines reasons font waivers faults))

pub checked_fonts : CheckedFontsHaveACase
checked_fonts reasons failing name font waivers faults found more is =
    lines_kept reasons failing name font waivers faults found [] None more is

pub other_fonts : OtherFontsHaveACase
other_fonts reasons failing name (errors.Refused code) more = refl
other_fonts reasons failing name (errors.Unchecked why) more = refl
