-- What is written as a document of JUnit's form.
use Rattle.std.proofs.Common.{◌≡◌, ℕ, Bool, List, [], Option, None, Some, ap}
use Rattle.t1_forms.specs.JUnit.{junit_state}
use Rattle.t1_forms.specs.Tellings.{ToldValue}
use Rattle.t1_forms.specs.declared.junit.JUnit.{JUnit}
use Rattle.t1_many.specs.Handing.{Handed, HandsOn}
use Rattle.t1_many.specs.declared.policy.Lost.{Lost}
use Rattle.t1_printers.proofs.Streams.{Moves, out-none, out-put, seen, takes, written}
use Rattle.t1_printers.specs.Cases.{AreCases, after_case, case_at_end, case_stream, case_telling_written, case_written}
use Rattle.t1_printers.specs.Formatting.{Formatting, Output}
use Rattle.t1_printers.specs.Streams.{IsKept}
use Rattle.t1_summary.specs.declared.found.FontClass.{FontClass}
use Rattle.t1_summary.specs.declared.found.FontClass.TheVariants.{Clean, Faulty, Known, Refused, Unchecked}

same-kept : (old new : Output JUnit) (lost : Option Lost) → new ≡ old → IsKept (junit_state new.formatter) (junit_state old.formatter) lost
same-kept old new None same = ap (λ (o : Output JUnit). junit_state o.formatter) same
same-kept old new (Some lost) same = tt

unmoved : (old new : Output JUnit) (lost : Option Lost) → new ≡ old → lost ≡ None → Moves junit_state old new [] (junit_state old.formatter) lost
unmoved old new lost same none = (
  out-none old.out new.out lost (ap (λ (o : Output JUnit). o.out) same) none,
  same-kept old new lost same,
)

module _ (reasons : Bool) where
  writing : (old new : Output JUnit) (t : ToldValue) (lost : Option Lost) → case_telling_written old new t lost
      → Moves junit_state old new ((case_stream reasons).telling (junit_state old.formatter) t) ((case_stream reasons).after (junit_state old.formatter) t)
      lost
  writing old new t lost (put, kept) = (out-put old.out new.out _ lost put, kept)

  ending : (old new : Output JUnit) (name : List ℕ) (found : FontClass) (lost : Option Lost) → case_written old new name found lost
      → Moves junit_state old new (case_at_end (junit_state old.formatter) name found) (after_case (junit_state old.formatter) name found) lost
  ending old new name Clean lost (put, kept) = (out-put old.out new.out _ lost put, kept)
  ending old new name Known lost (put, kept) = (out-put old.out new.out _ lost put, kept)
  ending old new name Faulty lost (put, kept) = (out-put old.out new.out _ lost put, kept)
  ending old new name Refused lost (same, none) = unmoved old new lost same none
  ending old new name Unchecked lost (same, none) = unmoved old new lost same none

module _ {F : Type 0} (told_with : F → Bool) (view : F → Formatting JUnit) where
  pub seen-cases : (old new : F) (handed : List Handed) (lost : Option Lost)
      → HandsOn (takes told_with view case_telling_written case_written) old new handed lost
      → AreCases (told_with old) (view old) (view new) handed lost
  seen-cases old new handed lost hands =
      written (case_stream (told_with old)) junit_state case_telling_written case_written (writing (told_with old)) (ending (told_with old))
      (view old) (view new) handed lost (seen told_with view case_telling_written case_written old new handed lost hands)
