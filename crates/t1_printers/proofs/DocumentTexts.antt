-- What is written as a document of SARIF.
use Rattle.std.proofs.Common.{◌≡◌, ℕ, Bool, List, [], ◌∷◌, ◌++◌, Option, None, Some, refl, ap, subst, ◌∙◌, append_assoc}
use Rattle.t1_forms.specs.Sarif.{SarifState, closing, sarif_state, telling_text}
use Rattle.t1_forms.specs.SarifDocuments.{after_one, tellings_text}
use Rattle.t1_forms.specs.Tellings.{ToldValue, what_spelled}
use Rattle.t1_forms.specs.declared.sarif.Sarif.{Sarif}
use Rattle.t1_io.specs.Devices.{AppendsFront}
use Rattle.t1_many.specs.Handing.{Handed, HandsOn, done, failure, line}
use Rattle.t1_many.specs.declared.policy.Lost.{Lost}
use Rattle.t1_many.proofs.PlainLines.{front-first}
use Rattle.t1_printers.proofs.Streams.{Moves, afters, kept_at_last, out-none, out-put, seen, takes, written}
use Rattle.t1_printers.specs.Documents.{IsDocumentOf, all_values, telling_written}
use Rattle.t1_printers.specs.Formatting.{FormattedTakes, Formatting, Output, nothing_ends, told_fault}
use Rattle.t1_printers.specs.Streams.{IsKept, Stream, failure_value, texts_of}
use Rattle.t1_summary.specs.declared.found.FontClass.{FontClass}

abbrev told_text : SarifState → ToldValue → List ℕ
told_text state t = telling_text state t (what_spelled t.what)

abbrev stream : Bool → Stream SarifState
stream reasons = record {
  reasons = reasons;
  telling = told_text;
  after = after_one;
  ending = λ state name found. [];
  after_font = λ state name found. state;
}

writing : (old new : Output Sarif) (t : ToldValue) (lost : Option Lost) → telling_written old new t lost
    → Moves sarif_state old new (told_text (sarif_state old.formatter) t) (after_one (sarif_state old.formatter) t) lost
writing old new t lost (put, kept) = (out-put old.out new.out _ lost put, kept)

same-kept : (old new : Output Sarif) (lost : Option Lost) → new ≡ old → IsKept (sarif_state new.formatter) (sarif_state old.formatter) lost
same-kept old new None same = ap (λ (o : Output Sarif). sarif_state o.formatter) same
same-kept old new (Some lost) same = tt

ending : (old new : Output Sarif) (name : List ℕ) (found : FontClass) (lost : Option Lost) → nothing_ends old new name found lost
    → Moves sarif_state old new [] (sarif_state old.formatter) lost
ending old new name found lost (same, none) = (
  out-none old.out new.out lost (ap (λ (o : Output Sarif). o.out) same) none,
  same-kept old new lost same,
)

module _ (reasons : Bool) where
  abbrev last : SarifState → List Handed → SarifState
  last = afters (stream reasons) sarif_state telling_written nothing_ends writing ending

  -- What is written of all, and then the end, is the text of what they report.
  texts-are : (state : SarifState) (handed : List Handed)
      → texts_of (stream reasons) state handed ++ closing (last state handed) ≡ tellings_text state (all_values reasons handed)
  texts-are state [] = refl
  texts-are state (line name font waivers fault ∷ more) =
      let t : ToldValue = told_fault reasons name font waivers fault in
      append_assoc (told_text state t) (texts_of (stream reasons) (after_one state t) more) (closing (last (after_one state t) more))
      ∙ ap (λ (rest : List ℕ). told_text state t ++ rest) (texts-are (after_one state t) more)
  texts-are state (failure name reason ∷ more) =
      let t : ToldValue = failure_value name reason in
      append_assoc (told_text state t) (texts_of (stream reasons) (after_one state t) more) (closing (last (after_one state t) more))
      ∙ ap (λ (rest : List ℕ). told_text state t ++ rest) (texts-are (after_one state t) more)
  texts-are state (done name found ∷ more) = texts-are state more

  document : (old new : Formatting Sarif) (handed : List Handed) (lost : Option Lost)
      → HandsOn (FormattedTakes (record { reasons = reasons; writes = telling_written; ends = nothing_ends })) old new handed lost
      → IsDocumentOf reasons old new handed lost
  document old new handed None hands =
      let text : List ℕ = texts_of (stream reasons) (sarif_state old.formatter) handed in (
        text,
        ap (λ (state : SarifState). text ++ closing state)
            (kept_at_last (stream reasons) sarif_state telling_written nothing_ends writing ending old new handed hands)
            ∙ texts-are (sarif_state old.formatter) handed,
        written (stream reasons) sarif_state telling_written nothing_ends writing ending old new handed None hands,
      )
  document old new handed (Some reason) hands =
      let (out, errors, why) = written (stream reasons) sarif_state telling_written nothing_ends writing ending old new handed (Some reason) hands in (
        subst (AppendsFront old.sinks.out.written new.sinks.out.written) (texts-are (sarif_state old.formatter) handed)
            (front-first old.sinks.out.written new.sinks.out.written (texts_of (stream reasons) (sarif_state old.formatter) handed)
            (closing (last (sarif_state old.formatter) handed)) out),
        errors,
        why,
      )

module _ {F : Type 0} (told_with : F → Bool) (view : F → Formatting Sarif) where
  pub seen-document : (old new : F) (handed : List Handed) (lost : Option Lost)
      → HandsOn (takes told_with view telling_written nothing_ends) old new handed lost
      → IsDocumentOf (told_with old) (view old) (view new) handed lost
  seen-document old new handed lost hands =
      document (told_with old) (view old) (view new) handed lost (seen told_with view telling_written nothing_ends old new handed lost hands)
