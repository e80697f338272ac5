-- What a formatter writes, and what is reported, of things that are handed on.
use Rattle.std.proofs.Common.{◌≡◌, ◌⊎◌, ℕ, Bool, true, List, [], ◌∷◌, ◌++◌, Option, None, Some, inl, inr, refl, sym, ap, subst, ◌∙◌}
use Rattle.std.proofs.KnownBytes.{Appends-kept}
use Rattle.std.proofs.lemmas.Option.{none-some}
use Rattle.std.specs.Io.KnownBytes.{Appends}
use Rattle.t1_forms.specs.Tellings.{ToldValue}
use Rattle.t1_io.specs.Devices.{AppendsFront, SinkState}
use Rattle.t1_many.proofs.PlainLines.{front-all, front-none, line_printed, none-same, none_printed, stopped_printed, then_printed}
use Rattle.t1_many.specs.FontErrors.{reason_of}
use Rattle.t1_many.specs.Handing.{Handed, HandsOn, done, failure, line}
use Rattle.t1_many.specs.Plain.{ArePrinted, IsFlushed, IsLinePut, tellings, told_of}
use Rattle.t1_many.specs.Unchecked.{unchecked_line}
use Rattle.t1_many.specs.declared.font_error.FontError.TheVariants.{Refused, Unchecked}
use Rattle.t1_many.specs.declared.policy.Lost.{Lost}
use Rattle.t1_many.specs.declared.policy.Lost.TheVariants.{Device, Memory}
use Rattle.t1_printers.proofs.HandedSeen.{handed_seen}
use Rattle.t1_printers.specs.Formatting.{EndsFont, Form, FormattedTakes, Formatting, Gives, GivesUnchecked, Output, ended, given, no_memory, output_of, told, told_fault, told_refusal, told_unchecked, unended, untold}
use Rattle.t1_printers.specs.Streams.{IsKept, IsStreamed, Stream, after_one, text_of_one, texts_of}
use Rattle.t1_summary.specs.declared.found.FontClass.{FontClass}

-- ---- the output

-- A text was put, or a prefix of it where it stopped.
abbrev pub IsOut : SinkState → SinkState → List ℕ → Option Lost → Type 0
IsOut old new text None = Appends old.written new.written text
IsOut old new text (Some lost) = AppendsFront old.written new.written text × ((lost ≡ Memory) ⊎ (new.failed ≡ true))

pub out-put : (old new : SinkState) (text : List ℕ) (lost : Option Lost) → IsLinePut old new text lost → IsOut old new text lost
out-put old new text None put = put.bytes
out-put old new text (Some Device) put = (put.front, inr put.failed)
out-put old new text (Some Memory) same = (front-none old.written new.written text (none-same old new same), inl refl)

pub out-none : (old new : SinkState) (lost : Option Lost) → new ≡ old → lost ≡ None → IsOut old new [] lost
out-none old new lost same none = subst (IsOut old new []) (sym none) (none-same old new same)

cause : (lost : Lost) (out errors : SinkState) → (lost ≡ Memory) ⊎ (out.failed ≡ true)
    → (lost ≡ Memory) ⊎ (out.failed ≡ true) ⊎ (errors.failed ≡ true)
cause lost out errors (inl memory) = inl memory
cause lost out errors (inr failed) = inr (inl failed)

-- ---- one thing

-- A text was put, and this is kept.
abbrev pub Moves : {T S : Type 0} → (T → S) → Output T → Output T → List ℕ → S → Option Lost → Type 0
Moves state old new text kept lost = IsOut old.out new.out text lost × IsKept (state new.formatter) kept lost

module _ {T S : Type 0} (stream : Stream S) (state : T → S) (writes : Output T → Output T → ToldValue → Option Lost → Type 0)
    (ends : Output T → Output T → List ℕ → FontClass → Option Lost → Type 0)
    (writing : (old new : Output T) (t : ToldValue) (lost : Option Lost) → writes old new t lost
    → Moves state old new (stream.telling (state old.formatter) t) (stream.after (state old.formatter) t) lost)
    (ending : (old new : Output T) (name : List ℕ) (found : FontClass) (lost : Option Lost) → ends old new name found lost
    → Moves state old new (stream.ending (state old.formatter) name found) (stream.after_font (state old.formatter) name found) lost) where
  abbrev form : Form T
  form = record { reasons = stream.reasons; writes = writes; ends = ends }

  -- This was printed, and this is kept.
  abbrev IsStep : Formatting T → Formatting T → List ℕ → S → List ℕ → Option Lost → Type 0
  IsStep old new text kept tells lost = ArePrinted old.sinks new.sinks text tells lost × IsKept (state new.formatter) kept lost

  moved : (old new : Formatting T) (text : List ℕ) (kept : S) (tells : List ℕ) (lost : Option Lost)
      → Moves state (output_of old) (output_of new) text kept lost → Appends old.sinks.errors.written new.sinks.errors.written tells
      → IsStep old new text kept tells lost
  moved old new text kept tells None (out, is) errors = ((out, errors), is)
  moved old new text kept tells (Some lost) ((front, why), is) errors =
      ((front, front-all old.sinks.errors.written new.sinks.errors.written tells errors, cause lost new.sinks.out new.sinks.errors why), is)

  given-one : (old new : Formatting T) (t : ToldValue) (tells : List ℕ) (lost : Option Lost) → Gives writes old new t lost
      → Appends old.sinks.errors.written new.sinks.errors.written tells
      → IsStep old new (stream.telling (state old.formatter) t) (stream.after (state old.formatter) t) tells lost
  given-one old new t tells lost (given wrote) errors =
      moved old new _ _ tells lost (writing (output_of old) (output_of new) t lost wrote) errors
  given-one old new t tells lost (no_memory is formatter same) errors =
      subst (IsStep old new (stream.telling (state old.formatter) t) (stream.after (state old.formatter) t) tells) (sym is)
      (line_printed old.sinks new.sinks (stream.telling (state old.formatter) t) tells (Some Memory) same errors, tt)

  unchecked-one : (old new : Formatting T) (name reason : List ℕ) (lost : Option Lost) → GivesUnchecked writes old new name reason lost
      → IsStep old new (stream.telling (state old.formatter) (told_unchecked name reason))
      (stream.after (state old.formatter) (told_unchecked name reason)) (unchecked_line name reason) lost
  unchecked-one old new name reason lost (told wrote gives) =
      given-one old new (told_unchecked name reason) (unchecked_line name reason) lost gives wrote.bytes
  unchecked-one old new name reason lost (untold broke formatter same why) =
      subst (IsStep old new (stream.telling (state old.formatter) (told_unchecked name reason))
      (stream.after (state old.formatter) (told_unchecked name reason)) (unchecked_line name reason)) (sym why) (
        (
          front-none old.sinks.out.written new.sinks.out.written (stream.telling (state old.formatter) (told_unchecked name reason))
              (none-same old.sinks.out new.sinks.out same),
          broke.front,
          inr (inr broke.failed),
        ),
        tt,
      )

  flushed-one : (old new : Formatting T) (behind : SinkState) (text : List ℕ) (kept : S) (lost : Option Lost)
      → Moves state (output_of old) (record { formatter = new.formatter; out = behind }) text kept None → IsFlushed behind new.sinks.out lost
      → new.sinks.errors ≡ old.sinks.errors → IsStep old new text kept [] lost
  flushed-one old new behind text kept None (out, is) flushed same = (
    (
      Appends-kept old.sinks.out.written behind.written new.sinks.out.written text out flushed.bytes,
      none-same old.sinks.errors new.sinks.errors same,
    ),
    is,
  )
  flushed-one old new behind text kept (Some Device) (out, is) broke same = (
    (
      front-all old.sinks.out.written new.sinks.out.written text
          (Appends-kept old.sinks.out.written behind.written new.sinks.out.written text out broke.bytes),
      front-all old.sinks.errors.written new.sinks.errors.written [] (none-same old.sinks.errors new.sinks.errors same),
      inr (inl broke.failed),
    ),
    tt,
  )
  flushed-one old new behind text kept (Some Memory) moves never same = absurd never

  ended-one : (old new : Formatting T) (name : List ℕ) (found : FontClass) (lost : Option Lost) → EndsFont ends old new name found lost
      → new.sinks.errors ≡ old.sinks.errors
      → IsStep old new (stream.ending (state old.formatter) name found) (stream.after_font (state old.formatter) name found) [] lost
  ended-one old new name found lost (ended behind wrote flushed) same =
      flushed-one old new behind (stream.ending (state old.formatter) name found) (stream.after_font (state old.formatter) name found) lost (ending (output_of old) (record { formatter = new.formatter; out = behind }) name found None wrote) flushed same
  ended-one old new name found lost (unended reason wrote is) same =
      subst (IsStep old new (stream.ending (state old.formatter) name found) (stream.after_font (state old.formatter) name found) []) (sym is)
      (moved old new (stream.ending (state old.formatter) name found) (stream.after_font (state old.formatter) name found) [] (Some reason) (ending (output_of old) (output_of new) name found (Some reason) wrote) (none-same old.sinks.errors new.sinks.errors same))

  one : (old new : Formatting T) (handed : Handed) (lost : Option Lost) → FormattedTakes form old new handed lost
      → IsStep old new (text_of_one stream (state old.formatter) handed) (after_one stream (state old.formatter) handed) (told_of handed) lost
  one old new (line name font waivers fault) lost (gives, same) =
      given-one old new (told_fault stream.reasons name font waivers fault) [] lost gives (none-same old.sinks.errors new.sinks.errors same)
  one old new (failure name (Refused code)) lost (gives, same) =
      given-one old new (told_refusal name code) [] lost gives (none-same old.sinks.errors new.sinks.errors same)
  one old new (failure name (Unchecked why)) lost gives = unchecked-one old new name (reason_of why) lost gives
  one old new (done name found) lost (ends_font, same) = ended-one old new name found lost ends_font same

  -- ---- things that are handed on

  pub written : (old new : Formatting T) (handed : List Handed) (lost : Option Lost) → HandsOn (FormattedTakes form) old new handed lost
      → IsStreamed stream state old new handed lost
  written old new [] lost (same, none) = none_printed old.sinks new.sinks lost (ap (λ (d : Formatting T). d.sinks) same) none
  written old new (handed ∷ rest) lost (inl (next, took, later)) =
      let first = one old next handed None took in
      then_printed old.sinks next.sinks new.sinks (text_of_one stream (state old.formatter) handed)
      (texts_of stream (after_one stream (state old.formatter) handed) rest) (told_of handed) (tellings rest) lost first.0
      (subst (λ (s : S). ArePrinted next.sinks new.sinks (texts_of stream s rest) (tellings rest) lost) first.1 (written next new rest lost later))
  written old new (handed ∷ rest) lost (inr (reason, took, is)) =
      subst (IsStreamed stream state old new (handed ∷ rest)) (sym is)
      (stopped_printed old.sinks new.sinks (text_of_one stream (state old.formatter) handed)
      (texts_of stream (after_one stream (state old.formatter) handed) rest) (told_of handed) (tellings rest) reason
      (one old new handed (Some reason) took).0)

  -- What is kept at last.
  abbrev pub afters : S → List Handed → S
  afters kept [] = kept
  afters kept (handed ∷ rest) = afters (after_one stream kept handed) rest

  pub kept_at_last : (old new : Formatting T) (handed : List Handed) → HandsOn (FormattedTakes form) old new handed None
      → state new.formatter ≡ afters (state old.formatter) handed
  kept_at_last old new [] (same, none) = ap (λ (d : Formatting T). state d.formatter) same
  kept_at_last old new (handed ∷ rest) (inl (next, took, later)) =
      kept_at_last next new rest later ∙ ap (λ (kept : S). afters kept rest) (one old next handed None took).1
  kept_at_last old new (handed ∷ rest) (inr (reason, took, is)) = absurd (none-some reason is)

  pub flushed : (old new : Formatting T) (handed : List Handed) (name : List ℕ) (found : FontClass)
      → HandsOn (FormattedTakes form) old new (handed ++ done name found ∷ []) None → new.sinks.out.flushed ≡ true
  flushed old new [] name found (inl (next, (ended behind wrote flush, errors), (same, none))) =
      subst (λ (d : Formatting T). d.sinks.out.flushed ≡ true) (sym same) flush.waits
  flushed old new [] name found (inl (next, (unended reason wrote is, errors), (same, none))) = absurd (none-some reason is)
  flushed old new [] name found (inr (reason, took, is)) = absurd (none-some reason is)
  flushed old new (handed ∷ rest) name found (inl (next, took, later)) = flushed next new rest name found later
  flushed old new (handed ∷ rest) name found (inr (reason, took, is)) = absurd (none-some reason is)

-- ---- a form, of which the formatter and the devices are seen

module _ {F T : Type 0} (told_with : F → Bool) (view : F → Formatting T) (writes : Output T → Output T → ToldValue → Option Lost → Type 0)
    (ends : Output T → Output T → List ℕ → FontClass → Option Lost → Type 0) where
  abbrev pub takes : F → F → Handed → Option Lost → Type 0
  takes old new handed lost =
      (told_with new ≡ told_with old)
      × FormattedTakes (record { reasons = told_with old; writes = writes; ends = ends }) (view old) (view new) handed lost

  pub seen : (old new : F) (handed : List Handed) (lost : Option Lost) → HandsOn takes old new handed lost
      → HandsOn (FormattedTakes (record { reasons = told_with old; writes = writes; ends = ends })) (view old) (view new) handed lost
  seen = handed_seen (λ reasons. FormattedTakes (record { reasons = reasons; writes = writes; ends = ends })) told_with (λ reasons. view)
