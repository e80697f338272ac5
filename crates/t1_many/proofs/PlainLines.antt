-- What the plain form prints of things that are handed on.
use Rattle.std.proofs.Common.{◌≡◌, ℕ, Bool, true, List, [], ◌∷◌, ◌++◌, Option, None, Some, inl, inr, refl, sym, ap, subst, ◌∙◌, append_assoc, append-nil}
use Rattle.std.proofs.KnownBytes.{Appends-kept, Appends-nil, Appends-trans}
use Rattle.std.proofs.lemmas.Option.{none-some}
use Rattle.std.specs.Io.KnownBytes.{Appends, Keeps}
use Rattle.t1_io.specs.Devices.{AppendsFront, SinkState}
use Rattle.t1_many.specs.Handing.{Handed, done, failure, line}
use Rattle.t1_many.specs.Laws.{PlainIsFlushed, PlainIsWritten}
use Rattle.t1_many.specs.Plain.{ArePrinted, IsLinePut, PlainTakes, PutsFailure, failure_text, failure_told, fault_text, tellings, text_of, texts, told_of}
use Rattle.t1_many.specs.declared.policy.Lost.{Lost}
use Rattle.t1_many.specs.declared.policy.Lost.TheVariants.{Device, Memory}
use Rattle.t1_many.specs.declared.font_error.FontError.{FontError}
use Rattle.t1_many.specs.declared.font_error.FontError.TheVariants.{Refused, Unchecked}
use Rattle.t1_run.specs.Opening.{Sinks}

-- ---- prefixes

pub front-all : (a b : Option (List ℕ)) (x : List ℕ) → Appends a b x → AppendsFront a b x
front-all a b x all = (x, ([], (sym (append-nil x), all)))

pub front-none : (a b : Option (List ℕ)) (x : List ℕ) → Appends a b [] → AppendsFront a b x
front-none a b x none = ([], (x, (refl, none)))

pub front-first : (a b : Option (List ℕ)) (x y : List ℕ) → AppendsFront a b x → AppendsFront a b (x ++ y)
front-first a b x y (front, (rest, (split, out))) = (front, (rest ++ y, (ap (λ l. l ++ y) split ∙ append_assoc front rest y, out)))

pub front-second : (a b c : Option (List ℕ)) (x y : List ℕ) → Appends a b x → AppendsFront b c y → AppendsFront a c (x ++ y)
front-second a b c x y before (front, (rest, (split, out))) =
    (x ++ front, (rest, (ap (λ l. x ++ l) split ∙ sym (append_assoc x front rest), Appends-trans a b c x front before out)))

kept : (a b : Option (List ℕ)) → Keeps a b → Appends a b []
kept a b keeps = Appends-kept a a b [] (Appends-nil a) keeps

pub none-same : (a b : SinkState) → b ≡ a → Appends a.written b.written []
none-same a b same = subst (λ (s : SinkState). Appends a.written s.written []) (sym same) (Appends-nil a.written)

-- ---- two texts, one after another

pub then_printed : (a b c : Sinks) (x y told more : List ℕ) (lost : Option Lost) → ArePrinted a b x told None → ArePrinted b c y more lost
    → ArePrinted a c (x ++ y) (told ++ more) lost
then_printed a b c x y told more None (first, first_told) (out, errors) = (
  Appends-trans a.out.written b.out.written c.out.written x y first out,
  Appends-trans a.errors.written b.errors.written c.errors.written told more first_told errors,
)
then_printed a b c x y told more (Some lost) (first, first_told) (out, errors, why) = (
  front-second a.out.written b.out.written c.out.written x y first out,
  front-second a.errors.written b.errors.written c.errors.written told more first_told errors,
  why,
)

-- it stopped in the first of two
pub stopped_printed : (a b : Sinks) (x y told more : List ℕ) (lost : Lost) → ArePrinted a b x told (Some lost)
    → ArePrinted a b (x ++ y) (told ++ more) (Some lost)
stopped_printed a b x y told more lost (out, errors, why) =
    (front-first a.out.written b.out.written x y out, front-first a.errors.written b.errors.written told more errors, why)

-- ---- one thing

-- A text was put on the output, and another printed; or it stopped there.
pub line_printed : (old new : Sinks) (text told : List ℕ) (lost : Option Lost) → IsLinePut old.out new.out text lost
    → Appends old.errors.written new.errors.written told → ArePrinted old new text told lost
line_printed old new text told None put errors = (put.bytes, errors)
line_printed old new text told (Some Device) broke errors =
    (broke.front, front-all old.errors.written new.errors.written told errors, inr (inl broke.failed))
line_printed old new text told (Some Memory) same errors =
    (front-none old.out.written new.out.written text (none-same old.out new.out same), front-all old.errors.written new.errors.written told errors, inl refl)

failure_printed : (old new : Sinks) (name : List ℕ) (reason : FontError) (lost : Option Lost) → PutsFailure old new name reason lost
    → ArePrinted old new (failure_text name reason) (failure_told name reason) lost
failure_printed old new name (Refused code) None (put, same) = (put.bytes, none-same old.errors new.errors same)
failure_printed old new name (Refused code) (Some Device) (broke, same) =
    line_printed old new (failure_text name (Refused code)) [] (Some Device) broke (none-same old.errors new.errors same)
failure_printed old new name (Refused code) (Some Memory) (never, same) = absurd never
failure_printed old new name (Unchecked why) None (same, put) = (none-same old.out new.out same, put.bytes)
failure_printed old new name (Unchecked why) (Some Device) (same, broke) =
    (front-all old.out.written new.out.written [] (none-same old.out new.out same), broke.front, inr (inr broke.failed))
failure_printed old new name (Unchecked why) (Some Memory) (same, never) = absurd never

one : (reasons : Bool) (old new : Sinks) (handed : Handed) (lost : Option Lost) → PlainTakes reasons old new handed lost
    → ArePrinted old new (text_of reasons handed) (told_of handed) lost
one reasons old new (line name font waivers fault) lost (put, same) =
    line_printed old new (fault_text reasons name font waivers fault) [] lost put (none-same old.errors new.errors same)
one reasons old new (failure name reason) lost put = failure_printed old new name reason lost put
one reasons old new (done name found) None (flushed, same) =
    (kept old.out.written new.out.written flushed.bytes, none-same old.errors new.errors same)
one reasons old new (done name found) (Some Device) (broke, same) = (
  front-all old.out.written new.out.written [] (kept old.out.written new.out.written broke.bytes),
  front-all old.errors.written new.errors.written [] (none-same old.errors new.errors same),
  inr (inl broke.failed),
)
one reasons old new (done name found) (Some Memory) (never, same) = absurd never

-- ---- all of them

pub none_printed : (old new : Sinks) (lost : Option Lost) → new ≡ old → lost ≡ None → ArePrinted old new [] [] lost
none_printed old new lost same none =
    subst (ArePrinted old new [] []) (sym none)
    (subst (λ (d : Sinks). ArePrinted old d [] [] None) (sym same) (Appends-nil old.out.written, Appends-nil old.errors.written))

pub written : PlainIsWritten
written reasons old new [] lost (same, none) = none_printed old new lost same none
written reasons old new (handed ∷ more) lost (inl (next, took, rest)) =
    then_printed old next new (text_of reasons handed) (texts reasons more) (told_of handed) (tellings more) lost
    (one reasons old next handed None took) (written reasons next new more lost rest)
written reasons old new (handed ∷ more) lost (inr (reason, took, is)) =
    subst (ArePrinted old new (texts reasons (handed ∷ more)) (tellings (handed ∷ more))) (sym is)
    (stopped_printed old new (text_of reasons handed) (texts reasons more) (told_of handed) (tellings more) reason
    (one reasons old new handed (Some reason) took))

pub flushed : PlainIsFlushed
flushed reasons old new [] name found (inl (next, took, (same, none))) =
    subst (λ (d : Sinks). d.out.flushed ≡ true) (sym same) took.0.waits
flushed reasons old new [] name found (inr (reason, took, is)) = absurd (none-some reason is)
flushed reasons old new (handed ∷ more) name found (inl (next, took, rest)) = flushed reasons next new more name found rest
flushed reasons old new (handed ∷ more) name found (inr (reason, took, is)) = absurd (none-some reason is)
