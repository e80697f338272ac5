-- What is written as lines of JSON.
use Rattle.std.proofs.Common.{◌≡◌, ℕ, Bool, true, List, [], ◌∷◌, ◌++◌, Option, None, Some}
use Rattle.t1_forms.specs.Tellings.{ToldValue}
use Rattle.t1_io.specs.Devices.{SinkState}
use Rattle.t1_many.specs.Handing.{Handed, HandsOn, done}
use Rattle.t1_many.specs.declared.policy.Lost.{Lost}
use Rattle.t1_printers.proofs.Streams.{IsOut, Moves, flushed, out-none, out-put, seen, takes, written}
use Rattle.t1_printers.specs.Formatting.{Formatting, Output}
use Rattle.t1_printers.specs.JsonLines.{AreObjects, IsPutIfAny, clean_object, clean_written, object_stream, object_written, text_or_none}
use Rattle.t1_printers.specs.Streams.{IsKept}
use Rattle.t1_printers.specs.declared.json_lines.JsonLines.{JsonLines}
use Rattle.t1_summary.specs.declared.found.FontClass.{FontClass}

is-kept : (new old : JsonLines) (lost : Option Lost) → new ≡ old → IsKept new old lost
is-kept new old None same = same
is-kept new old (Some lost) same = tt

out-if-any : (old new : SinkState) (text : Option (List ℕ)) (lost : Option Lost) → IsPutIfAny old new text lost → IsOut old new (text_or_none text) lost
out-if-any old new None lost (same, none) = out-none old new lost same none
out-if-any old new (Some text) lost put = out-put old new text lost put

module _ (reasons : Bool) where
  writing : (old new : Output JsonLines) (t : ToldValue) (lost : Option Lost) → object_written old new t lost
      → Moves (λ (json : JsonLines). json) old new ((object_stream reasons).telling old.formatter t) old.formatter lost
  writing old new t lost (put, same) = (out-put old.out new.out _ lost put, is-kept new.formatter old.formatter lost same)

  ending : (old new : Output JsonLines) (name : List ℕ) (found : FontClass) (lost : Option Lost) → clean_written old new name found lost
      → Moves (λ (json : JsonLines). json) old new ((object_stream reasons).ending old.formatter name found) old.formatter lost
  ending old new name found lost (put, same) =
      (out-if-any old.out new.out (clean_object old.formatter.clean name found) lost put, is-kept new.formatter old.formatter lost same)

module _ {F : Type 0} (told_with : F → Bool) (view : F → Formatting JsonLines) where
  pub seen-written : (old new : F) (handed : List Handed) (lost : Option Lost)
      → HandsOn (takes told_with view object_written clean_written) old new handed lost
      → AreObjects (told_with old) (view old) (view new) handed lost
  seen-written old new handed lost hands =
      written (object_stream (told_with old)) (λ json. json) object_written clean_written (writing (told_with old)) (ending (told_with old))
      (view old) (view new) handed lost (seen told_with view object_written clean_written old new handed lost hands)

  pub seen-flushed : (old new : F) (handed : List Handed) (name : List ℕ) (found : FontClass)
      → HandsOn (takes told_with view object_written clean_written) old new (handed ++ done name found ∷ []) None → (view new).sinks.out.flushed ≡ true
  seen-flushed old new handed name found hands =
      flushed (object_stream (told_with old)) (λ json. json) object_written clean_written (writing (told_with old)) (ending (told_with old))
      (view old) (view new) handed name found
      (seen told_with view object_written clean_written old new (handed ++ done name found ∷ []) None hands)
