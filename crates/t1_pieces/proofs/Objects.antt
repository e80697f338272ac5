-- The object of a line that was taken by a form.
use Rattle.std.proofs.Common.{◌≡◌, ℕ, List, [], Option, None, Some, subst}
use Rattle.std.specs.Io.KnownBytes.{Appends}
use Rattle.t1_forms.specs.Objects.{object_line}
use Rattle.t1_forms.specs.Tellings.{ToldValue}
use Rattle.t1_printers.specs.Formatting.{Formatting, Gives}
use Rattle.t1_printers.specs.Formatting.Gives.{given, no_memory}
use Rattle.t1_printers.specs.JsonLines.{object_written}

appended : (old new : Option (List ℕ)) (text n : List ℕ) → Appends old new text → old ≡ Some [] → new ≡ Some n → n ≡ text
appended old new text n appends start end =
    subst (λ (o : Option (List ℕ)). Appends (Some []) o text) end (subst (λ (o : Option (List ℕ)). Appends o new text) start appends)

pub object_taken : {T : Type 0} (old new : Formatting T) (told : ToldValue) (n : List ℕ) → Gives object_written old new told None
    → old.sinks.out.written ≡ Some [] → new.sinks.out.written ≡ Some n → n ≡ object_line told
object_taken old new told n (given (wrote, same)) start end = appended old.sinks.out.written new.sinks.out.written (object_line told) n wrote.bytes start end
object_taken old new told n (no_memory lost formatter out) start end = cc
