use Rattle.std.proofs.Common.{sym, ◌∙◌, append_assoc, append-nil}
use Rattle.std.proofs.lemmas.List.{nil_from_length}
use Rattle.std.proofs.lemmas.Str.{IsUtf8-past_char, chars_past_char, chars-nil}
use Rattle.t1_forms.proofs.characters.push_characters.Goals as goal

pub loop-c-preserved : goal.loop-c-preserved
loop-c-preserved g c =
    let held = c.loop-c.invariant in
    let parts = c.in-Some.ensures.steps.0 in record {
      valid = IsUtf8-past_char _ _ c.in-Some.c held.valid parts;
      written = rw (c.in_ok-push.ensures, append_assoc) (rw (chars_past_char _ _ c.in-Some.c held.valid parts) at held.written);
    }

pub returns : goal.returns
returns g c =
    let none = nil_from_length _ c.in-None.ensures.steps.0.0 in
    sym (append-nil _) ∙ rw (none, chars-nil) at c.loop-c.invariant.written
