use Rattle.std.proofs.Common.{arith}
use Rattle.std.proofs.lemmas.List.{nil_from_length}
use Rattle.std.proofs.lemmas.Str.{IsUtf8-past_char, chars_past_char, chars-nil}
use Rattle.t1_picture.proofs.head.letters_of.Goals as goal

pub loop-letter-preserved : goal.loop-letter-preserved
loop-letter-preserved c =
    let held = c.loop-letter.invariant in
    let parts = c.in-Some.ensures.steps.0 in record {
      valid = IsUtf8-past_char _ _ c.in-Some._letter held.valid parts;
      counted = omega (arith, c.saturating_add-letters.ensures, rw (chars_past_char _ _ c.in-Some._letter held.valid parts) at held.counted);
      small = omega (arith, c.saturating_add-letters.ensures);
    }

pub returns : goal.returns
returns c =
    let none = nil_from_length _ c.in-None.ensures.steps.0.0 in
    omega (arith, rw (none, chars-nil) at c.loop-letter.invariant.counted, c.loop-letter.invariant.small)
