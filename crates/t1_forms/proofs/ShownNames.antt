-- Names that are UTF-8, and others.
use Rattle.std.proofs.Common.{◌≡◌, ℕ, List, Bool, true, false, refl}
use Rattle.std.specs.List.{flat_map}
use Rattle.std.specs.Str.{IsUtf8, chars, is_utf8}
use Rattle.std.proofs.lemmas.Str.{IsUtf8-from_is_utf8, is_utf8-from_IsUtf8}
use Rattle.t1_forms.specs.Shown.{shown, shown_byte, shown_char}

pub shown_valid : (name : List ℕ) → IsUtf8 name → shown name ≡ flat_map shown_char (chars name)
unfolding shown
shown_valid name valid = rw (is_utf8-from_IsUtf8 name valid) refl

other_of : (name : List ℕ) (b : Bool) → is_utf8 name ≡ b → ¬ (IsUtf8 name) → is_utf8 name ≡ false
other_of name true e other = absurd (other (IsUtf8-from_is_utf8 name e))
other_of name false e other = e

pub shown_other : (name : List ℕ) → ¬ (IsUtf8 name) → shown name ≡ flat_map shown_byte name
unfolding shown
shown_other name other = rw (other_of name (is_utf8 name) refl other) refl
