-- The limits that a font which was read keeps.
use Rattle.std.specs.Prelude.{◌≡◌, ◌<◌, ◌≤◌, ℕ, Ok, List, None, IfSome, length, nat_eq}
use Rattle.std.specs.List.{All}
use Rattle.std.specs.Map.{lookup}
use Rattle.t1_font.specs.Fonts.{Marks, FontValue, value_of}
use Rattle.t1_font.specs.TextTurns.{TextRead}
use Rattle.t1_font.specs.ClearText.{clear_of}
use Rattle.t1_font.specs.PrivateText.{private_of}
use Rattle.t1_font.specs.Texts.{font_read}
use Rattle.t1_font.specs.Bounds.{most_glyphs, most_subrs, code_count}

-- Codes are numbers from 0 to 255 and Subrs have numbers from 0 to 65,534; there are at most 65,535
-- glyphs; and the size of the Subrs, where it is stated, is at most 65,535.
pub record IsWithinLimits (v : FontValue) : Type 0 where
  pub codes : All (λ p. p.0 < code_count) v.codes
  pub subrs : All (λ p. p.0 < most_subrs) v.subrs
  pub glyphs : length v.glyphs ≤ most_glyphs
  pub size : IfSome v.size (λ n. n ≤ most_subrs)

-- Whatever the bytes of its two texts, a font that was read is within the limits.
abbrev pub ReadWithinLimits : Type 0
ReadWithinLimits = (marks : Marks) (text private_text : List ℕ) (clear read : TextRead) →
    clear_of marks text ≡ Ok clear → private_of marks clear.stated private_text ≡ Ok read →
    IsWithinLimits (value_of marks read.stated)

-- So is the font that the reader of a private text returns.
abbrev pub FontsWithinLimits : Type 0
FontsWithinLimits = (marks : Marks) (text private_text : List ℕ) (clear : TextRead) (v : FontValue) →
    clear_of marks text ≡ Ok clear → font_read marks clear.stated private_text ≡ Ok v → IsWithinLimits v

-- Within the limits no code from 256 on has a name, and no number from 65,535 on has a Subr.
abbrev pub NothingPastTheEnd : Type 0
NothingPastTheEnd = (v : FontValue) (n : ℕ) → IsWithinLimits v →
    (code_count ≤ n → lookup (nat_eq n) v.codes ≡ None) × (most_subrs ≤ n → lookup (nat_eq n) v.subrs ≡ None)
