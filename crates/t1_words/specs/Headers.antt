-- How a file of a Type 1 font begins, and which bytes are past printable ASCII. Type 1 Font Format 1.1, chapter 2.
use Rattle.std.specs.Prelude.{ℕ, Bool, List, codes, ◌||◌, nat_le, nat_eq}
use Rattle.std.specs.List.{list_any, starts_with}

-- DEL, or past ASCII.
abbrev pub is_high : ℕ → Bool
is_high b = nat_le 127 b

abbrev pub has_high_byte : List ℕ → Bool
has_high_byte text = list_any is_high text

-- A file says in its first line that it is a Type 1 font, in one of two forms.
abbrev pub begins_as_type1 : List ℕ → Bool
begins_as_type1 text = starts_with nat_eq text (codes "%!PS-AdobeFont") || starts_with nat_eq text (codes "%!FontType")
