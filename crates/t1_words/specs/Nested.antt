-- Texts in which each brace and bracket has its partner, as they are spelled. Type 1 Font Format 1.1, chapters 2 and 10.
use Rattle.std.specs.Prelude.{◌≡◌, ◌≤◌, ℕ, Bool, true, List, [], ◌∷◌, ◌++◌, ◌+◌, ◌==◌, ◌&&◌, ◌||◌, not, max}
use Rattle.std.specs.List.{list_all}
use Rattle.t1_scan.specs.Bytes.{is_line_end}
use Rattle.t1_scan.specs.Lengths.{most_nested}
use Rattle.t1_scan.specs.Spelling.{Part, byte, comment, string, hexadecimal, double_angle, part_text, are_letters, are_hexadecimal}

-- Nothing; a part that isn't a brace or a bracket, as t1_scan spells it; `>>`; what is between braces or brackets. Then more.
pub data Paired : Type 0 where
  nothing : Paired
  part : Part → Paired → Paired
  double_close : Paired → Paired
  braces : Paired → Paired → Paired
  brackets : Paired → Paired → Paired

abbrev pub paired_text : Paired → List ℕ
paired_text nothing = []
paired_text (part p more) = part_text p ++ paired_text more
paired_text (double_close more) = 62 ∷ 62 ∷ paired_text more
paired_text (braces inner more) = 123 ∷ (paired_text inner ++ (125 ∷ paired_text more))
paired_text (brackets inner more) = 91 ∷ (paired_text inner ++ (93 ∷ paired_text more))

-- Any byte but % ( ) < > [ ] { }.
abbrev pub is_plain_byte : ℕ → Bool
is_plain_byte b = not (b == 37 || b == 40 || b == 41 || b == 60 || b == 62 || b == 91 || b == 93 || b == 123 || b == 125)

abbrev pub is_plain_part : Part → Bool
is_plain_part (byte b) = is_plain_byte b
is_plain_part (comment bytes line_end) = list_all (λ b. not (is_line_end b)) bytes && is_line_end line_end
is_plain_part (string letters) = are_letters letters
is_plain_part (hexadecimal bytes) = are_hexadecimal bytes
is_plain_part double_angle = true

abbrev pub has_plain_parts : Paired → Bool
has_plain_parts nothing = true
has_plain_parts (part p more) = is_plain_part p && has_plain_parts more
has_plain_parts (double_close more) = has_plain_parts more
has_plain_parts (braces inner more) = has_plain_parts inner && has_plain_parts more
has_plain_parts (brackets inner more) = has_plain_parts inner && has_plain_parts more

-- How deep it nests.
abbrev pub paired_depth : Paired → ℕ
paired_depth nothing = 0
paired_depth (part p more) = paired_depth more
paired_depth (double_close more) = paired_depth more
paired_depth (braces inner more) = max (1 + paired_depth inner) (paired_depth more)
paired_depth (brackets inner more) = max (1 + paired_depth inner) (paired_depth more)

-- Nothing, or a comment that the text ends.
abbrev pub is_last_comment : List ℕ → Bool
is_last_comment [] = true
is_last_comment (b ∷ s) = b == 37 && list_all (λ c. not (is_line_end c)) s

-- A text is such a spelling, and maybe a last comment.
pub record IsNested (s : List ℕ) : Type 0 where
  pub tree : Paired
  pub last : List ℕ
  pub plain : has_plain_parts tree ≡ true
  pub shallow : paired_depth tree ≤ most_nested
  pub ends : is_last_comment last ≡ true
  pub whole : s ≡ paired_text tree ++ last
