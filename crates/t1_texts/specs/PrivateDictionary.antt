-- The Private dictionary: `/Private 16 dict dup begin`, ahead of the Subrs and of the CharStrings. Type 1 Font Format 1.1, chapter 2.
use Rattle.std.specs.Prelude.{ℕ, Bool, true, false, Option, Some, None, List, [], ◌∷◌, ◌&&◌, ◌||◌, if◌then◌else◌, codes, nat_le}
use Rattle.t1_font.specs.declared.row.Role.{Role}
use Rattle.t1_font.specs.declared.row.Role.TheVariants.{List as ListName}
use Rattle.t1_font.specs.Rows.{RowToken, after_first}
use Rattle.t1_font.specs.Tokens.{spells, whole}
use Rattle.t1_texts.specs.Given.{names}

-- Of the next token, if there is one.
abbrev pub next_is : (RowToken → Bool) → List RowToken → Bool
next_is test [] = false
next_is test (t ∷ ts) = test t

-- The next tokens are such, one right behind the other.
abbrev pub follow : List (RowToken → Bool) → List RowToken → Bool
follow [] row = true
follow (test ∷ tests) row = next_is test row && follow tests (after_first row)

abbrev pub is_word : List ℕ → RowToken → Bool
is_word word t = spells word t.kind t.text

-- A whole number of 1 or more, by its value.
abbrev pub is_some_count : Option ℕ → Bool
is_some_count None = false
is_some_count (Some n) = nat_le 1 n

abbrev pub is_count : RowToken → Bool
is_count t = is_some_count (whole t.kind)

abbrev pub begins_private : List RowToken → Bool
begins_private row = follow (names (codes "Private") ∷ is_count ∷ is_word (codes "dict") ∷ is_word (codes "dup") ∷ is_word (codes "begin") ∷ []) row

abbrev pub begins_list : Role → Bool
begins_list ListName = true
begins_list _ = false

-- The dictionary begins somewhere before the first list.
abbrev pub has_private : List RowToken → Bool
has_private [] = false
has_private (t ∷ ts) = if begins_list t.role then false else begins_private (t ∷ ts) || has_private ts
