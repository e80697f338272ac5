-- Entries of the font's dictionary and of the Private one that are looked at alone (Type 1 Font Format, chapters 2 and 5).
use Rattle.std.specs.Prelude.{ℕ, ◌==◌, ◌&&◌, ◌||◌, Bool, false, not, nat_lt, ℤ, ◌*ℤ◌, List, [], ◌∷◌, length, int_lt}
use Rattle.std.specs.Ordering.{int_eq}
use Rattle.t1_font.specs.Values.{Value}
use Rattle.t1_rules.specs.FontRules.Hints.{number_at}
use Rattle.t1_rules.specs.FontRules.Ids.{is_whole_to}
use Rattle.t1_rules.specs.FontRules.Values.{count_in, first_in, is_absent, is_numbers, is_so_many, is_the_number}
use Rattle.t1_rules.specs.Keys.{xuid_limit}

-- The left edge is greater than the right one; or the lower than the upper.
abbrev pub are_exchanged : List ℤ → ℕ → Bool
are_exchanged (left ∷ (lower ∷ (right ∷ (upper ∷ [])))) index = (index == 0 && int_lt right left) || (index == 1 && int_lt upper lower)
are_exchanged _ index = false

abbrev pub has_corners_exchanged : Value → ℕ → Bool
has_corners_exchanged value index = is_so_many 4 value && are_exchanged (first_in 4 value) index

-- The entry is there, and has no number or isn't numbers.
abbrev pub is_malformed : Value → Bool
is_malformed value = not (is_absent value) && not (is_numbers value && nat_lt 0 (count_in value))

-- A number of an XUID isn't whole from 0 to 16777215.
abbrev pub has_number_past_range : Value → ℕ → Bool
has_number_past_range value index =
    nat_lt index (length (first_in xuid_limit value))
    && not (is_whole_to 16777215 (number_at (first_in xuid_limit value) index))

-- The entry is there, and is neither 0 nor 1.
abbrev pub is_no_group : Value → Bool
is_no_group value = not (is_absent value) && not (is_the_number 0 value || is_the_number 1 value)

-- A matrix of six numbers has an inverse unless the products of its diagonals are the same.
abbrev pub has_equal_products : List ℤ → Bool
has_equal_products (a ∷ (b ∷ (c ∷ (d ∷ more)))) = int_eq (a *ℤ d) (b *ℤ c)
has_equal_products _ = false

abbrev pub is_singular : Value → Bool
is_singular value = is_so_many 6 value && has_equal_products (first_in 6 value)
