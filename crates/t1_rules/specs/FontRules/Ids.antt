-- UniqueIDs (Type 1 Font Format, chapters 2 and 5).
use Rattle.std.specs.Prelude.{ℕ, ◌*◌, ◌%◌, ◌==◌, ◌&&◌, Bool, false, not, nat_le, ℤ, pos, negsuc, List, [], ◌∷◌}
use Rattle.std.specs.Ordering.{int_eq}
use Rattle.t1_font.specs.declared.key.Key.{Key}
use Rattle.t1_font.specs.declared.key.Key.TheVariants.{UniqueId, PrivateUniqueId}
use Rattle.t1_font.specs.Fonts.{FontValue}
use Rattle.t1_font.specs.Values.{Value, absent, number, numbers, other}
use Rattle.t1_rules.specs.Keys.{value_at}
use Rattle.t1_rules.specs.FontRules.Values.{is_absent}
use Rattle.t1_scan.specs.Numbers.{billion}

-- The two UniqueIDs, that of the clear text and that of the Private dictionary.
abbrev pub id_keys : List Key
id_keys = UniqueId ∷ PrivateUniqueId ∷ []

-- A whole number from 0 to the limit.
abbrev pub is_whole_to : ℕ → ℤ → Bool
is_whole_to limit (pos n) = n % billion == 0 && nat_le n (limit * billion)
is_whole_to limit (negsuc n) = false

-- The value is a whole number from 0 to the limit.
abbrev pub is_whole_number_to : ℕ → Value → Bool
is_whole_number_to limit absent = false
is_whole_number_to limit (number z) = is_whole_to limit z
is_whole_number_to limit (numbers count first) = false
is_whole_number_to limit other = false

-- It is there, and no whole number from 0 to 16777215.
abbrev pub is_past_range : Value → Bool
is_past_range value = not (is_absent value) && not (is_whole_number_to 16777215 value)

-- Two numbers that differ.
abbrev pub differ : Value → Value → Bool
differ (number a) (number b) = not (int_eq a b)
differ _ _ = false

-- The two UniqueIDs are numbers that differ.
abbrev pub ids_differ : FontValue → Bool
ids_differ font = differ (value_at font UniqueId) (value_at font PrivateUniqueId)
