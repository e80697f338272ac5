-- What the rules say of one list at an index: each rule with its test, and which of them are broken.
use Rattle.std.specs.Prelude.{ℕ, ◌==◌, ◌&&◌, Bool, true, false, List, [], ◌∷◌}
use Rattle.std.specs.List.{list_any}
use Rattle.t1_font.specs.declared.key.Key.{Key}
use Rattle.t1_font.specs.declared.key.Key.TheVariants.{BlueValues, FontMatrix}
use Rattle.t1_font.specs.Fonts.{FontValue, is_key_twice}
use Rattle.t1_rules.specs.declared.rule.Rule.{Rule}
use Rattle.t1_rules.specs.declared.rule.Rule.TheVariants.{Z01, Z02, Z03, Z04, Z05, Z06, Z07, Z08, Z09, Z10, Z11, Z12, Z13, Z14, Z15, Z16, F23, F27}
use Rattle.t1_rules.specs.Book.{number_of}
use Rattle.t1_rules.specs.Keys.{value_at}
use Rattle.t1_rules.specs.FontRules.Dictionaries.{is_singular}
use Rattle.t1_rules.specs.FontRules.Values.{first_in, is_absent}
use Rattle.t1_rules.specs.FontRules.Hints.{is_of_another_kind, numbers_at, has_too_many, falls_at, has_fraction_at, repeats_at}
use Rattle.t1_rules.specs.FontRules.Zones.{has_odd_count, distance, scale, is_too_near, meets, is_too_high}
use Rattle.t1_rules.specs.FontRules.Stems.{is_not_above_zero, is_not_one_width, is_not_among, lacks_snap}

-- Of rules, each with whether it is broken, the one of this number is.
abbrev pub broken_among : List (Rule × Bool) → ℕ → Bool
broken_among tests n = list_any (λ t. t.1 && number_of t.0 == n) tests

-- Of a list of zones, of which it is known whether a zone meets another list's here.
abbrev pub zone_tests : FontValue → Key → Bool → ℕ → List (Rule × Bool)
zone_tests font k meeting index =
    (Z01, is_of_another_kind k (value_at font k) index)
    ∷ (Z02, has_too_many k (value_at font k) index)
    ∷ (Z03, has_odd_count (value_at font k) index)
    ∷ (Z04, falls_at (numbers_at font k) index)
    ∷ (Z05, is_too_near (distance font) (numbers_at font k) index)
    ∷ (Z06, meeting)
    ∷ (Z07, is_too_high (scale font) (numbers_at font k) index)
    ∷ []

-- No zone of a list of high zones meets one of another list, since this is said of the low zones.
abbrev pub high_zone_tests : FontValue → Key → ℕ → List (Rule × Bool)
high_zone_tests font k index = zone_tests font k false index

-- Of a list of low zones, beside the high ones that they must not meet.
abbrev pub low_zone_tests : FontValue → Key → Key → ℕ → List (Rule × Bool)
low_zone_tests font low high index =
    zone_tests font low (meets (distance font) (numbers_at font low) (numbers_at font high) index) index

-- Of an entry that is a number.
abbrev pub number_tests : FontValue → Key → ℕ → List (Rule × Bool)
number_tests font k index = (Z01, is_of_another_kind k (value_at font k) index) ∷ []

-- Of a standard width.
abbrev pub width_tests : FontValue → Key → ℕ → List (Rule × Bool)
width_tests font k index =
    (Z01, is_of_another_kind k (value_at font k) index)
    ∷ (Z08, index == 0 && is_not_one_width (value_at font k))
    ∷ []

-- Beside the standard width of the same direction.
abbrev pub snap_tests : FontValue → Key → Key → ℕ → List (Rule × Bool)
snap_tests font k width index =
    (Z01, is_of_another_kind k (value_at font k) index)
    ∷ (Z09, has_too_many k (value_at font k) index)
    ∷ (Z10, falls_at (numbers_at font k) index)
    ∷ (Z11, index == 0 && is_not_among (first_in 1 (value_at font width)) (numbers_at font k))
    ∷ []

-- ---- by the later rules

-- Of a list of zones.
abbrev pub whole_tests : FontValue → Key → ℕ → List (Rule × Bool)
whole_tests font k index = (Z14, has_fraction_at (numbers_at font k) index) ∷ []

-- Of BlueValues.
abbrev pub blue_tests : FontValue → ℕ → List (Rule × Bool)
blue_tests font index = (Z12, index == 0 && is_absent (value_at font BlueValues)) ∷ whole_tests font BlueValues index

-- Of a standard width.
abbrev pub sign_tests : FontValue → Key → ℕ → List (Rule × Bool)
sign_tests font k index = (Z13, index == 0 && is_not_above_zero (first_in 1 (value_at font k))) ∷ []

-- Of a list of stem snaps.
abbrev pub later_snap_tests : FontValue → Key → Key → ℕ → List (Rule × Bool)
later_snap_tests font k width index =
    (Z15, repeats_at (numbers_at font k) index)
    ∷ (Z16, index == 0 && lacks_snap (first_in 1 (value_at font width)) (value_at font k))
    ∷ []

-- ---- by the latest

abbrev pub is_matrix : Key → Bool
is_matrix FontMatrix = true
is_matrix _ = false

-- Of a plain key.
abbrev pub repeated_tests : FontValue → Key → ℕ → List (Rule × Bool)
repeated_tests font k index =
    (F23, index == 0 && is_key_twice font k)
    ∷ (F27, is_matrix k && (index == 0 && is_singular (value_at font k)))
    ∷ []
