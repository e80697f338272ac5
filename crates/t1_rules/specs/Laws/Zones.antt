-- Laws of lists of numbers and of zones.
use Rattle.std.specs.Prelude.{◌≡◌, ℕ, suc, int_lt, int_le, ◌*ℤ◌, ◌+◌, ◌*◌, ◌<◌, ◌≤◌, ◌⊎◌, ◌↔◌, false, ℤ, ◌-ℤ◌, ◌≤ℤ◌, Some, None, List, length, slice_get}
use Rattle.std.specs.List.{AllPairs, list_any}
use Rattle.t1_rules.specs.FontRules.Values.{product_one}
use Rattle.t1_rules.specs.FontRules.Hints.{number_at, falls_at}
use Rattle.t1_rules.specs.FontRules.Zones.{Zone, zones, come_near, is_too_near, meets, is_too_high}

-- Where no number is less than the one before it, none is less than any before it; and only there.
abbrev pub ListsRiseWhereNoneFalls : Type 0
ListsRiseWhereNoneFalls = (v : List ℤ) → ((index : ℕ) → falls_at v index ≡ false) ↔ AllPairs ◌≤ℤ◌ v

-- Zone j is the numbers 2j and 2j + 1, where both are there.
abbrev pub ZonesArePairs : Type 0
ZonesArePairs =
    (v : List ℤ) (j : ℕ) → 2 * j + 1 < length v →
    slice_get (zones v) j ≡ Some (record { lower = number_at v (2 * j); upper = number_at v (2 * j + 1) })

-- There is no other zone.
abbrev pub NoZoneIsPastPairs : Type 0
NoZoneIsPastPairs = (v : List ℤ) (j : ℕ) → length v ≤ 2 * j + 1 → slice_get (zones v) j ≡ None

-- A zone of a list, by its place among them.
abbrev pub ZoneAt : List ℤ → ℕ → Zone → Type 0
ZoneAt v j z = slice_get (zones v) j ≡ Some z

-- At the lower edge of a zone that follows another: it is nearer to that one than the distance.
abbrev pub ZonesAreNearTheOneBefore : Type 0
ZonesAreNearTheOneBefore =
    (d : ℤ) (v : List ℤ) (j : ℕ) (z w : Zone) → ZoneAt v j z → ZoneAt v (suc j) w →
    is_too_near d v (2 * suc j) ≡ int_lt (w.lower -ℤ z.upper) d

-- At the lower edge of a zone: it comes near to a zone of the other list.
abbrev pub ZonesMeetOneOfTheOthers : Type 0
ZonesMeetOneOfTheOthers =
    (d : ℤ) (v others : List ℤ) (j : ℕ) (z : Zone) → ZoneAt v j z →
    meets d v others (2 * j) ≡ list_any (come_near d z) (zones others)

-- At the upper edge of a zone: its height times BlueScale is 1 or more.
abbrev pub ZonesReachOne : Type 0
ZonesReachOne =
    (s : ℤ) (v : List ℤ) (j : ℕ) (z : Zone) → ZoneAt v j z →
    is_too_high s v (2 * j + 1) ≡ int_le product_one ((z.upper -ℤ z.lower) *ℤ s)

-- Two zones are apart where one lies the distance, or more, above the other.
abbrev pub ZonesAreApartWhereOneIsAbove : Type 0
ZonesAreApartWhereOneIsAbove =
    (d : ℤ) (z w : Zone) → (come_near d z w ≡ false)
    ↔ ((d ≤ℤ (w.lower -ℤ z.upper)) ⊎ (d ≤ℤ (z.lower -ℤ w.upper)))

-- It is the same whichever zone is looked at first.
abbrev pub ZonesAreNearBothWays : Type 0
ZonesAreNearBothWays = (d : ℤ) (z w : Zone) → come_near d z w ≡ come_near d w z
