-- Alignment zones (Type 1 Font Format, chapter 5): pairs of numbers, a lower and an upper edge.
use Rattle.std.specs.Prelude.{ℕ, ◌+◌, ◌-◌, ◌%◌, ◌==◌, ◌&&◌, Bool, nat_lt, ℤ, pos, ◌+ℤ◌, ◌-ℤ◌, ◌*ℤ◌, List, [], ◌∷◌, length, int_lt, int_le}
use Rattle.std.specs.List.{list_any}
use Rattle.t1_font.specs.declared.key.Key.{Key}
use Rattle.t1_font.specs.declared.key.Key.TheVariants.{BlueValues, OtherBlues, FamilyBlues, FamilyOtherBlues, BlueScale, BlueFuzz}
use Rattle.t1_font.specs.Fonts.{FontValue}
use Rattle.t1_font.specs.Values.{Value}
use Rattle.t1_rules.specs.Keys.{value_at}
use Rattle.t1_rules.specs.FontRules.Values.{product_one, whole, number_or, count_in}
use Rattle.t1_rules.specs.FontRules.Hints.{number_at, numbers_at}

-- The lists of zones.
abbrev pub zone_keys : List Key
zone_keys = BlueValues ∷ OtherBlues ∷ FamilyBlues ∷ FamilyOtherBlues ∷ []

-- The lists of low zones, each beside one of high zones.
abbrev pub low_zone_keys : List Key
low_zone_keys = OtherBlues ∷ FamilyOtherBlues ∷ []

-- The list of high zones beside a list of low ones.
abbrev pub high_of : Key → Key
high_of OtherBlues = BlueValues
high_of FamilyOtherBlues = FamilyBlues
high_of k = k

-- The count is of all numbers, those past the limit too.
abbrev pub has_odd_count : Value → ℕ → Bool
has_odd_count value index = index == 0 && count_in value % 2 == 1

pub record Zone : Type 0 where
  pub lower : ℤ
  pub upper : ℤ

-- The zones of a list of numbers. A last one that has no second number is none.
abbrev pub zones : List ℤ → List Zone
zones [] = []
zones (a ∷ []) = []
zones (a ∷ (b ∷ v)) = record { lower = a; upper = b } ∷ zones v

-- The distance that zones keep, in billionths: twice BlueFuzz and one. BlueFuzz is 1 where it isn't a number.
abbrev pub distance : FontValue → ℤ
distance font = (pos 2 *ℤ number_or (whole 1) (value_at font BlueFuzz)) +ℤ whole 1

-- BlueScale in billionths; it is 0.039625 where it isn't a number.
abbrev pub scale : FontValue → ℤ
scale font = number_or (pos 39625000) (value_at font BlueScale)

-- A zone's first number is here.
abbrev pub begins_zone : List ℤ → ℕ → Bool
begins_zone v index = index % 2 == 0 && nat_lt (index + 1) (length v)

-- A zone that begins here is nearer to the one before it than the distance.
abbrev pub is_too_near : ℤ → List ℤ → ℕ → Bool
is_too_near d v index = nat_lt 0 index && begins_zone v index && int_lt (number_at v index -ℤ number_at v (index - 1)) d

-- Two zones are nearer to one another than the distance, whichever is the lower one.
abbrev pub come_near : ℤ → Zone → Zone → Bool
come_near d z w = int_lt (w.lower -ℤ z.upper) d && int_lt (z.lower -ℤ w.upper) d

-- A zone that begins here comes near to one of the other list.
abbrev pub meets : ℤ → List ℤ → List ℤ → ℕ → Bool
meets d v others index =
    begins_zone v index
    && list_any (come_near d (record { lower = number_at v index; upper = number_at v (index + 1) })) (zones others)

-- A low zone that begins here comes near to a high one.
abbrev pub comes_near_high : FontValue → Key → ℕ → Bool
comes_near_high font k index = meets (distance font) (numbers_at font k) (numbers_at font (high_of k)) index

-- The height of the zone that ends here, times BlueScale, is 1 or more.
abbrev pub is_too_high : ℤ → List ℤ → ℕ → Bool
is_too_high s v index =
    index % 2 == 1 && nat_lt index (length v)
    && int_le product_one ((number_at v index -ℤ number_at v (index - 1)) *ℤ s)
