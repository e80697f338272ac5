-- The hint entries of the Private dictionary (Type 1 Font Format, chapter 5): numbers, and lists of numbers.
use Rattle.std.specs.Prelude.{ℕ, ◌-◌, ◌==◌, ◌&&◌, ◌||◌, Bool, not, nat_lt, ℤ, pos, List, [], ◌∷◌, length, slice_index_or, int_le, int_lt}
use Rattle.std.specs.Ordering.{int_eq}
use Rattle.t1_font.specs.declared.key.Key.{Key}
use Rattle.t1_font.specs.declared.key.Key.TheVariants.{BlueValues, OtherBlues, FamilyBlues, FamilyOtherBlues, BlueScale, BlueShift, BlueFuzz, StdHw, StdVw, StemSnapH, StemSnapV}
use Rattle.t1_font.specs.Fonts.{FontValue}
use Rattle.t1_font.specs.Values.{Value}
use Rattle.t1_rules.specs.Keys.{list_limit_of, value_at}
use Rattle.t1_rules.specs.FontRules.Ids.{is_whole_to}
use Rattle.t1_rules.specs.FontRules.Values.{is_absent, is_one_number, is_numbers, is_whole, count_in, first_in}

-- All entries whose kind is tested.
abbrev pub hint_keys : List Key
hint_keys =
    BlueValues ∷ OtherBlues ∷ FamilyBlues ∷ FamilyOtherBlues ∷ BlueScale ∷ BlueShift ∷ BlueFuzz
    ∷ StdHw ∷ StdVw ∷ StemSnapH ∷ StemSnapV ∷ []

-- The value is of the kind that a hint entry has: a number, or numbers.
abbrev pub is_of_kind : Key → Value → Bool
is_of_kind BlueScale value = is_one_number value
is_of_kind BlueShift value = is_one_number value
is_of_kind BlueFuzz value = is_one_number value
is_of_kind _ value = is_numbers value

-- The entry is there, and of another kind.
abbrev pub is_of_another_kind : Key → Value → ℕ → Bool
is_of_another_kind k value index = index == 0 && not (is_absent value) && not (is_of_kind k value)

-- There are more numbers than the limit; this is the first place that is too much.
abbrev pub has_too_many : Key → Value → ℕ → Bool
has_too_many k value index = index == list_limit_of k && nat_lt (list_limit_of k) (count_in value)

-- The numbers of a list that are looked at: the first ones, up to its limit.
abbrev pub numbers_at : FontValue → Key → List ℤ
numbers_at font k = first_in (list_limit_of k) (value_at font k)

-- The number at a place.
abbrev pub number_at : List ℤ → ℕ → ℤ
number_at v index = slice_index_or v index (pos 0)

-- A number follows another here, and is less.
abbrev pub falls_at : List ℤ → ℕ → Bool
falls_at v index = nat_lt 0 index && nat_lt index (length v) && int_lt (number_at v index) (number_at v (index - 1))

-- A number here has a fraction.
abbrev pub has_fraction_at : List ℤ → ℕ → Bool
has_fraction_at v index = nat_lt index (length v) && not (is_whole (number_at v index))

-- A number follows an equal one here.
abbrev pub repeats_at : List ℤ → ℕ → Bool
repeats_at v index = nat_lt 0 index && nat_lt index (length v) && int_eq (number_at v index) (number_at v (index - 1))

-- BlueScale is 0 or less, or above 0.5.
abbrev pub is_past_scales : ℤ → Bool
is_past_scales z = int_le z (pos 0) || int_lt (pos 500000000) z

-- BlueShift is negative, or has a fraction.
abbrev pub is_past_shifts : ℤ → Bool
is_past_shifts z = int_lt z (pos 0) || not (is_whole z)

-- BlueFuzz is none of the whole numbers from 0 to 10.
abbrev pub is_past_fuzzes : ℤ → Bool
is_past_fuzzes z = not (is_whole_to 10 z)
