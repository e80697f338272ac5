-- Standard widths and stem snaps (Type 1 Font Format, chapter 5).
use Rattle.std.specs.Prelude.{◌==◌, ◌&&◌, Bool, false, not, ℤ, pos, List, [], ◌∷◌, int_le}
use Rattle.std.specs.List.{list_any}
use Rattle.std.specs.Ordering.{int_eq}
use Rattle.t1_font.specs.declared.key.Key.{Key}
use Rattle.t1_font.specs.declared.key.Key.TheVariants.{StdHw, StdVw, StemSnapH, StemSnapV}
use Rattle.t1_font.specs.Fonts.{FontValue}
use Rattle.t1_font.specs.Values.{Value}
use Rattle.t1_rules.specs.Keys.{value_at}
use Rattle.t1_rules.specs.FontRules.Values.{is_numbers, is_so_many, count_in, first_in}
use Rattle.t1_rules.specs.FontRules.Hints.{numbers_at}

-- The standard widths.
abbrev pub width_keys : List Key
width_keys = StdHw ∷ StdVw ∷ []

-- The lists of stem snaps.
abbrev pub snap_keys : List Key
snap_keys = StemSnapH ∷ StemSnapV ∷ []

-- The standard width beside a list of stem snaps.
abbrev pub width_of : Key → Key
width_of StemSnapH = StdHw
width_of StemSnapV = StdVw
width_of k = k

-- Numbers, and not one.
abbrev pub is_not_one_width : Value → Bool
is_not_one_width value = is_numbers value && not (count_in value == 1)

-- There are snaps, and the first width isn't one of them.
abbrev pub is_not_among : List ℤ → List ℤ → Bool
is_not_among [] snaps = false
is_not_among (width ∷ widths) [] = false
is_not_among (width ∷ widths) (snap ∷ snaps) = not (list_any (int_eq width) (snap ∷ snaps))

-- The first number of the standard width isn't one of the snaps beside it.
abbrev pub width_is_apart : FontValue → Key → Bool
width_is_apart font k = is_not_among (first_in 1 (value_at font (width_of k))) (numbers_at font k)

-- The first width is 0 or less.
abbrev pub is_not_above_zero : List ℤ → Bool
is_not_above_zero [] = false
is_not_above_zero (width ∷ widths) = int_le width (pos 0)

-- There is a width, and a list of stem snaps without a number.
abbrev pub lacks_snap : List ℤ → Value → Bool
lacks_snap [] value = false
lacks_snap (width ∷ widths) value = is_so_many 0 value

-- A list of stem snaps without a number, beside a standard width.
abbrev pub has_no_snap : FontValue → Key → Bool
has_no_snap font k = lacks_snap (first_in 1 (value_at font (width_of k))) (value_at font k)
