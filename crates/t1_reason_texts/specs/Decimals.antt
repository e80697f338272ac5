-- Numbers as exact decimals.
use Rattle.std.specs.Prelude.{◌≡◌, ◌<◌, ℕ, zero, suc, ℤ, ◌+◌, ◌-◌, ◌*◌, ◌^◌, ◌-ℤ◌, ◌*ℤ◌, ◌/◌, ◌%◌, ◌==◌, List, [], ◌∷◌, ◌++◌, codes, if◌then◌else◌, length, unsigned_abs}
use Rattle.std.specs.Int.{is_negative}
use Rattle.std.specs.Fmt.{decimal, sign_text}
use Rattle.t1_char.specs.Numbers.{unit}
use Rattle.t1_reason_texts.specs.declared.decimals.Exact.{Exact}
use Rattle.t1_reason_texts.specs.declared.decimals.Unit.{Unit}
use Rattle.t1_reason_texts.specs.declared.decimals.Unit.TheVariants.{Area, Coordinate, Mean, Middle, OnCurve, Product, Value}
use Rattle.t1_rules.specs.declared.step_rules.flex.Point.{Point}

-- How many of a unit make one: a coordinate counts 1/65536, twice the middle of a stem 1/131072, the sum of two of these, which is four
-- times their mean, 1/262144, a number of a dictionary 10^-9, a product of two of these 10^-18, 64 times a coordinate 1/4194304, and twenty times an
-- area a twentieth of the square of 1/65536.
abbrev pub one_of : Unit → ℕ
one_of Coordinate = unit
one_of Middle = 131072
one_of Mean = 262144
one_of Value = 1000000000
one_of Product = 1000000000000000000
one_of OnCurve = 4194304
one_of Area = 85899345920

-- The decimal places of a part of one, as many as it has, so many at most.
unfoldable pub places : ℕ → ℕ → ℕ → List ℕ
places one zero rest = []
places one (suc n) rest = if rest == 0 then [] else decimal (rest * 10 / one) ++ places one n (rest * 10 % one)

-- After a point; nothing where there is no part. Areas have 34 places at most, the others have fewer.
abbrev pub most_places : ℕ
most_places = 34

abbrev pub fraction : ℕ → ℕ → List ℕ
fraction one rest = if rest == 0 then [] else codes "." ++ places one most_places rest

unfoldable pub decimal_by : ℕ → ℤ → List ℕ
decimal_by one number =
    sign_text (is_negative number)
    ++ (decimal (unsigned_abs number / one) ++ fraction one (unsigned_abs number % one))

abbrev pub text_in : Unit → ℤ → List ℕ
text_in counted number = decimal_by (one_of counted) number

abbrev pub exact_text : Exact → List ℕ
exact_text exact = text_in exact.unit exact.number

abbrev pub in_unit : Unit → ℤ → Exact
in_unit counted number = record { number = number; unit = counted }

-- A coordinate, a number of a dictionary, how far one of these is above another, and the same times a third.
abbrev pub coordinate_of : ℤ → Exact
coordinate_of number = in_unit Coordinate number

abbrev pub value_of : ℤ → Exact
value_of number = in_unit Value number

abbrev pub difference_of : ℤ → ℤ → Exact
difference_of above below = in_unit Value (above -ℤ below)

abbrev pub product_of : ℤ → ℤ → ℤ → Exact
product_of above below scale = in_unit Product ((above -ℤ below) *ℤ scale)

abbrev pub coordinate_text : ℤ → List ℕ
coordinate_text number = decimal_by unit number

-- The coordinates of a point, with a blank between.
abbrev pub point_text : Point → List ℕ
point_text point = coordinate_text point.x ++ (codes " " ++ coordinate_text point.y)

-- The number that digits are.
abbrev pub digits_value : List ℕ → ℕ
digits_value [] = 0
digits_value (digit ∷ digits) = (digit - 48) * 10 ^ length digits + digits_value digits

-- The decimal places that a part of one is written with are this part, exactly.
abbrev pub PlacesAreExact : Type 0
PlacesAreExact =
    (counted : Unit) (rest : ℕ) → rest < one_of counted →
    digits_value (places (one_of counted) most_places rest) * one_of counted ≡ rest * 10 ^ length (places (one_of counted) most_places rest)
