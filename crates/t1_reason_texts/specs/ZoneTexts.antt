-- What the texts of reasons of zones, stem widths and numbers of lists are made of. Their numbers count 10^-9.
use Rattle.std.specs.Prelude.{ℕ, ℤ, pos, ◌-ℤ◌, ◌*ℤ◌, int_le, int_lt, Bool, true, false, Option, Some, None, List, [], ◌++◌, codes, if◌then◌else◌}
use Rattle.std.specs.Int.{is_negative}
use Rattle.t1_rules.specs.declared.font_rules.zones.Edges.{Edges}
use Rattle.t1_reason_texts.specs.declared.decimals.Exact.{Exact}
use Rattle.t1_reason_texts.specs.declared.decimals.Unit.TheVariants.{Product, Value}
use Rattle.t1_reason_texts.specs.Decimals.{exact_text, text_in, value_of}
use Rattle.t1_reason_texts.specs.FontTexts.{value_text}
use Rattle.t1_rules.specs.declared.rule.Rule.{Rule}
use Rattle.t1_rules.specs.declared.rule.Rule.TheVariants.{F19, Z13, Z14, Z15, Z16}

-- Z15 speaks of two equal numbers.
abbrev pub says_twice : Rule → Bool
says_twice Z15 = true
says_twice _ = false

-- A number of a list. Z16 speaks of a standard width that has no snaps beside it: itself it would do as the only one, where it is a width.
unfoldable pub number_text : Rule → ℤ → List ℕ
number_text F19 number = value_text number ++ codes "; a whole number from 0 to 16777215 is needed"
number_text Z13 number = codes "the width is " ++ (value_text number ++ codes "; more than 0 is needed")
number_text Z14 number = value_text number ++ codes " is not whole"
number_text Z16 number =
    if int_lt (pos 0) number then codes "the standard width is " ++ (value_text number ++ (codes "; [" ++ (value_text number ++ codes "] would do")))
    else codes "the standard width is " ++ value_text number
number_text _ number = value_text number

-- The distance that zones keep.
abbrev pub needed_text : ℤ → List ℕ
needed_text distance = codes "; " ++ (text_in Value distance ++ codes " is needed")

abbrev pub gap_text : ℤ → ℤ → ℤ → List ℕ
gap_text upper lower distance =
    codes "from " ++ (value_text upper ++ (codes " to " ++ (value_text lower ++ (codes " is " ++ (text_in Value (lower -ℤ upper) ++ needed_text distance)))))

abbrev pub edges_text : Edges → List ℕ
edges_text edges = value_text edges.lower ++ (codes " to " ++ value_text edges.upper)

-- Where a zone lies that is so far below another one or above it, where that isn't negative; else they share a place.
abbrev pub apart_text : ℤ → ℤ → List ℕ
apart_text below above =
    if int_le (pos 0) below then codes "lies " ++ (text_in Value below ++ codes " below")
    else (if int_le (pos 0) above then codes "lies " ++ (text_in Value above ++ codes " above") else codes "overlaps")

unfoldable pub zones_text : Edges → Edges → List ℕ
zones_text own other =
    codes "zone " ++ (edges_text own ++ (codes " " ++ (apart_text (other.lower -ℤ own.upper) (own.lower -ℤ other.upper) ++ (codes " zone " ++ edges_text other))))

-- A zone's height times BlueScale.
unfoldable pub height_text : ℤ → ℤ → ℤ → List ℕ
height_text lower upper scale =
    codes "height " ++ (text_in Value (upper -ℤ lower)
    ++ (codes " times BlueScale " ++ (value_text scale ++ (codes " is " ++ text_in Product ((upper -ℤ lower) *ℤ scale)))))

unfoldable pub below_one : List ℕ
below_one = codes "; less than 1 is needed"

abbrev pub zone_text : ℤ → ℤ → ℤ → List ℕ
zone_text lower upper scale =
    codes "zone " ++ (value_text lower ++ (codes " to " ++ (value_text upper ++ (codes ", " ++ (height_text lower upper scale ++ below_one)))))

abbrev pub width_text : ℤ → ℤ → List ℕ
width_text width nearest = value_text width ++ (codes " is none of the snaps; " ++ (value_text nearest ++ codes " is nearest"))

-- The entry that would do with a number, where there is one; of the font's entries only one from 0 on would.
abbrev pub would_do : List ℕ → Option Exact → List ℕ
would_do entry None = []
would_do entry (Some number) = codes "; " ++ (entry ++ (codes " " ++ (exact_text number ++ codes " would do")))

abbrev pub from_zero : Option ℤ → Option Exact
from_zero None = None
from_zero (Some number) = if is_negative number then None else Some (value_of number)
