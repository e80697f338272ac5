-- The lenIV of a font (Type 1 Font Format, chapter 7): a whole number from -1 to 64, and 4 where the
-- font says nothing.
use Rattle.std.specs.Prelude.{ℤ, pos, negsuc, ◌&&◌, if◌then◌else◌, int_div, int_le}
use Rattle.t1_font.specs.Values.{Value, number}
use Rattle.t1_font.specs.Bounds.{greatest_len_iv}
use Rattle.t1_scan.specs.Numbers.{billion}

-- The whole of a number of billionths.
abbrev pub whole_part : ℤ → ℤ
whole_part z = int_div z (pos billion)

unfoldable pub len_iv_of : Value → ℤ
len_iv_of (number z) =
    if int_le (negsuc 0) (whole_part z) && int_le (whole_part z) (pos greatest_len_iv) then whole_part z else pos 4
len_iv_of _ = pos 4
