-- The kinds of bytes in font text: PostScript's, as Type 1 Font Format uses it (chapters 2 and 10).
use Rattle.std.specs.Prelude.{ℕ, Bool, ◌==◌, ◌||◌, ◌&&◌, not, nat_le}

-- line feed, carriage return
abbrev pub is_line_end : ℕ → Bool
is_line_end b = b == 10 || b == 13

-- null, tab, line feed, form feed, carriage return, space
abbrev pub is_blank : ℕ → Bool
is_blank b = b == 0 || b == 9 || b == 10 || b == 12 || b == 13 || b == 32

-- ( ) < > [ ] { } / %
abbrev pub is_delimiter : ℕ → Bool
is_delimiter b =
    b == 40 || b == 41 || b == 60 || b == 62 || b == 91 || b == 93 || b == 123 || b == 125 || b == 47
    || b == 37

-- all other bytes
abbrev pub is_regular : ℕ → Bool
is_regular b = not (is_blank b || is_delimiter b)

-- 0 to 9
abbrev pub is_decimal_digit : ℕ → Bool
is_decimal_digit b = nat_le 48 b && nat_le b 57
