-- How wide a text is.
use Rattle.std.specs.Prelude.{ℕ, Bool, ◌||◌, nat_le, nat_lt, List}
use Rattle.std.specs.List.{count_by}

-- A byte that a character begins with: 128 to 191 are the later bytes of a sequence of UTF-8.
abbrev pub begins_character : ℕ → Bool
begins_character byte = nat_lt byte 128 || nat_le 192 byte

-- Its characters.
abbrev pub width_of : List ℕ → ℕ
width_of text = count_by begins_character text
