-- Names as text on a terminal, which obeys the control characters from 128 to 159 too.
use Rattle.std.specs.Prelude.{ℕ, ◌&&◌, nat_le, nat_lt, List, ◌++◌, if◌then◌else◌}
use Rattle.std.specs.Char.{encode_utf8}
use Rattle.std.specs.List.{flat_map}
use Rattle.std.specs.Str.{chars}
use Rattle.t1_forms.specs.Shown.{escaped, shown}

-- A character. Those from 128 to 159 are written by the two bytes of their UTF-8, 194 and their number.
abbrev pub terminal_char : ℕ → List ℕ
terminal_char c = if nat_le 128 c && nat_lt c 160 then escaped 194 ++ escaped c else encode_utf8 c

-- A name as text: control bytes, and what isn't UTF-8, are written as `\xNN`, and `\` twice.
unfoldable pub terminal_name : List ℕ → List ℕ
terminal_name name = flat_map terminal_char (chars (shown name))
