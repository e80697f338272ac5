-- What was stated before a turn.
use Rattle.std.specs.Prelude.{Option, Some, None}
use Rattle.std.specs.Borrow.{Bor}
use Rattle.t1_font.specs.Fonts.{FontValue}
use Rattle.t1_font.specs.Rows.{nothing_stated}

-- What is stated so far, or nothing.
abbrev pub stated_in : Option (Bor FontValue) → FontValue
stated_in (Some font) = font.now
stated_in None = nothing_stated
