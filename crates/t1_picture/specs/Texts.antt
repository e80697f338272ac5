-- Lines in the picture.
use Rattle.std.specs.Prelude.{ℕ, ◌-◌, List, length, take}
use Rattle.t1_forms.specs.Xml.{legible}

-- A line as text that XML can hold, without its end.
abbrev pub legible_line : List ℕ → List ℕ
legible_line line = legible (take (length line - 1) line)
