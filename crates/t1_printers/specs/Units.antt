-- Units of a font that lines are at: a key, a glyph or a waiver.
use Rattle.std.specs.Prelude.{ℕ, ◌==◌, ◌&&◌, Bool, true, not, if◌then◌else◌, List, [], ◌∷◌, ◌++◌, Option, None, Some}
use Rattle.t1_printers.specs.declared.unit.UnitNumber.{UnitNumber}

-- A unit by its numbers, with its name as it is shown.
pub record NamedUnit : Type 0 where
  pub number : UnitNumber
  pub name : List ℕ

-- A line begins a run of lines at one unit, unless the last line before is at the same unit.
abbrev pub begins_run : Option UnitNumber → UnitNumber → Bool
begins_run None number = true
begins_run (Some last) number = not (last.unit == number.unit && last.part == number.part)

-- The names of the units of lines after a last one: a name for each run of lines at one unit.
abbrev pub names_after : Option UnitNumber → List NamedUnit → List (List ℕ)
names_after last [] = []
names_after last (u ∷ units) = (if begins_run last u.number then u.name ∷ [] else []) ++ names_after (Some u.number) units

abbrev pub names_of : List NamedUnit → List (List ℕ)
names_of units = names_after None units
