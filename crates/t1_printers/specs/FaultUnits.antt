-- The unit that a fault is at.
use Rattle.std.specs.Prelude.{List, ℕ, [], ◌∷◌, codes}
use Rattle.std.specs.List.{concat}
use Rattle.t1_printers.specs.declared.unit.UnitNumber.{UnitNumber}
use Rattle.t1_report.specs.Faults.{FaultValue}
use Rattle.t1_lines.specs.Lines.{PlaceValue, at_key, at_step, at_waiver}
use Rattle.t1_rules.specs.Book.{code_of}
use Rattle.t1_rules.specs.Keys.{key_text_of}
use Rattle.t1_rules.specs.declared.rule.Rule.{Rule}

-- The numbers of the unit that a fault is at, by its place.
abbrev pub unit_number : FaultValue → PlaceValue → UnitNumber
unit_number fault (at_key key index) = record { unit = 0; part = key }
unit_number fault (at_step name path step) = record { unit = fault.unit; part = 0 }
unit_number fault (at_waiver name rule) = record { unit = fault.unit; part = fault.step }

-- `NAME RULE`.
abbrev pub waiver_name : List ℕ → Rule → List ℕ
waiver_name name rule = concat (name ∷ codes " " ∷ code_of rule ∷ [])

-- The name of the key, the glyph or the waiver.
abbrev pub unit_name : PlaceValue → List ℕ
unit_name (at_key key index) = key_text_of key
unit_name (at_step name path step) = name
unit_name (at_waiver name rule) = waiver_name name rule
