-- What faults are counted by: a rule, and the unit in which it is broken. Rows of known faults name it by a text.
use Rattle.std.specs.Prelude.{ℕ, ◌&&◌, nat_eq, Bool, false, List, [], ◌∷◌, ◌++◌, codes}
use Rattle.std.specs.List.{concat}
use Rattle.std.specs.Str.{bytes_eq}
use Rattle.t1_font.specs.Fonts.{FontValue}
use Rattle.t1_lines.specs.Lines.{FaultLineValue, PlaceValue, at_key, at_step, at_waiver, line_in}
use Rattle.t1_many.specs.declared.kinds.Kind.{Kind}
use Rattle.t1_many.specs.declared.kinds.KindUnit.{KindUnit}
use Rattle.t1_many.specs.declared.kinds.KindUnit.TheVariants as units
use Rattle.t1_report.specs.Faults.{FaultValue}
use Rattle.t1_report.specs.Waivers.{Waiver}
use Rattle.t1_rules.specs.Book.{code_of, number_of}
use Rattle.t1_rules.specs.Keys.{key_text_of}
use Rattle.t1_rules.specs.declared.rule.Rule.{Rule}

-- A key of the font by its number, a glyph by its name, or a waiver by its name and its rule.
pub data UnitValue : Type 0 where
  of_key : ℕ → UnitValue
  of_glyph : List ℕ → UnitValue
  of_waiver : List ℕ → Rule → UnitValue

-- A rule, and the unit in which it is broken.
pub record KindValue : Type 0 where
  pub rule : Rule
  pub unit : UnitValue

-- ---- of the program

abbrev pub unit_value : KindUnit → UnitValue
unit_value (units.Key key) = of_key key
unit_value (units.Glyph name) = of_glyph name.now
unit_value (units.Waiver name rule) = of_waiver name.now rule

abbrev pub kind_value : Kind → KindValue
kind_value kind = record { rule = kind.rule; unit = unit_value kind.unit }

-- ---- of faults

-- The unit of a place.
abbrev pub unit_of : PlaceValue → UnitValue
unit_of (at_key key index) = of_key key
unit_of (at_step name path step) = of_glyph name
unit_of (at_waiver name waived) = of_waiver name waived

-- What the line of a fault is counted by.
abbrev pub counted_by : FaultLineValue → KindValue
counted_by l = record { rule = l.rule; unit = unit_of l.place }

-- What a fault of a font is counted by.
abbrev pub counted_in : FontValue → List Waiver → FaultValue → KindValue
counted_in font waivers fault = counted_by (line_in font waivers fault)

-- ---- the text

-- ` font KEY`, ` glyph NAME` or ` waiver NAME RULE`.
abbrev pub unit_text : UnitValue → List ℕ
unit_text (of_key key) = concat (codes " font " ∷ key_text_of key ∷ [])
unit_text (of_glyph name) = concat (codes " glyph " ∷ name ∷ [])
unit_text (of_waiver name waived) = concat (codes " waiver " ∷ name ∷ codes " " ∷ code_of waived ∷ [])

-- The rule's code, and its unit after it.
abbrev pub kind_text : KindValue → List ℕ
kind_text kind = code_of kind.rule ++ unit_text kind.unit

-- ---- two kinds

abbrev pub same_unit : UnitValue → UnitValue → Bool
same_unit (of_key a) (of_key b) = nat_eq a b
same_unit (of_key a) (of_glyph b) = false
same_unit (of_key a) (of_waiver b q) = false
same_unit (of_glyph a) (of_key b) = false
same_unit (of_glyph a) (of_glyph b) = bytes_eq a b
same_unit (of_glyph a) (of_waiver b q) = false
same_unit (of_waiver a p) (of_key b) = false
same_unit (of_waiver a p) (of_glyph b) = false
same_unit (of_waiver a p) (of_waiver b q) = bytes_eq a b && nat_eq (number_of p) (number_of q)

-- They are of one rule and of one unit.
abbrev pub same_kind : KindValue → KindValue → Bool
same_kind a b = nat_eq (number_of a.rule) (number_of b.rule) && same_unit a.unit b.unit
