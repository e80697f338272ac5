-- Lines of a font that were handed on, rule by rule.
use Rattle.std.specs.Prelude.{ℕ, ◌==◌, filter, if◌then◌else◌, List, [], ◌∷◌, Option, None, Bool, true, false, length, map}
use Rattle.std.specs.List.{flat_map}
use Rattle.t1_font.specs.Fonts.{FontValue}
use Rattle.t1_printers.specs.FaultUnits.{unit_name, unit_number}
use Rattle.t1_printers.specs.TerminalNames.{terminal_name}
use Rattle.t1_printers.specs.Units.{NamedUnit, names_of}
use Rattle.t1_many.specs.Reasons.{told_text}
use Rattle.t1_report.specs.Checked.{CheckedFont}
use Rattle.t1_report.specs.Faults.{FaultValue}
use Rattle.t1_lines.specs.Lines.{place_in}
use Rattle.t1_report.specs.Waivers.{Waiver}
use Rattle.t1_rules.specs.Book.{level_of, number_of, rules}
use Rattle.t1_rules.specs.declared.level.Level.{Level}
use Rattle.t1_rules.specs.declared.level.Level.TheVariants.{Must, Should, Tidy}
use Rattle.t1_rules.specs.declared.rule.Rule.{Rule}

-- A line: the rule that is broken, the unit where, and the text of its reason, if it has one.
pub record HeldLine : Type 0 where
  pub rule : Rule
  pub unit : NamedUnit
  pub reason : Option (List ℕ)

-- The line of a fault, with such a text.
abbrev pub line_with : FontValue → List Waiver → FaultValue → Option (List ℕ) → HeldLine
line_with font waivers fault reason = record {
  rule = fault.rule;
  unit = (let place = place_in font waivers fault in record { number = unit_number fault place; name = terminal_name (unit_name place) });
  reason = reason;
}

-- The line of a fault, where reasons are reported with that of its reason.
abbrev pub held_line : Bool → CheckedFont → List Waiver → FaultValue → HeldLine
held_line reasons font waivers fault = line_with font.value waivers fault (told_text reasons font waivers fault)

-- The lines of a rule, and their units.
abbrev pub lines_of : Rule → List HeldLine → List HeldLine
lines_of rule held = filter (λ (l : HeldLine). number_of l.rule == number_of rule) held

abbrev pub units_of : Rule → List HeldLine → List NamedUnit
units_of rule held = map (λ (l : HeldLine). l.unit) (lines_of rule held)

-- The reason of the first of some lines; no line has none.
abbrev pub reason_of : List HeldLine → Option (List ℕ)
reason_of [] = None
reason_of (l ∷ more) = l.reason

-- The reason of a rule's first line.
abbrev pub first_reason : Rule → List HeldLine → Option (List ℕ)
first_reason rule held = reason_of (lines_of rule held)

-- ---- the order of rules

abbrev pub is_same_level : Level → Level → Bool
is_same_level Must Must = true
is_same_level Should Should = true
is_same_level Tidy Tidy = true
is_same_level _ _ = false

-- What a rule has, if it is of a level.
abbrev pub level_line : (Rule → List ℕ) → Level → Rule → List ℕ
level_line text level rule = if is_same_level (level_of rule) level then text rule else []

-- What each rule of a level has, in the order of their numbers.
abbrev pub of_level : (Rule → List ℕ) → Level → List ℕ
of_level text level = flat_map (level_line text level) rules

-- What each rule has: those of level must first, then should, then tidy.
abbrev pub by_level : (Rule → List ℕ) → List ℕ
by_level text = flat_map (of_level text) (Must ∷ Should ∷ Tidy ∷ [])

-- What each rule that has lines has, of how many there are, the names of their units, and the reason of the first.
abbrev pub held_text : (Rule → ℕ → List (List ℕ) → Option (List ℕ) → List ℕ) → List HeldLine → List ℕ
held_text text held =
    by_level
    (λ rule. (let units = units_of rule held in
    if length units == 0 then [] else text rule (length units) (names_of units) (first_reason rule held)))
