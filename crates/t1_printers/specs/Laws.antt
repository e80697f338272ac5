-- The statements of laws.
use Rattle.std.specs.Prelude.{◌≡◌, ◌⊎◌, ◌≤◌, ℕ, Bool, false, List, [], ◌∷◌, ◌++◌, codes, length}
use Rattle.std.specs.List.{sum_by}
use Rattle.t1_forms.specs.Tellings.{what_spelled}
use Rattle.t1_printers.specs.Formatting.{told_fault}
use Rattle.t1_printers.specs.Held.{HeldLine, first_reason, units_of}
use Rattle.t1_printers.specs.Tails.{fits, greatest, tail_with}
use Rattle.t1_printers.specs.Terminals.{terminal_tail, terminal_text}
use Rattle.t1_printers.specs.Widths.{width_of}
use Rattle.t1_report.specs.Checked.{CheckedFont}
use Rattle.t1_report.specs.Faults.{FaultValue}
use Rattle.t1_report.specs.Lines.{IsInFont, line_of}
use Rattle.t1_report.specs.Waivers.{Waiver}
use Rattle.t1_rules.specs.Book.{rules}
use Rattle.t1_rules.specs.declared.rule.Rule.{Rule}

-- The numbers of the lines of all rules sum to the lines.
abbrev pub CountsSumToLines : Type 0
CountsSumToLines = (held : List HeldLine) → sum_by (λ rule. length (units_of rule held)) rules ≡ length held

-- Each line is in the group of its rule, after those before it.
abbrev pub LinesAreInTheirGroups : Type 0
LinesAreInTheirGroups =
    (before after : List HeldLine) (l : HeldLine)
    → units_of l.rule (before ++ l ∷ after) ≡ units_of l.rule before ++ l.unit ∷ units_of l.rule after

-- The reason of a group is that of the first line of its rule.
abbrev pub ReasonsAreOfFirstLines : Type 0
ReasonsAreOfFirstLines =
    (before after : List HeldLine) (l : HeldLine) → units_of l.rule before ≡ [] → first_reason l.rule (before ++ l ∷ after) ≡ l.reason

-- The line of a group on a terminal, without colours, is as wide as the terminal at most, or it has no name.
abbrev pub LinesFitTerminals : Type 0
LinesFitTerminals =
    (width : ℕ) (name : List ℕ) (rule : Rule) (count : ℕ) (names : List (List ℕ))
    → (width_of (terminal_text false name rule (terminal_tail width name rule count names)) ≤ width)
    ⊎ (terminal_tail width name rule count names ≡ tail_with count names 0)

-- No more names fit than are shown.
abbrev pub NoMoreNamesFit : Type 0
NoMoreNamesFit =
    (room count : ℕ) (names : List (List ℕ)) (shown : ℕ) → shown ≤ length names → width_of (tail_with count names shown) ≤ room
    → shown ≤ greatest (fits room count names) (length names)

-- What is reported of a fault is spelled as its line of the report, without the line's end.
abbrev pub LinesAreThoseOfReports : Type 0
LinesAreThoseOfReports =
    (reasons : Bool) (name : List ℕ) (font : CheckedFont) (waivers : List Waiver) (fault : FaultValue) → IsInFont font.value waivers fault
    → what_spelled (told_fault reasons name font waivers fault).what ++ codes "\n" ≡ line_of font.value waivers fault
