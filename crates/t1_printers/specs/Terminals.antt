-- What is written on a terminal.
use Rattle.std.specs.Prelude.{ℕ, ◌-◌, Bool, if◌then◌else◌, List, [], ◌∷◌, ◌++◌, Option, codes}
use Rattle.t1_printers.specs.GroupLines.{Writing, rule_head, rule_tail, rule_tail_of}
use Rattle.t1_printers.specs.TerminalNames.{terminal_name}
use Rattle.t1_printers.specs.Widths.{width_of}
use Rattle.t1_printers.specs.Wrapped.{reason_words, wrapped}
use Rattle.t1_font.specs.Refusals.{refusal_text_of}
use Rattle.t1_font.specs.declared.unread.RefusalCode.{RefusalCode}
use Rattle.t1_rules.specs.Book.{level_of}
use Rattle.t1_rules.specs.declared.level.Level.{Level}
use Rattle.t1_rules.specs.declared.level.Level.TheVariants.{Must, Should, Tidy}
use Rattle.t1_rules.specs.declared.rule.Rule.{Rule}

-- The sequence that switches to the colour of a level: red, yellow or cyan. 27 is ESC.
abbrev pub colour_of : Level → List ℕ
colour_of Must = 27 ∷ codes "[31m"
colour_of Should = 27 ∷ codes "[33m"
colour_of Tidy = 27 ∷ codes "[36m"

-- The sequence that switches back.
abbrev pub colour_end : List ℕ
colour_end = 27 ∷ codes "[0m"

abbrev pub coloured : Bool → Level → List ℕ → List ℕ
coloured has_colours level text = if has_colours then colour_of level ++ (text ++ colour_end) else text

-- `NAME: `.
abbrev pub name_part : List ℕ → List ℕ
name_part name = terminal_name name ++ codes ": "

-- `NAME: RULE TEXT × COUNT: NAMES`, with what is after the rule's text.
abbrev pub terminal_text : Bool → List ℕ → Rule → List ℕ → List ℕ
terminal_text has_colours name rule tail = name_part name ++ (coloured has_colours (level_of rule) (rule_head rule) ++ tail)

-- It is a line, and below it are those of the reason.
abbrev pub terminal_lines : ℕ → Bool → List ℕ → Rule → List ℕ → Option (List ℕ) → List ℕ
terminal_lines width has_colours name rule tail reason =
    terminal_text has_colours name rule tail ++ (wrapped width 0 (reason_words reason) ++ codes "\n")

-- The room that is left by the font's name.
abbrev pub room_after : ℕ → List ℕ → ℕ
room_after width name = width - width_of (name_part name)

-- `NAME: refused: CODE TEXT`.
abbrev pub terminal_refusal : Bool → List ℕ → RefusalCode → List ℕ
terminal_refusal has_colours name code =
    name_part name ++ (coloured has_colours Must (codes "refused: " ++ refusal_text_of code) ++ codes "\n")

abbrev pub terminal_writing : ℕ → Bool → Bool → Writing
terminal_writing width has_colours reasons = record {
  room = width;
  reasons = reasons;
  line = λ name rule g. terminal_lines width has_colours name rule (rule_tail (room_after width name) rule g) g.reason;
  refusal = terminal_refusal has_colours;
  unchecked = λ name reason. [];
}

-- What is after the rule's text, of so many lines at units of these names.
abbrev pub terminal_tail : ℕ → List ℕ → Rule → ℕ → List (List ℕ) → List ℕ
terminal_tail width name rule count names = rule_tail_of (room_after width name) rule count names

-- What is written of so many lines of a rule at units of these names, of which the first has this reason.
abbrev pub terminal_lines_of : ℕ → Bool → List ℕ → Rule → ℕ → List (List ℕ) → Option (List ℕ) → List ℕ
terminal_lines_of width has_colours name rule count names reason =
    terminal_lines width has_colours name rule (terminal_tail width name rule count names) reason
