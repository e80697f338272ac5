-- Commands of a workflow of GitHub: one for a font and a rule, and one for what is reported by itself.
use Rattle.std.specs.Prelude.{ℕ, Bool, List, [], ◌∷◌, ◌++◌, codes, Option, None, Some}
use Rattle.t1_forms.specs.Commands.{command_of, rule_command}
use Rattle.t1_forms.specs.Tellings.{ToldValue, of_line, of_unchecked, what_spelled}
use Rattle.t1_printers.specs.Formatting.{Output}
use Rattle.t1_printers.specs.GroupLines.{Writing, rule_head, rule_tail, rule_tail_of}
use Rattle.t1_lines.specs.Lines.{of_refusal, spelled}
use Rattle.t1_many.specs.Plain.{IsPut}
use Rattle.t1_many.specs.declared.policy.Lost.{Lost}
use Rattle.t1_font.specs.declared.unread.RefusalCode.{RefusalCode}
use Rattle.t1_rules.specs.declared.rule.Rule.{Rule}

-- The width of a message.
abbrev pub message_room : ℕ
message_room = 120

-- The command of a font and a rule, with this message.
abbrev pub group_command : List ℕ → Rule → List ℕ → List ℕ
group_command name rule message = rule_command (Some name) rule message

-- A font that was refused, or wasn't checked, has a command of its own.
abbrev pub refusal_command : List ℕ → RefusalCode → List ℕ
refusal_command name code = command_of (record { font = Some name; what = of_line (of_refusal code); reason = None }) (spelled (of_refusal code))

abbrev pub unchecked_command : List ℕ → List ℕ → List ℕ
unchecked_command name reason = command_of (record { font = Some name; what = of_unchecked reason; reason = None }) (codes "t1check: " ++ reason)

-- In a message the text of a reason is on a line of its own. 10 is the line end before it.
abbrev pub message_reason : Option (List ℕ) → List ℕ
message_reason None = []
message_reason (Some text) = 10 ∷ text

abbrev pub group_message : Rule → List ℕ → Option (List ℕ) → List ℕ
group_message rule tail reason = rule_head rule ++ (tail ++ message_reason reason)

abbrev pub command_writing : Bool → Writing
command_writing reasons = record {
  room = message_room;
  reasons = reasons;
  line = λ name rule g. group_command name rule (group_message rule (rule_tail message_room rule g) g.reason);
  refusal = refusal_command;
  unchecked = unchecked_command;
}

-- The command of so many lines of a rule at units of these names, of which the first has this reason.
abbrev pub command_line_of : List ℕ → Rule → ℕ → List (List ℕ) → Option (List ℕ) → List ℕ
command_line_of name rule count names reason =
    group_command name rule (group_message rule (rule_tail_of message_room rule count names) reason)

-- The command of what is reported was put.
abbrev pub command_written : {T : Type 0} → Output T → Output T → ToldValue → Option Lost → Type 0
command_written old new told lost = IsPut old.out new.out (command_of told (what_spelled told.what)) lost
