-- Commands of a workflow of GitHub: `::KIND file=NAME,line=1,title=TITLE::LINE`, or `LINE: REASON`.
use Rattle.std.specs.Prelude.{ℕ, ◌==◌, List, [], ◌∷◌, ◌++◌, codes, Option, Some, None, if◌then◌else◌}
use Rattle.std.specs.List.{flat_map}
use Rattle.t1_rules.specs.declared.level.Level.{Level}
use Rattle.t1_rules.specs.declared.level.Level.TheVariants.{Must, Should, Tidy}
use Rattle.t1_rules.specs.declared.rule.Rule.{Rule}
use Rattle.t1_rules.specs.Book.{code_of, level_of, text_of}
use Rattle.t1_lines.specs.Lines.{of_fault, of_refusal}
use Rattle.t1_forms.specs.Objects.{refusal_code_of, refusal_reason_of}
use Rattle.t1_forms.specs.Tellings.{ReasonValue, ToldValue, WhatValue, of_line, of_unchecked}

-- A byte of what a command shows. A line end would end the command, and `%` is before the number of a byte.
abbrev pub message_byte : ℕ → List ℕ
message_byte byte =
    if byte == 37 then codes "%25"
    else (if byte == 13 then codes "%0D"
    else (if byte == 10 then codes "%0A" else byte ∷ []))

-- A byte of the value of a property, which `:` and `,` would end.
abbrev pub property_byte : ℕ → List ℕ
property_byte byte =
    if byte == 58 then codes "%3A"
    else (if byte == 44 then codes "%2C" else message_byte byte)

-- By the level of a rule.
abbrev pub level_kind : Level → List ℕ
level_kind Must = codes "error"
level_kind Should = codes "warning"
level_kind Tidy = codes "notice"

-- Of a fault by its rule. A font that was refused or not checked is an error.
abbrev pub command_kind : WhatValue → List ℕ
command_kind (of_line (of_fault l)) = level_kind (level_of l.rule)
command_kind (of_line (of_refusal code)) = codes "error"
command_kind (of_unchecked reason) = codes "error"

-- The code of a rule or a refusal, and its text.
abbrev pub title_code : WhatValue → List ℕ
title_code (of_line (of_fault l)) = code_of l.rule
title_code (of_line (of_refusal code)) = refusal_code_of code
title_code (of_unchecked reason) = codes "not"

abbrev pub title_text : WhatValue → List ℕ
title_text (of_line (of_fault l)) = text_of l.rule
title_text (of_line (of_refusal code)) = refusal_reason_of code
title_text (of_unchecked reason) = codes "checked"

-- A font has no lines of text, so its line 1 is named.
abbrev pub file_property : Option (List ℕ) → List ℕ
file_property None = []
file_property (Some name) = codes "file=" ++ (flat_map property_byte name ++ codes ",line=1,")

-- A command of this kind, of this font, with a title, `CODE TEXT`, and a message.
abbrev pub command : List ℕ → Option (List ℕ) → List ℕ → List ℕ → List ℕ → List ℕ
command kind font code text message =
    (codes "::" ++ (kind ++ (codes " " ++ [])))
    ++ (file_property font
    ++ ((codes "title=" ++ (code ++ (codes " " ++ [])))
    ++ (flat_map property_byte text
    ++ (codes "::" ++ (flat_map message_byte message ++ codes "\n")))))

-- A line, and the reason after it, where there is one.
abbrev pub with_reason : List ℕ → Option ReasonValue → List ℕ
with_reason line None = line
with_reason line (Some r) = line ++ (codes ": " ++ r.text)

-- What is reported, with its line, as a command.
abbrev pub command_of : ToldValue → List ℕ → List ℕ
command_of t line = command (command_kind t.what) t.font (title_code t.what) (title_text t.what) (with_reason line t.reason)

-- A message of a rule, as a command.
abbrev pub rule_command : Option (List ℕ) → Rule → List ℕ → List ℕ
rule_command font rule message = command (level_kind (level_of rule)) font (code_of rule) (text_of rule) message
