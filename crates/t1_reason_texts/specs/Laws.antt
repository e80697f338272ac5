-- The statements of laws.
use Rattle.std.specs.Prelude.{◌≡◌, ℕ, ◌&&◌, ◌==◌, not, nat_lt, true, Bool}
use Rattle.std.specs.List.{list_all}
use Rattle.t1_font.specs.Fonts.{FontValue}
use Rattle.t1_reasons.specs.declared.reason.Reason.{Reason}
use Rattle.t1_reason_texts.specs.Texts.{reason_text}
use Rattle.t1_rules.specs.declared.rule.Rule.{Rule}

-- A byte of a text: none below 32, so no line end, and no colon, since each line of a report has one.
abbrev pub is_plain : ℕ → Bool
is_plain byte = not (nat_lt byte 32) && not (byte == 58)

abbrev pub AreOneLine : Type 0
AreOneLine = (font : FontValue) (rule : Rule) (reason : Reason) → list_all is_plain (reason_text font rule reason) ≡ true
