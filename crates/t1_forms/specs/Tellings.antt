-- What is reported of fonts in a line, and how it is spelled.
use Rattle.std.specs.Prelude.{ℕ, List, ◌++◌, codes, if◌then◌else◌, Option, None, Some, option_map}
use Rattle.serde_json.specs.Data.{Members}
use Rattle.t1_font.specs.Fonts.{FontValue}
use Rattle.t1_forms.specs.Members.{reason_members}
use Rattle.t1_forms.specs.declared.reason.OwnReason.{OwnReason}
use Rattle.t1_lines.specs.Lines.{LineValue, IsLine, line_value, spelled}
use Rattle.t1_forms.specs.declared.reason.ToldReason.{ToldReason}
use Rattle.t1_forms.specs.declared.told.Told.{Told}
use Rattle.t1_forms.specs.declared.told.What.{What}
use Rattle.t1_forms.specs.declared.told.What.TheVariants.{Line, Unchecked}
use Rattle.t1_reason_texts.specs.Texts.{reason_text, says_more}
use Rattle.t1_reasons.specs.declared.reason.Reason.{Reason}
use Rattle.t1_rules.specs.declared.rule.Rule.{Rule}

-- A line of t1check, or the reason why a font wasn't checked.
pub data WhatValue : Type 0 where
  of_line : LineValue → WhatValue
  of_unchecked : List ℕ → WhatValue

-- Why a place is broken: a text, and its numbers as members of an object of JSON.
pub record ReasonValue : Type 0 where
  pub text : List ℕ
  pub numbers : Members

-- With the font's name, where there is one, and the reason, where it is reported too.
pub record ToldValue : Type 0 where
  pub font : Option (List ℕ)
  pub what : WhatValue
  pub reason : Option ReasonValue

abbrev pub what_value : What → WhatValue
what_value (Line l) = of_line (line_value l)
what_value (Unchecked reason) = of_unchecked reason.now

abbrev pub reason_value : ToldReason → ReasonValue
reason_value r = record { text = r.text.now; numbers = reason_members r.font.now r.reason }

abbrev pub own_value : FontValue → OwnReason → ReasonValue
own_value font own = record { text = own.text.bytes; numbers = reason_members font own.reason }

-- The text and the numbers of a reason; none where there is no reason, or where it adds nothing.
abbrev pub reason_told : FontValue → Rule → Option Reason → Option ReasonValue
reason_told font rule None = None
reason_told font rule (Some reason) =
    if says_more reason then Some (record { text = reason_text font rule reason; numbers = reason_members font reason }) else None

abbrev pub told_value : Told → ToldValue
told_value t = record {
  font = option_map (λ name. name.now) t.font;
  what = what_value t.what;
  reason = option_map reason_value t.reason;
}

-- How it is spelled, without a line end.
abbrev pub what_spelled : WhatValue → List ℕ
what_spelled (of_line l) = spelled l
what_spelled (of_unchecked reason) = codes "t1check: " ++ reason

-- A line of a report is one.
abbrev pub IsWhat : WhatValue → Type 0
IsWhat (of_line l) = IsLine l
IsWhat (of_unchecked reason) = Unit {0}
