-- The object of JSON that a line means. `put` keeps the members in the order of their keys.
use Rattle.std.specs.Prelude.{ℕ, List, ◌++◌, codes, drop, take, map, Option, Some, None}
use Rattle.serde_json.specs.Data.{Data, number, unsigned, string, array, object, Members, no_members, member, put}
use Rattle.serde_json.specs.View.{items_of}
use Rattle.serde_json.specs.Written.{compact_text}
use Rattle.t1_rules.specs.declared.rule.Rule.{Rule}
use Rattle.t1_rules.specs.declared.level.Level.TheVariants.{Must}
use Rattle.t1_rules.specs.Book.{code_of, level_of, text_of}
use Rattle.t1_rules.specs.Keys.{key_text_of}
use Rattle.t1_rules.specs.Levels.{level_text}
use Rattle.t1_lines.specs.Lines.{PlaceValue, at_key, at_step, at_waiver, of_fault, of_refusal}
use Rattle.t1_font.specs.declared.unread.RefusalCode.{RefusalCode}
use Rattle.t1_font.specs.Refusals.{refusal_text_of}
use Rattle.t1_forms.specs.Shown.{shown}
use Rattle.t1_forms.specs.Tellings.{ReasonValue, ToldValue, WhatValue, of_line, of_unchecked}

-- What is reported of a refusal is its code, a blank and why.
abbrev pub refusal_code_of : RefusalCode → List ℕ
refusal_code_of code = take 3 (refusal_text_of code)

abbrev pub refusal_reason_of : RefusalCode → List ℕ
refusal_reason_of code = drop 4 (refusal_text_of code)

-- Numbers of Subrs.
abbrev pub list_of : List ℕ → Data
list_of numbers = array (items_of (map (λ n. number (unsigned n)) numbers))

-- What each fault has.
abbrev pub members_of_all : ℕ → Rule → List ℕ → Members
members_of_all n rule unit =
    member (codes "code") (string (code_of rule))
    (member (codes "level") (string (level_text (level_of rule)))
    (member (codes "number") (number (unsigned n))
    (member (codes "text") (string (text_of rule))
    (member (codes "unit") (string unit) no_members))))

-- A fault in an entry of the font, in a step of a glyph, or a waiver.
abbrev pub fault_members : ℕ → PlaceValue → Rule → Members
fault_members n (at_key key index) rule =
    put (codes "index") (number (unsigned index))
    (put (codes "key") (string (key_text_of key))
    (members_of_all n rule (codes "font")))
fault_members n (at_step name path step) rule =
    put (codes "step") (number (unsigned step))
    (put (codes "path") (list_of path)
    (put (codes "name") (string (shown name))
    (members_of_all n rule (codes "glyph"))))
fault_members n (at_waiver name waived) rule =
    put (codes "waived") (string (code_of waived))
    (put (codes "name") (string (shown name))
    (members_of_all n rule (codes "waiver")))

-- A fault, a refusal, which has the level of what must be, or why a font wasn't checked.
abbrev pub what_members : WhatValue → Members
what_members (of_line (of_fault l)) = fault_members l.number l.place l.rule
what_members (of_line (of_refusal code)) =
    member (codes "code") (string (shown (refusal_code_of code)))
    (member (codes "level") (string (level_text Must))
    (member (codes "text") (string (shown (refusal_reason_of code)))
    (member (codes "unit") (string (codes "refused")) no_members)))
what_members (of_unchecked reason) =
    member (codes "text") (string (shown reason))
    (member (codes "unit") (string (codes "unchecked")) no_members)

-- With the font's name, where there is one.
abbrev pub with_font : Option (List ℕ) → Members → Members
with_font None members = members
with_font (Some name) members = put (codes "file") (string (shown name)) members

-- A reason: its numbers, and its text.
abbrev pub reason_object : ReasonValue → Data
reason_object r = object (put (codes "text") (string (shown r.text)) r.numbers)

-- With the reason, where there is one.
abbrev pub with_reason : Option ReasonValue → Members → Members
with_reason None members = members
with_reason (Some r) members = put (codes "reason") (reason_object r) members

abbrev pub object_of : ToldValue → Data
object_of t = object (with_reason t.reason (with_font t.font (what_members t.what)))

-- The line that is written of it, with its end.
abbrev pub object_line : ToldValue → List ℕ
object_line t = compact_text (object_of t) ++ codes "\n"

-- The object of a font of which no line is reported, and its line.
abbrev pub font_object : List ℕ → List ℕ → List ℕ → Data
font_object font unit description =
    object
    (member (codes "file") (string (shown font))
    (member (codes "text") (string description)
    (member (codes "unit") (string unit) no_members)))

abbrev pub font_line : List ℕ → List ℕ → List ℕ → List ℕ
font_line font unit description = compact_text (font_object font unit description) ++ codes "\n"
