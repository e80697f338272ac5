-- What is written of groups.
use Rattle.std.specs.Prelude.{ℕ, ◌-◌, ◌==◌, if◌then◌else◌, Bool, List, [], ◌∷◌, codes}
use Rattle.std.specs.List.{concat}
use Rattle.t1_printers.specs.Groups.{GroupValue, tail_of}
use Rattle.t1_printers.specs.Held.{by_level}
use Rattle.t1_printers.specs.RuleGroups.{group_of}
use Rattle.t1_printers.specs.Tails.{tail_text}
use Rattle.t1_printers.specs.Widths.{width_of}
use Rattle.t1_font.specs.declared.unread.RefusalCode.{RefusalCode}
use Rattle.t1_rules.specs.Book.{code_of, text_of}
use Rattle.t1_rules.specs.declared.rule.Rule.{Rule}

-- `RULE TEXT`.
abbrev pub rule_head : Rule → List ℕ
rule_head rule = concat (code_of rule ∷ codes " " ∷ text_of rule ∷ [])

-- What is after it, in a room for both: of a group, and of so many lines at units of these names.
abbrev pub rule_tail : ℕ → Rule → GroupValue → List ℕ
rule_tail room rule g = tail_of (room - width_of (rule_head rule)) g

abbrev pub rule_tail_of : ℕ → Rule → ℕ → List (List ℕ) → List ℕ
rule_tail_of room rule count names = tail_text (room - width_of (rule_head rule)) count names

-- How a form writes: the room that it has at most for names; whether it writes reasons; the line of a font's group; a refusal; and what it
-- writes of a font that wasn't checked for a reason.
pub record Writing : Type 0 where
  pub room : ℕ
  pub reasons : Bool
  pub line : List ℕ → Rule → GroupValue → List ℕ
  pub refusal : List ℕ → RefusalCode → List ℕ
  pub unchecked : List ℕ → List ℕ → List ℕ

-- The line of a rule's group, if it has lines.
abbrev pub group_line : (Rule → GroupValue → List ℕ) → List GroupValue → Rule → List ℕ
group_line line groups rule = let g = group_of groups rule in if g.count == 0 then [] else line rule g

-- The lines of all groups of a font.
abbrev pub group_lines : (Rule → GroupValue → List ℕ) → List GroupValue → List ℕ
group_lines line groups = by_level (group_line line groups)
