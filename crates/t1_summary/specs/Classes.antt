-- The classes of fonts, and counts of fonts and of lines.
use Rattle.std.specs.Prelude.{ℕ, ◌-◌, ◌^◌, min, nat_eq, List, [], ◌∷◌}
use Rattle.std.specs.List.{count_by}
use Rattle.t1_rules.specs.Book.{number_of}
use Rattle.t1_rules.specs.declared.rule.Rule.{Rule}
use Rattle.t1_summary.specs.declared.found.FontClass.{FontClass}
use Rattle.t1_summary.specs.declared.found.FontClass.TheVariants.{Clean, Known, Faulty, Refused, Unchecked}

-- All classes, in the order of a summary.
abbrev pub classes : List FontClass
classes = Clean ∷ Known ∷ Faulty ∷ Refused ∷ Unchecked ∷ []

-- The place of a class among them.
abbrev pub place_of : FontClass → ℕ
place_of Clean = 0
place_of Known = 1
place_of Faulty = 2
place_of Refused = 3
place_of Unchecked = 4

-- How many of these fonts are of a class.
abbrev pub fonts_of : List FontClass → FontClass → ℕ
fonts_of founds class = count_by (λ found. nat_eq (place_of class) (place_of found)) founds

-- How many of these lines, each by its rule, are of a rule.
abbrev pub lines_of : List Rule → Rule → ℕ
lines_of lines rule = count_by (λ line. nat_eq (number_of rule) (number_of line)) lines

-- A count stays at the greatest number of 64 bits.
abbrev pub capped : ℕ → ℕ
capped n = min n (2 ^ 64 - 1)
