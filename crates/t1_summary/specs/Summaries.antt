-- The summary of a run over many fonts.
use Rattle.std.specs.Prelude.{ℕ, ◌-◌, ◌++◌, ◌==◌, nat_lt, Bool, List, [], ◌∷◌, Option, None, Some, codes, filter, flat_map, length, replicate, if◌then◌else◌}
use Rattle.std.specs.Fmt.{decimal}
use Rattle.std.specs.List.{concat}
use Rattle.t1_rules.specs.Book.{code_of, level_of, text_of}
use Rattle.t1_rules.specs.Levels.{level_text}
use Rattle.t1_rules.specs.declared.rule.Rule.{Rule}
use Rattle.t1_summary.specs.Rankings.{ranking}
use Rattle.t1_summary.specs.Tallies.{all_fonts, fonts_in, lines_in}
use Rattle.t1_summary.specs.declared.found.FontClass.TheVariants.{Clean, Known, Faulty, Refused, Unchecked}
use Rattle.t1_summary.specs.declared.tally.Tally.{Tally}

-- The word for one thing, or for another number of them.
abbrev pub one_or_many : ℕ → List ℕ → List ℕ → List ℕ
one_or_many count one many = if count == 1 then one else many

-- The fonts with known faults alone, if the run has known faults.
abbrev pub known_text : Bool → ℕ → List ℕ
known_text has_known known = if has_known then decimal known ++ codes " with known faults alone, " else []

-- `4 fonts: 1 clean, 1 with faults, 1 refused, 1 not checked`.
unfoldable pub fonts_line : Bool → Tally → List ℕ
fonts_line has_known tally = concat
    (decimal (all_fonts tally) ∷ one_or_many (all_fonts tally) (codes " font: ") (codes " fonts: ")
    ∷ decimal (fonts_in tally Clean) ∷ codes " clean, " ∷ known_text has_known (fonts_in tally Known)
    ∷ decimal (fonts_in tally Faulty) ∷ codes " with faults, " ∷ decimal (fonts_in tally Refused) ∷ codes " refused, "
    ∷ decimal (fonts_in tally Unchecked) ∷ codes " not checked\n" ∷ [])

-- `known faults: 3 rows`, if the run has made them anew.
unfoldable pub rows_line : Option ℕ → List ℕ
rows_line None = []
rows_line (Some rows) = concat (codes "known faults: " ∷ decimal rows ∷ one_or_many rows (codes " row\n") (codes " rows\n") ∷ [])

-- A text, aligned right in so many columns.
abbrev pub aligned_right : ℕ → List ℕ → List ℕ
aligned_right columns text = replicate (columns - length text) 32 ++ text

-- `      2 F01 no end segment (should)`.
unfoldable pub rule_line : Tally → Rule → List ℕ
rule_line tally rule = concat
    (aligned_right 7 (decimal (lines_in tally rule)) ∷ codes " " ∷ code_of rule ∷ codes " " ∷ text_of rule
    ∷ codes " (" ∷ level_text (level_of rule) ∷ codes ")\n" ∷ [])

-- A line for each rule that has lines.
abbrev pub rule_lines : Tally → List ℕ
rule_lines tally = flat_map (rule_line tally) (filter (λ rule. nat_lt 0 (lines_in tally rule)) (ranking tally))

-- The whole summary.
abbrev pub summary_text : Tally → Option ℕ → Bool → List ℕ
summary_text tally rows has_known = fonts_line has_known tally ++ rows_line rows ++ rule_lines tally
