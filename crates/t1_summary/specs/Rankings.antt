-- The order of the rules in a summary.
use Rattle.std.specs.Prelude.{List, [], ◌∷◌, IsPermutation, IsSorted, if◌then◌else◌}
use Rattle.std.specs.Cmp.Lexicographic.{slice_cmp}
use Rattle.std.specs.Ordering.{is_lt, nat_cmp, ordering_then}
use Rattle.std.specs.declared.cmp.Ordering.{Ordering}
use Rattle.t1_rules.specs.Book.{code_of, rules}
use Rattle.t1_rules.specs.declared.rule.Rule.{Rule}
use Rattle.t1_summary.specs.Tallies.{lines_in}
use Rattle.t1_summary.specs.declared.tally.Tally.{Tally}

-- The rule with more lines comes first; of two with equally many, the one with the lesser code, byte by byte.
abbrev pub rank_cmp : Tally → Rule → Rule → Ordering
rank_cmp tally first second =
    ordering_then (nat_cmp (lines_in tally second) (lines_in tally first)) (slice_cmp nat_cmp (code_of first) (code_of second))

-- All rules, in this order.
pub record IsRanking (tally : Tally) (order : List Rule) : Type 0 where
  pub all : IsPermutation rules order
  pub sorted : IsSorted (rank_cmp tally) order

-- A rule is put before the first that doesn't come before it.
abbrev pub placed : Tally → Rule → List Rule → List Rule
placed tally rule [] = rule ∷ []
placed tally rule (next ∷ order) =
    if is_lt (rank_cmp tally next rule) then next ∷ placed tally rule order else rule ∷ next ∷ order

-- Rules, put in their places one after another.
abbrev pub ranked : Tally → List Rule → List Rule
ranked tally [] = []
ranked tally (rule ∷ order) = placed tally rule (ranked tally order)

-- The ranking of the rules.
unfoldable pub ranking : Tally → List Rule
ranking tally = ranked tally rules
