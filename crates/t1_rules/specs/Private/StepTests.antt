-- What the rules say of a step of a kind: each rule with its test, and which of them are broken.
use Rattle.std.specs.Prelude.{◌&&◌, not, ℕ, ℤ, nat_lt, Bool, false, Option, Some, None, is_none, is_some, List, [], ◌∷◌, length}
use Rattle.std.specs.List.{list_any}
use Rattle.t1_rules.specs.declared.rule.Rule.{Rule}
use Rattle.t1_rules.specs.declared.rule.Rule.TheVariants.{C04, C05, C07, C08, C09, O01, O02, O03, H05, H06, H07}
use Rattle.t1_rules.specs.declared.step_rules.stems.Stem.{Stem}
use Rattle.t1_rules.specs.declared.step_rules.triples.Triple.{Triple}
use Rattle.t1_rules.specs.StepRules.Arguments.{is_zero, one_is_past, quotient_is_past}
use Rattle.t1_rules.specs.StepRules.Othersubrs.{is_flex_or_hints, is_known}
use Rattle.t1_rules.specs.StepRules.Triples.{differs_from, is_thin}
use Rattle.t1_rules.specs.Private.KeyTests.{broken_among}

-- Of a command with so many arguments.
abbrev pub count_tests : ℕ → List ℤ → List (Rule × Bool)
count_tests count stack =
    (C04, nat_lt (length stack) count)
    ∷ (C05, nat_lt count (length stack))
    ∷ (C07, one_is_past (Some count) stack)
    ∷ []

abbrev pub breaks_by_count : Option ℕ → List ℤ → ℕ → Bool
breaks_by_count None stack n = false
breaks_by_count (Some count) stack n = broken_among (count_tests count stack) n

-- Of a division of two numbers.
abbrev pub breaks_by_quotient : ℤ → ℤ → ℕ → Bool
breaks_by_quotient dividend divisor n =
    broken_among ((C08, quotient_is_past dividend divisor) ∷ (C09, is_zero divisor) ∷ []) n

-- Of a call of the OtherSubr of this number: its count is a good one; one of 0 to 3 is called with its
-- own count.
abbrev pub breaks_by_call : Bool → Bool → ℤ → ℕ → Bool
breaks_by_call is_good is_own number n =
    broken_among
    ((O01, is_good && not (is_known number))
    ∷ (O02, not is_good)
    ∷ (O03, is_good && is_flex_or_hints number && not is_own)
    ∷ [])
    n

-- Of a stem command, by what came of its direction: of one for a stem, and of one for three.
abbrev pub breaks_by_one : Bool → Option Triple → List Stem → ℕ → Bool
breaks_by_one came last stems n =
    broken_among ((H05, list_any is_thin stems) ∷ (H06, not came && is_some last) ∷ []) n

abbrev pub breaks_by_three : Bool → Option Triple → Triple → ℕ → Bool
breaks_by_three came last triple n =
    broken_among
    ((H05, list_any is_thin (triple.one ∷ triple.two ∷ triple.three ∷ []))
    ∷ (H06, is_none last && came)
    ∷ (H07, differs_from last triple)
    ∷ [])
    n
