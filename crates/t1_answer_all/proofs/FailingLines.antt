-- Lines of some rules, found by the counts of a tally.
use Rattle.std.proofs.Common.{◌≡◌, ◌&&◌, ◌||◌, ◌+◌, ◌-◌, ℕ, nat_lt, nat_eq, Bool, true, false, cond, List, [], ◌∷◌, inl, inr, refl, sym, ap, ap₂, ◌∙◌, arith}
use Rattle.std.proofs.lemmas.Bool.{cases_Bool}
use Rattle.std.proofs.lemmas.Bool.Decides.{nat_tests}
use Rattle.std.specs.List.{count_by, list_any}
use Rattle.t1_many.proofs.CountsOf.{count_cons}
use Rattle.t1_rules.proofs.Lemmas.Book.{listed, one_rule}
use Rattle.t1_rules.specs.Book.{number_of, rules}
use Rattle.t1_rules.specs.Mask.{has}
use Rattle.t1_rules.specs.declared.rule.Rule.{Rule}
use Rattle.t1_options.proofs.Known.{any_of}
use Rattle.t1_summary.proofs.TallyCounts.{tallies_count}
use Rattle.t1_summary.specs.Classes.{capped, lines_of}
use Rattle.t1_summary.specs.Tallies.{lines_in, tally_of}
use Rattle.t1_answer_all.specs.Endings.{any_failing}
use Rattle.t1_answer_all.specs.Laws.{StatusesAreByLines}

-- ---- tests of lists

any_same : (p q : Rule → Bool) → ((rule : Rule) → p rule ≡ q rule) → (list : List Rule) → list_any p list ≡ list_any q list
any_same p q same [] = refl
any_same p q same (rule ∷ list) = ap₂ (λ a b. a || b) (same rule) (any_same p q same list)

crossed : (a b c d : Bool) → ((a || b) || (c || d)) ≡ ((a || c) || (b || d))
crossed true b c d = refl
crossed false true true d = refl
crossed false true false d = refl
crossed false false c d = refl

any_either : (p q : Rule → Bool) (list : List Rule) → list_any (λ rule. p rule || q rule) list ≡ (list_any p list || list_any q list)
any_either p q [] = refl
any_either p q (rule ∷ list) =
    ap (λ b. (p rule || q rule) || b) (any_either p q list) ∙ crossed (p rule) (q rule) (list_any p list) (list_any q list)

none_of : (p : Rule → Bool) → ((rule : Rule) → p rule ≡ false) → (list : List Rule) → list_any p list ≡ false
none_of p none [] = refl
none_of p none (rule ∷ list) = rw (none rule) (none_of p none list)

and_false : (b : Bool) → (b && false) ≡ false
and_false true = refl
and_false false = refl

spread : (a b c : Bool) → (a && (b || c)) ≡ ((a && b) || (a && c))
spread true b c = refl
spread false b c = refl

-- ---- lines

-- a count is above 0 where there is one
some_of : (p : Rule → Bool) (list : List Rule) → nat_lt 0 (count_by p list) ≡ list_any p list
some_of p [] = refl
some_of p (rule ∷ list) =
    let next = count_cons {X = Rule} p rule list in
    elim (cases_Bool (p rule)) [
      | inl is ↦ (
          let more : count_by p (rule ∷ list) ≡ 1 + count_by p list = next ∙ ap (λ (b : Bool). cond b 1 0 + count_by p list) is in
          let some : nat_lt 0 (count_by p (rule ∷ list)) ≡ true = grind (arith, nat_tests, more) in
          some ∙ sym (ap (λ (b : Bool). b || list_any p list) is))
      | inr not ↦ (
          let step : count_by p (rule ∷ list) ≡ 0 + count_by p list = next ∙ ap (λ (b : Bool). cond b 1 0 + count_by p list) not in
          let none : count_by p (rule ∷ list) ≡ count_by p list = omega (arith, step) in
          ap (nat_lt 0) none ∙ some_of p list ∙ sym (ap (λ (b : Bool). b || list_any p list) not))
    ]

above_none : (n : ℕ) → nat_lt 0 (capped n) ≡ nat_lt 0 n
above_none n = grind (arith, nat_tests)

-- a rule is found among all where a line has it
abbrev is_rule : Rule → Rule → Bool
is_rule rule line = nat_eq (number_of rule) (number_of line)

found_once : (p : Rule → Bool) (line : Rule) → list_any (λ rule. p rule && is_rule rule line) rules ≡ p line
found_once p line =
    elim (cases_Bool (p line)) [
      | inl is ↦ (
          let same : nat_eq (number_of line) (number_of line) ≡ true = grind (arith, nat_tests) in
          any_of (λ rule. p rule && is_rule rule line) rules (number_of line - 1) line (listed line) (rw (is, same) refl) ∙ sym is)
      | inr not ↦ (none_of (λ rule. p rule && is_rule rule line) (λ rule.
          elim (cases_Bool (is_rule rule line)) [
            | inl same ↦ (
                let it : rule ≡ line = one_rule rule line (grind (arith, nat_tests, same)) in
                let none : p rule ≡ false = ap p it ∙ not in rw none refl)
            | inr differ ↦ rw differ (and_false (p rule))
          ]) rules ∙ sym not)
    ]

found_in : (p : Rule → Bool) (lines : List Rule) → list_any (λ rule. p rule && list_any (is_rule rule) lines) rules ≡ list_any p lines
found_in p [] = none_of (λ rule. p rule && false) (λ rule. and_false (p rule)) rules
found_in p (line ∷ lines) =
    any_same (λ rule. p rule && (is_rule rule line || list_any (is_rule rule) lines))
    (λ rule. (p rule && is_rule rule line) || (p rule && list_any (is_rule rule) lines))
    (λ rule. spread (p rule) (is_rule rule line) (list_any (is_rule rule) lines)) rules
    ∙ any_either (λ rule. p rule && is_rule rule line) (λ rule. p rule && list_any (is_rule rule) lines) rules
    ∙ ap₂ (λ a b. a || b) (found_once p line) (found_in p lines)

pub statuses_are_by_lines : StatusesAreByLines
unfolding any_failing
statuses_are_by_lines failing founds lines =
    let counts = tallies_count founds lines in
    any_same (λ rule. has failing (number_of rule) && nat_lt 0 (lines_in (tally_of founds lines) rule))
    (λ rule. has failing (number_of rule) && list_any (is_rule rule) lines)
    (λ rule. ap (λ b. has failing (number_of rule) && b)
    (ap (nat_lt 0) (counts.of_rule rule) ∙ above_none (lines_of lines rule) ∙ some_of (is_rule rule) lines)) rules
    ∙ found_in (λ rule. has failing (number_of rule)) lines
