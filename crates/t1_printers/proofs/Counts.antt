-- Lines are counted, each in the group of its rule.
use Rattle.std.proofs.Common.{◌≡◌, ◌+◌, ◌==◌, ℕ, true, List, [], ◌∷◌, ◌++◌, ap, arith, cond, inl, inr, length, map, refl, sym, ◌∙◌}
use Rattle.std.proofs.lemmas.Bool.{cases_Bool, eq-eqb}
use Rattle.std.proofs.lemmas.List.{length-map, map-append, nil_from_length}
use Rattle.std.proofs.lemmas.List.Elements.{filter-append}
use Rattle.std.proofs.lemmas.List.Sums.{sum_by-cons}
use Rattle.std.specs.List.{sum_by}
use Rattle.t1_printers.specs.Held.{HeldLine, lines_of, reason_of, units_of}
use Rattle.t1_printers.specs.Laws.{CountsSumToLines, LinesAreInTheirGroups, ReasonsAreOfFirstLines}
use Rattle.t1_rules.specs.Book.{number_of, rules}
use Rattle.t1_rules.specs.declared.rule.Rule.{Rule}
use Rattle.t1_rules.specs.declared.rule.Rule.TheVariants.{F01}

-- one rule is that of the line
one_rule_counts : (rule : Rule) → sum_by (λ other. cond (number_of rule == number_of other) 1 0) rules ≡ 1
one_rule_counts F01 = refl
one_rule_counts _ = refl

sum_zero : {X : Type 0} (f : X → ℕ) (xs : List X) → ((x : X) → f x ≡ 0) → sum_by f xs ≡ 0
sum_zero f [] none = refl
sum_zero f (x ∷ xs) none = omega (arith, sum_by-cons f x xs, none x, sum_zero f xs none)

sum_both : {X : Type 0} (f g h : X → ℕ) (xs : List X) → ((x : X) → h x ≡ f x + g x) → sum_by h xs ≡ sum_by f xs + sum_by g xs
sum_both f g h [] same = refl
sum_both f g h (x ∷ xs) same =
    omega (arith, sum_by-cons f x xs, sum_by-cons g x xs, sum_by-cons h x xs, same x, sum_both f g h xs same)

count_cons : (rule : Rule) (l : HeldLine) (held : List HeldLine)
    → length (units_of rule (l ∷ held)) ≡ cond (number_of l.rule == number_of rule) 1 0 + length (units_of rule held)
count_cons rule l held = elim (cases_Bool (number_of l.rule == number_of rule)) [
  | inl is ↦ rw is (omega arith)
  | inr not ↦ rw not (omega arith)
]

-- The sums over all rules are too long to be looked into.
one_more : (all here rest count : ℕ) → all ≡ here + rest → here ≡ 1 → rest ≡ count → all ≡ count + 1
one_more all here rest count both one so_far = omega (arith, both, one, so_far)

pub counts_sum : CountsSumToLines
counts_sum [] = sum_zero (λ rule. length (units_of rule [])) rules (λ rule. refl)
counts_sum (l ∷ held) =
    let both = sum_both (λ rule. cond (number_of l.rule == number_of rule) 1 0) (λ rule. length (units_of rule held))
    (λ rule. length (units_of rule (l ∷ held))) rules (λ rule. count_cons rule l held) in
    one_more _ _ _ (length held) both (one_rule_counts l.rule) (counts_sum held) ∙ omega arith

lines_split : (before after : List HeldLine) (l : HeldLine)
    → lines_of l.rule (before ++ l ∷ after) ≡ lines_of l.rule before ++ l ∷ lines_of l.rule after
lines_split before after l =
    let own : (number_of l.rule == number_of l.rule) ≡ true = eq-eqb (number_of l.rule) (number_of l.rule) refl in
    filter-append (λ (m : HeldLine). number_of m.rule == number_of l.rule) before (l ∷ after)
    ∙ ap (λ b. lines_of l.rule before ++ cond b (l ∷ lines_of l.rule after) (lines_of l.rule after)) own

pub lines_are_in : LinesAreInTheirGroups
lines_are_in before after l =
    ap (map (λ (m : HeldLine). m.unit)) (lines_split before after l)
    ∙ map-append (λ (m : HeldLine). m.unit) (lines_of l.rule before) (l ∷ lines_of l.rule after)

pub reasons_are_first : ReasonsAreOfFirstLines
reasons_are_first before after l none =
    let long = sym (length-map (lines_of l.rule before) (λ (m : HeldLine). m.unit)) ∙ ap length none in
    ap reason_of (lines_split before after l)
    ∙ ap (λ lines. reason_of (lines ++ l ∷ lines_of l.rule after)) (nil_from_length (lines_of l.rule before) long)
