-- Counts of elements by a class, and what they sum to.
use Rattle.std.proofs.Common.{◌≡◌, ◌+◌, ◌<◌, ◌^◌, ℕ, nat_eq, Bool, true, false, cond, List, [], ◌∷◌, ◌++◌, length, map, refl, sym, ap, ap₂, ◌∙◌, arith}
use Rattle.std.proofs.lemmas.List.Sums.{sum_by-cons, sum_by_push}
use Rattle.std.specs.List.{count_by, sum_by}
use Rattle.t1_rules.specs.Book.{number_of, rules}
use Rattle.t1_rules.specs.declared.rule.Rule.{Rule}
use Rattle.t1_rules.specs.declared.rule.Rule.TheVariants.{F01}
use Rattle.t1_summary.specs.Classes.{capped, classes, place_of}
use Rattle.t1_summary.specs.Laws.{ClassesAddUp, RulesAddUp}
use Rattle.t1_summary.specs.declared.found.FontClass.{FontClass}
use Rattle.t1_summary.specs.declared.found.FontClass.TheVariants.{Clean, Known, Faulty, Refused, Unchecked}

abbrev pub one : Bool → ℕ
one b = cond b 1 0

crossed : (a b c d : ℕ) → (a + b) + (c + d) ≡ (a + c) + (b + d)
crossed a b c d = omega arith

-- one element more, counted by each class
counted : {C X : Type 0} (p : C → X → Bool) (x : X) (xs : List X) (cs : List C)
    → sum_by (λ (c : C). count_by (p c) (x ∷ xs)) cs ≡ sum_by (λ (c : C). one (p c x)) cs + sum_by (λ (c : C). count_by (p c) xs) cs
counted p x xs [] = refl
counted {C} p x xs (c ∷ cs) =
    sum_by-cons (λ (c : C). count_by (p c) (x ∷ xs)) c cs
    ∙ ap₂ (λ (m n : ℕ). m + n) (sum_by-cons (λ y. one (p c y)) x xs) (counted p x xs cs)
    ∙ crossed (one (p c x)) (count_by (p c) xs) (sum_by (λ (c : C). one (p c x)) cs) (sum_by (λ (c : C). count_by (p c) xs) cs)
    ∙ ap₂ (λ (m n : ℕ). m + n) (sym (sum_by-cons (λ (c : C). one (p c x)) c cs)) (sym (sum_by-cons (λ (c : C). count_by (p c) xs) c cs))

nothing : {C X : Type 0} (p : C → X → Bool) (cs : List C) → sum_by (λ (c : C). count_by (p c) []) cs ≡ 0
nothing p [] = refl
nothing {C} p (c ∷ cs) = sum_by-cons (λ (c : C). count_by (p c) []) c cs ∙ ap (λ (n : ℕ). 0 + n) (nothing p cs)

one_longer : {X : Type 0} (x : X) (xs : List X) → 1 + length xs ≡ length (x ∷ xs)
one_longer x xs = omega arith

-- where each element is of one class, the counts sum to the elements
add_up : {C X : Type 0} (p : C → X → Bool) (cs : List C) → ((x : X) → sum_by (λ (c : C). one (p c x)) cs ≡ 1) → (xs : List X)
    → sum_by (λ (c : C). count_by (p c) xs) cs ≡ length xs
add_up p cs once [] = nothing p cs
add_up p cs once (x ∷ xs) = counted p x xs cs ∙ ap₂ (λ (m n : ℕ). m + n) (once x) (add_up p cs once xs) ∙ one_longer x xs

abbrev pub is_class : FontClass → FontClass → Bool
is_class class found = nat_eq (place_of class) (place_of found)

abbrev pub is_rule : Rule → Rule → Bool
is_rule rule line = nat_eq (number_of rule) (number_of line)

of_one_class : (found : FontClass) → sum_by (λ (class : FontClass). one (is_class class found)) classes ≡ 1
of_one_class Clean = refl
of_one_class Known = refl
of_one_class Faulty = refl
of_one_class Refused = refl
of_one_class Unchecked = refl

pub classes_add_up : ClassesAddUp
classes_add_up = add_up is_class classes of_one_class

of_one_rule : (line : Rule) → sum_by (λ (rule : Rule). one (is_rule rule line)) rules ≡ 1
of_one_rule F01 = refl
of_one_rule _ = refl

pub rules_add_up : RulesAddUp
rules_add_up = add_up is_rule rules of_one_rule

-- ---- caps

pub capped_fits : (n : ℕ) → capped n < 2 ^ 64
capped_fits n = omega arith

pub capped_small : (n : ℕ) → n < 2 ^ 64 → capped n ≡ n
capped_small n small = omega arith

pub capped_sum : (a s t : ℕ) → capped s ≡ capped t → capped (capped a + s) ≡ capped (a + t)
capped_sum a s t same = omega arith

-- the sum of capped counts, capped, is that of the counts
pub sums_capped : {C : Type 0} (f : C → ℕ) (cs : List C) → capped (sum_by (λ (c : C). capped (f c)) cs) ≡ capped (sum_by f cs)
sums_capped f [] = refl
sums_capped {C} f (c ∷ cs) =
    ap capped (sum_by-cons (λ (c : C). capped (f c)) c cs)
    ∙ capped_sum (f c) (sum_by (λ (c : C). capped (f c)) cs) (sum_by f cs) (sums_capped f cs)
    ∙ ap capped (sym (sum_by-cons f c cs))

-- where no count is capped
pub sums_whole : {C : Type 0} (f : C → ℕ) (cs : List C) → ((c : C) → f c < 2 ^ 64) → sum_by (λ (c : C). capped (f c)) cs ≡ sum_by f cs
sums_whole f [] fit = refl
sums_whole {C} f (c ∷ cs) fit =
    sum_by-cons (λ (c : C). capped (f c)) c cs
    ∙ ap₂ (λ (m n : ℕ). m + n) (capped_small (f c) (fit c)) (sums_whole f cs fit)
    ∙ sym (sum_by-cons f c cs)

-- ---- one element more, and elements after others

abbrev pub bumped : Bool → ℕ → ℕ
bumped b n = cond b (capped (n + 1)) n

bump : (b : Bool) (n : ℕ) → capped (n + one b) ≡ bumped b (capped n)
bump true n = omega arith
bump false n = omega arith

pub count_more : {X : Type 0} (p : X → Bool) (xs : List X) (x : X) → capped (count_by p (xs ++ x ∷ [])) ≡ bumped (p x) (capped (count_by p xs))
count_more p xs x = ap capped (sum_by_push (λ y. one (p y)) xs x) ∙ bump (p x) (count_by p xs)

-- lists of numbers that are the same for each class
pub each_same : {C : Type 0} (f g : C → ℕ) (cs : List C) → ((c : C) → f c ≡ g c) → map f cs ≡ map g cs
each_same f g [] same = refl
each_same f g (c ∷ cs) same = ap₂ (λ (n : ℕ) (ns : List ℕ). n ∷ ns) (same c) (each_same f g cs same)
