-- The order in which the rules are printed: it is there, and is one.
-- No two rules tie, since no two have one code. So of two lists that rise and have each rule equally often the first rules are the same, and then those
-- of the rests.
use Rattle.std.proofs.Common.{◌≡◌, ◌+◌, ◌<◌, ℕ, suc, zero, nat_eq, Bool, true, false, true≢false, cond, List, [], ◌∷◌, get_or, length, Some, inl, inr, refl, sym, subst, ap, ap₂, ◌∙◌, arith}
use Rattle.std.proofs.lemmas.Bool.{cases_Bool, eqb-true}
use Rattle.std.proofs.lemmas.Bool.Decides.{nat_tests}
use Rattle.std.proofs.lemmas.List.Sorted.{IsPermutation-cons, IsPermutation-middle, IsPermutation-refl, IsPermutation-trans, length_permutation, ranks_by, sorted_far, sum_by-IsPermutation}
use Rattle.std.proofs.lemmas.List.Sums.{sum_by-cons}
use Rattle.std.specs.Cmp.{IsStrictWeakOrder, IsTotalOrder, back_total, nat_cmp_total, on_total, then_total}
use Rattle.std.specs.Cmp.Lexicographic.{on_texts, same_text, slice_cmp, texts_ties}
use Rattle.std.specs.List.{AllByRecursion, sum_by}
use Rattle.std.specs.List.Sorted.{IsPermutation, IsSortedBy}
use Rattle.std.specs.Ordering.{is_eq, is_lt, nat_cmp, ordering_reverse, ordering_then}
use Rattle.std.specs.declared.cmp.Ordering.{Ordering}
use Rattle.std.specs.declared.cmp.Ordering.TheVariants.{Less, Equal, Greater}
use Rattle.t1_rules.proofs.Lemmas.Book.{one_rule}
use Rattle.t1_rules.proofs.Lemmas.RuleCodes.{rule_is_found}
use Rattle.t1_rules.specs.Book.{code_of, last_number, number_of, rule_coded, rules}
use Rattle.t1_rules.specs.declared.rule.Rule.{Rule}
use Rattle.t1_summary.specs.Laws.{RankingsAreOne, RankingsStand}
use Rattle.t1_summary.specs.Rankings.{IsRanking, placed, rank_cmp, ranked, ranking}
use Rattle.t1_summary.specs.Tallies.{lines_in}
use Rattle.t1_summary.specs.declared.tally.Tally.{Tally}

-- ---- the comparison

some_same : (first second : Rule) → Some first ≡ Some second → first ≡ second
some_same first second same = cc

rank_total : (tally : Tally) → IsTotalOrder (rank_cmp tally)
rank_total tally = then_total (on_total (lines_in tally) (back_total nat_cmp_total)) (on_texts code_of)

-- A rule comes before another.
abbrev pub before : Tally → Rule → Rule → Bool
before tally first second = is_lt (rank_cmp tally first second)

pub before_order : (tally : Tally) → IsStrictWeakOrder (before tally)
before_order tally = ranks_by (rank_total tally) (λ (rule : Rule). rule)

neither : (r s : Ordering) → r ≡ ordering_reverse s → is_lt r ≡ false → is_lt s ≡ false → r ≡ Equal
neither Less s flip no_less back = absurd (true≢false no_less)
neither Equal s flip no_less back = refl
neither Greater Less flip no_less back = absurd (true≢false back)
neither Greater Equal flip no_less back = flip
neither Greater Greater flip no_less back = cc

second_equal : (a b : Ordering) → ordering_then a b ≡ Equal → b ≡ Equal
second_equal Less b e = cc
second_equal Equal b e = e
second_equal Greater b e = cc

one_code : (first second : Rule) → slice_cmp nat_cmp (code_of first) (code_of second) ≡ Equal → first ≡ second
one_code first second e =
    let same : code_of first ≡ code_of second =
    same_text (code_of first) (code_of second) (sym (texts_ties (code_of first) (code_of second) ∙ ap is_eq e)) in
    some_same first second (sym (rule_is_found first) ∙ ap rule_coded same ∙ rule_is_found second)

-- Of two rules one comes before the other.
tied : (tally : Tally) (first second : Rule) → before tally first second ≡ false → before tally second first ≡ false → first ≡ second
tied tally first second no_first no_second =
    let o = rank_total tally in
    one_code first second (second_equal (nat_cmp (lines_in tally second) (lines_in tally first)) _
    (neither (rank_cmp tally first second) (rank_cmp tally second first) (o.antisymm first second) no_first no_second))

-- ---- sorted lists, from their first element on

abbrev Rises : {X : Type 0} → (X → X → Bool) → List X → Type 0
Rises lt [] = Unit {0}
Rises lt (x ∷ xs) = AllByRecursion (λ y. lt y x ≡ false) xs × Rises lt xs

by_place : {X : Type 0} (P : X → Type 0) (xs : List X) → ((k : ℕ) (d : X) → k < length xs → P (get_or xs k d)) → AllByRecursion P xs
by_place P [] each = tt
by_place P (x ∷ xs) each = (each 0 x (omega arith), by_place P xs (λ k d less. each (suc k) d (omega (arith, less))))

tail_sorted : {X : Type 0} (lt : X → X → Bool) (x : X) (xs : List X) → IsSortedBy lt (x ∷ xs) → IsSortedBy lt xs
tail_sorted lt x xs up k d low less =
    let there : lt (get_or (x ∷ xs) (suc k + 1) d) (get_or (x ∷ xs) (suc k) d) ≡ false = up (suc k) d (omega arith) (omega (arith, less)) in
    let place : suc k + 1 ≡ suc (k + 1) = omega arith in
    let moved : lt (get_or (x ∷ xs) (suc (k + 1)) d) (get_or (x ∷ xs) (suc k) d) ≡ false =
    subst (λ (n : ℕ). lt (get_or (x ∷ xs) n d) (get_or (x ∷ xs) (suc k) d) ≡ false) place there in
    moved

rises : {X : Type 0} (lt : X → X → Bool) → IsStrictWeakOrder lt → (xs : List X) → IsSortedBy lt xs → Rises lt xs
rises lt o [] up = tt
rises {X} lt o (x ∷ xs) up = (
  by_place (λ y. lt y x ≡ false) xs (λ k d less. sorted_far lt o (x ∷ xs) up 0 (suc k) d (omega arith) (omega (arith, less))),
  rises lt o xs (tail_sorted lt x xs up),
)

sorted : {X : Type 0} (lt : X → X → Bool) (xs : List X) → Rises lt xs → IsSortedBy lt xs
sorted lt [] up k d low less = absurd (omega (arith, less))
sorted lt (x ∷ []) up k d low less = absurd (omega (arith, less))
sorted lt (x ∷ y ∷ xs) up zero d low less = up.0.0
sorted lt (x ∷ y ∷ xs) up (suc k) d low less =
    let place : suc (k + 1) ≡ suc k + 1 = omega arith in
    let there : lt (get_or (x ∷ y ∷ xs) (suc (k + 1)) d) (get_or (x ∷ y ∷ xs) (suc k) d) ≡ false =
    sorted lt (y ∷ xs) up.1 k d (omega arith) (omega (arith, less)) in
    subst (λ (n : ℕ). lt (get_or (x ∷ y ∷ xs) n d) (get_or (x ∷ y ∷ xs) (suc k) d) ≡ false) place there

-- ---- one order

abbrev is_it : Rule → Rule → ℕ
is_it rule other = cond (nat_eq (number_of rule) (number_of other)) 1 0

-- How often a rule is in a list.
abbrev times : Rule → List Rule → ℕ
times rule order = sum_by (is_it rule) order

itself : (rule : Rule) → is_it rule rule ≡ 1
itself rule = let same : nat_eq (number_of rule) (number_of rule) ≡ true = grind (arith, nat_tests) in rw same refl

-- what holds of each rule of a list holds of a rule that is there
of_each : (P : Rule → Type 0) (rule : Rule) (order : List Rule) → 0 < times rule order → AllByRecursion P order → P rule
of_each P rule [] some each = absurd (omega (arith, some))
of_each P rule (other ∷ order) some each = elim (cases_Bool (nat_eq (number_of rule) (number_of other))) [
  | inl same ↦ subst P (sym (one_rule rule other (eqb-true (number_of rule) (number_of other) same))) each.0
  | inr apart ↦ (
      let not_it : is_it rule other ≡ 0 = rw apart refl in
      let later : times rule (other ∷ order) ≡ is_it rule other + times rule order = sum_by-cons (is_it rule) other order in
      of_each P rule order (omega (arith, some, not_it, later)) each.1)
]

first_of : (rule : Rule) (order : List Rule) → 0 < times rule (rule ∷ order)
first_of rule order =
    let it = itself rule in
    let there : times rule (rule ∷ order) ≡ is_it rule rule + times rule order = sum_by-cons (is_it rule) rule order in
    omega (arith, it, there)

same_head : (tally : Tally) (x y : Rule) (xs ys : List Rule) → Rises (before tally) (x ∷ xs) → Rises (before tally) (y ∷ ys)
    → ((rule : Rule) → times rule (x ∷ xs) ≡ times rule (y ∷ ys)) → nat_eq (number_of x) (number_of y) ≡ false → x ≡ y
same_head tally x y xs ys up down same apart =
    let not_it : is_it x y ≡ 0 = rw apart refl in
    let apart_back : nat_eq (number_of y) (number_of x) ≡ false = grind (arith, nat_tests) in
    let not_it_back : is_it y x ≡ 0 = rw apart_back refl in
    let x_first = first_of x xs in
    let y_first = first_of y ys in
    let x_later : times x (y ∷ ys) ≡ is_it x y + times x ys = sum_by-cons (is_it x) y ys in
    let y_later : times y (x ∷ xs) ≡ is_it y x + times y xs = sum_by-cons (is_it y) x xs in
    let x_same = same x in
    let y_same = same y in
    let x_there : 0 < times x ys = omega (arith, x_first, x_later, not_it, x_same) in
    let y_there : 0 < times y xs = omega (arith, y_first, y_later, not_it_back, y_same) in
    tied tally x y (of_each (λ rule. before tally rule y ≡ false) x ys x_there down.0)
    (of_each (λ rule. before tally rule x ≡ false) y xs y_there up.0)

heads : (tally : Tally) (x y : Rule) (xs ys : List Rule) → Rises (before tally) (x ∷ xs) → Rises (before tally) (y ∷ ys)
    → ((rule : Rule) → times rule (x ∷ xs) ≡ times rule (y ∷ ys)) → x ≡ y
heads tally x y xs ys up down same = elim (cases_Bool (nat_eq (number_of x) (number_of y))) [
  | inl is ↦ one_rule x y (eqb-true (number_of x) (number_of y) is)
  | inr apart ↦ same_head tally x y xs ys up down same apart
]

tails : (x y : Rule) (xs ys : List Rule) → x ≡ y → ((rule : Rule) → times rule (x ∷ xs) ≡ times rule (y ∷ ys))
    → (rule : Rule) → times rule xs ≡ times rule ys
tails x y xs ys is same rule =
    let left : times rule (x ∷ xs) ≡ is_it rule x + times rule xs = sum_by-cons (is_it rule) x xs in
    let right : times rule (y ∷ ys) ≡ is_it rule y + times rule ys = sum_by-cons (is_it rule) y ys in
    let both = same rule in
    let head : is_it rule x ≡ is_it rule y = ap (is_it rule) is in
    omega (arith, left, right, both, head)

one_order : (tally : Tally) (xs ys : List Rule) → Rises (before tally) xs → Rises (before tally) ys
    → ((rule : Rule) → times rule xs ≡ times rule ys) → xs ≡ ys
one_order tally [] [] up down same = refl
one_order tally [] (y ∷ ys) up down same = let there = first_of y ys in let none : 0 ≡ times y (y ∷ ys) = same y in absurd (omega (arith, there, none))
one_order tally (x ∷ xs) [] up down same = let there = first_of x xs in let none : times x (x ∷ xs) ≡ 0 = same x in absurd (omega (arith, there, none))
one_order tally (x ∷ xs) (y ∷ ys) up down same =
    let is = heads tally x y xs ys up down same in
    ap₂ (λ (rule : Rule) (order : List Rule). rule ∷ order) is (one_order tally xs ys up.1 down.1 (tails x y xs ys is same))

-- ---- rules that are put in their places

all_placed : (tally : Tally) (P : Rule → Type 0) (rule : Rule) (order : List Rule) → P rule → AllByRecursion P order
    → AllByRecursion P (placed tally rule order)
all_placed tally P rule [] it each = (it, tt)
all_placed tally P rule (next ∷ order) it each = elim (cases_Bool (before tally next rule)) [
  | inl later ↦ rw later (each.0, all_placed tally P rule order it each.1)
  | inr here ↦ rw here (it, each)
]

not_before : (tally : Tally) (rule next : Rule) (order : List Rule) → before tally next rule ≡ false
    → AllByRecursion (λ other. before tally other next ≡ false) order → AllByRecursion (λ other. before tally other rule ≡ false) order
not_before tally rule next [] here each = tt
not_before tally rule next (other ∷ order) here each =
    ((before_order tally).chain other next rule each.0 here, not_before tally rule next order here each.1)

placed_rises : (tally : Tally) (rule : Rule) (order : List Rule) → Rises (before tally) order → Rises (before tally) (placed tally rule order)
placed_rises tally rule [] up = (tt, tt)
placed_rises tally rule (next ∷ order) up = elim (cases_Bool (before tally next rule)) [
  | inl later ↦ rw later (
    all_placed tally (λ other. before tally other next ≡ false) rule order ((before_order tally).one_way next rule later) up.0,
    placed_rises tally rule order up.1,
  )
  | inr here ↦ rw here ((here, not_before tally rule next order here up.0), up)
]

placed_all : (tally : Tally) (rule : Rule) (order : List Rule) → IsPermutation (rule ∷ order) (placed tally rule order)
placed_all tally rule [] = IsPermutation-refl (rule ∷ [])
placed_all tally rule (next ∷ order) = elim (cases_Bool (before tally next rule)) [
  | inl later ↦ rw later (IsPermutation-trans (rule ∷ next ∷ order) (next ∷ rule ∷ order) (next ∷ placed tally rule order)
      (IsPermutation-middle (rule ∷ []) next order) (IsPermutation-cons next (rule ∷ order) (placed tally rule order) (placed_all tally rule order)))
  | inr here ↦ rw here (IsPermutation-refl (rule ∷ next ∷ order))
]

ranked_rises : (tally : Tally) (order : List Rule) → Rises (before tally) (ranked tally order)
ranked_rises tally [] = tt
ranked_rises tally (rule ∷ order) = placed_rises tally rule (ranked tally order) (ranked_rises tally order)

ranked_all : (tally : Tally) (order : List Rule) → IsPermutation order (ranked tally order)
ranked_all tally [] = IsPermutation-refl []
ranked_all tally (rule ∷ order) =
    IsPermutation-trans (rule ∷ order) (rule ∷ ranked tally order) (placed tally rule (ranked tally order))
    (IsPermutation-cons rule order (ranked tally order) (ranked_all tally order)) (placed_all tally rule (ranked tally order))

pub rankings_stand : RankingsStand
unfolding ranking
rankings_stand tally = record {
  all = ranked_all tally rules;
  sorted = sorted (before tally) (ranked tally rules) (ranked_rises tally rules);
}

same_times : (rule : Rule) (xs ys : List Rule) → IsPermutation xs ys → times rule ys ≡ times rule xs
same_times rule xs ys all = sum_by-IsPermutation (is_it rule) xs ys all

one_ranking : (tally : Tally) (order other : List Rule) → IsRanking tally order → IsRanking tally other → order ≡ other
one_ranking tally order other a b =
    one_order tally order other (rises (before tally) (before_order tally) order a.sorted) (rises (before tally) (before_order tally) other b.sorted)
    (λ rule. same_times rule rules order a.all ∙ sym (same_times rule rules other b.all))

pub rankings_are_one : RankingsAreOne
rankings_are_one tally order is = one_ranking tally order (ranking tally) is (rankings_stand tally)

-- what a sort of the book returns
pub sorted_book : (tally : Tally) (book order : List Rule) → book ≡ rules → IsPermutation book order → IsSortedBy (before tally) order → order ≡ ranking tally
sorted_book tally book order is all up =
    rankings_are_one tally order (record { all = subst (λ (some : List Rule). IsPermutation some order) is all; sorted = up })

pub ranking_length : (tally : Tally) → length (ranking tally) ≡ last_number
ranking_length tally = length_permutation rules (ranking tally) (rankings_stand tally).all
