-- Names have one order.
use Rattle.std.proofs.Common.{◌≡◌, ℕ, ◌+◌, ◌<◌, Bool, true, false, cond, List, [], ◌∷◌, Ordering, Less, Equal, Greater, ⊎_elim, add-one, arith, get_or, length, sum_by, refl, sym, ap, ◌∙◌}
use Rattle.std.proofs.lemmas.Bool.{cases_Bool, cond-false, cond-true, true≢false}
use Rattle.std.proofs.lemmas.List.Sorted.{length_permutation, ranks_by, sorted_far, sum_by-IsPermutation}
use Rattle.std.proofs.lemmas.List.Sums.{sum_by-cons}
use Rattle.std.proofs.lemmas.Map.Text.{is_eq-slice_cmp}
use Rattle.std.proofs.lemmas.Slice.Eq.{bytes_eq-Decides}
use Rattle.std.proofs.lemmas.Cmp.{nat_list_cmp_total}
use Rattle.std.specs.Cmp.Lexicographic.{slice_cmp}
use Rattle.std.specs.List.Sorted.{IsSorted}
use Rattle.std.specs.Ordering.{is_eq, is_lt, nat_cmp, ordering_reverse}
use Rattle.std.specs.Str.{bytes_eq}
use Rattle.t1_names.specs.Folders.{AreInOrder}

abbrev is_below : List ℕ → List ℕ → Bool
is_below a b = is_lt (slice_cmp nat_cmp a b)

only_equal : (o p : Ordering) → o ≡ ordering_reverse p → is_lt o ≡ false → is_lt p ≡ false → is_eq o ≡ true
only_equal Less p is no_less other = absurd (true≢false no_less)
only_equal Equal p is no_less other = refl
only_equal Greater Less is no_less other = absurd (true≢false other)
only_equal Greater Equal is no_less other = cc
only_equal Greater Greater is no_less other = cc

same_name : (a b : List ℕ) → is_lt (slice_cmp nat_cmp a b) ≡ false → is_lt (slice_cmp nat_cmp b a) ≡ false → a ≡ b
same_name a b no_less no_more =
    (bytes_eq-Decides a b).0
    (sym (is_eq-slice_cmp a b) ∙ only_equal (slice_cmp nat_cmp a b) (slice_cmp nat_cmp b a) (nat_list_cmp_total.antisymm a b) no_less no_more)

abbrev one_if : List ℕ → List ℕ → ℕ
one_if name other = cond (bytes_eq name other) 1 0

abbrev how_many : List ℕ → List (List ℕ) → ℕ
how_many name [] = 0
how_many name (first ∷ names) = one_if name first + how_many name names

how_many-sum : (name : List ℕ) (names : List (List ℕ)) → how_many name names ≡ sum_by (one_if name) names
how_many-sum name [] = refl
how_many-sum name (first ∷ names) = ap (λ n. one_if name first + n) (how_many-sum name names) ∙ sym (sum_by-cons (one_if name) first names)

one_if-same : (name : List ℕ) → one_if name name ≡ 1
one_if-same name = cond-true (bytes_eq name name) 1 0 ((bytes_eq-Decides name name).1 refl)

-- a name that is there is at some place
place_of : (name : List ℕ) (names : List (List ℕ)) → 0 < how_many name names → (at : ℕ) × (at < length names) × ((d : List ℕ) → get_or names at d ≡ name)
place_of name [] some = absurd (omega arith)
place_of name (first ∷ names) some =
    ⊎_elim
    (λ same. (0, omega arith, λ d. sym ((bytes_eq-Decides name first).0 same)))
    (λ other.
    let none : one_if name first ≡ 0 = cond-false (bytes_eq name first) 1 0 other in
    let later : (at : ℕ) × (at < length names) × ((d : List ℕ) → get_or names at d ≡ name) = place_of name names (omega (arith, none)) in
    (later.0 + 1, omega (arith, later.1), λ d. ap (λ n. get_or (first ∷ names) n d) (add-one later.0) ∙ later.2 d))
    (cases_Bool (bytes_eq name first))

sorted_tail : (first : List ℕ) (names : List (List ℕ)) → IsSorted (slice_cmp nat_cmp) (first ∷ names) → IsSorted (slice_cmp nat_cmp) names
sorted_tail first names ascend k d low high =
    let next : get_or (first ∷ names) (k + 1 + 1) d ≡ get_or names (k + 1) d = ap (λ n. get_or (first ∷ names) n d) (add-one (k + 1)) in
    let here : get_or (first ∷ names) (k + 1) d ≡ get_or names k d = ap (λ n. get_or (first ∷ names) n d) (add-one k) in
    ap (λ n. is_below n (get_or names k d)) (sym next) ∙ ap (λ n. is_below (get_or (first ∷ names) (k + 1 + 1) d) n) (sym here)
    ∙ ascend (k + 1) d (omega arith) (omega arith)

-- no name is below the first
none_below : (first other : List ℕ) (names : List (List ℕ)) → IsSorted (slice_cmp nat_cmp) (first ∷ names) → 0 < how_many other (first ∷ names)
    → is_lt (slice_cmp nat_cmp other first) ≡ false
none_below first other names ascend some =
    let place : (at : ℕ) × (at < length (first ∷ names)) × ((d : List ℕ) → get_or (first ∷ names) at d ≡ other) = place_of other (first ∷ names) some in
    ap (λ n. is_below n first) (sym (place.2 first))
    ∙ sorted_far is_below (ranks_by nat_list_cmp_total (λ (n : List ℕ). n)) (first ∷ names) ascend 0 place.0 first (omega arith) place.1

same_sorted : (xs ys : List (List ℕ)) → length xs ≡ length ys → ((name : List ℕ) → how_many name xs ≡ how_many name ys) → IsSorted (slice_cmp nat_cmp) xs
    → IsSorted (slice_cmp nat_cmp) ys → xs ≡ ys
same_sorted [] [] long many up up' = refl
same_sorted [] (y ∷ ys) long many up up' = absurd (omega arith)
same_sorted (x ∷ xs) [] long many up up' = absurd (omega arith)
same_sorted (x ∷ xs) (y ∷ ys) long many up up' =
    let x_there : 0 < how_many x (y ∷ ys) = omega (arith, many x, one_if-same x) in
    let y_there : 0 < how_many y (x ∷ xs) = omega (arith, many y, one_if-same y) in
    let first : x ≡ y = same_name x y (none_below y x ys up' x_there) (none_below x y xs up y_there) in
    let rest : (name : List ℕ) → how_many name xs ≡ how_many name ys = λ name. omega (arith, many name, ap (one_if name) first) in
    let tails : xs ≡ ys = same_sorted xs ys (omega arith) rest (sorted_tail x xs up) (sorted_tail y ys up') in cc

pub one_order : (names sorted sorted' : List (List ℕ)) → AreInOrder names sorted → AreInOrder names sorted' → sorted ≡ sorted'
one_order names sorted sorted' one other =
    same_sorted sorted sorted' (length_permutation names sorted one.same ∙ sym (length_permutation names sorted' other.same))
    (λ name. how_many-sum name sorted ∙ sum_by-IsPermutation (one_if name) names sorted one.same
    ∙ sym (how_many-sum name sorted' ∙ sum_by-IsPermutation (one_if name) names sorted' other.same))
    one.ascend other.ascend
