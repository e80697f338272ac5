-- Texts that are counted in the order of their first places, one after another.
use Rattle.std.proofs.Common.{◌≡◌, ℕ, ◌+◌, ◌||◌, Bool, true, false, true≢false, not, List, [], ◌∷◌, ◌++◌, cond, filter, map, inl, inr, refl, sym, ap, ap₂, subst, ◌∙◌, append-nil, arith}
use Rattle.std.proofs.lemmas.Bool.{cases_Bool}
use Rattle.std.proofs.lemmas.List.{map-append}
use Rattle.std.proofs.lemmas.List.Elements.{filter-append}
use Rattle.std.proofs.lemmas.List.Sums.{sum_by_push}
use Rattle.std.specs.List.{AllByRecursion, IsDistinct}
use Rattle.std.specs.Str.{bytes_eq}
use Rattle.indexmap.specs.IndexMap.{insert_entry}
use Rattle.t1_many.proofs.CountsOf.{count_cons}
use Rattle.t1_many.proofs.DistinctKinds.{kinds_once}
use Rattle.t1_many.proofs.Texts.{apart, equal, itself}
use Rattle.t1_many.specs.KnownFaults.{counts_of, distinct, found_count, is_among}

swapped : (a b : List ℕ) → bytes_eq a b ≡ bytes_eq b a
swapped a b = elim (cases_Bool (bytes_eq a b)) [
  | inl same ↦ (let is : a ≡ b = equal a b same in subst (λ (t : List ℕ). bytes_eq a t ≡ bytes_eq t a) is refl)
  | inr other ↦ other ∙ sym (apart a b other)
]

abbrev others : List ℕ → List (List ℕ) → List (List ℕ)
others a texts = filter (λ b. not (bytes_eq a b)) texts

pub or_true : (b : Bool) → (b || true) ≡ true
or_true true = refl
or_true false = refl

-- ---- one text more

distinct-push : (texts : List (List ℕ)) (text : List ℕ) → distinct (texts ++ text ∷ []) ≡ distinct texts ++ cond (is_among texts text) [] (text ∷ [])
distinct-push [] text = refl
distinct-push (x ∷ texts) text =
    ap (λ l. x ∷ others x l) (distinct-push texts text)
    ∙ ap (λ (l : List (List ℕ)). x ∷ l)
    (filter-append (λ (b : List ℕ). not (bytes_eq x b)) (distinct texts) (cond (is_among texts text) [] (text ∷ []))
    ∙ ap (λ l. others x (distinct texts) ++ l) (last (is_among texts text)))
  where
    kept : (b : Bool) → bytes_eq x text ≡ b → others x (text ∷ []) ≡ cond (b || false) [] (text ∷ [])
    kept true is = ap (λ t. cond (not t) (text ∷ []) []) is
    kept false is = ap (λ t. cond (not t) (text ∷ []) []) is

    last : (b : Bool) → others x (cond b [] (text ∷ [])) ≡ cond (bytes_eq text x || b) [] (text ∷ [])
    last true = sym (ap (λ t. cond t [] (text ∷ [])) (or_true (bytes_eq text x)))
    last false = kept (bytes_eq text x) (swapped x text)

among_others : (text x : List ℕ) (xs : List (List ℕ)) → bytes_eq text x ≡ false → is_among (others x xs) text ≡ is_among xs text
among_others text x [] other = refl
among_others text x (y ∷ xs) other = elim (cases_Bool (bytes_eq x y)) [
  | inl same ↦
      let differ : bytes_eq text y ≡ false = subst (λ (t : List ℕ). bytes_eq text t ≡ false) (equal x y same) other in
      rw (same, differ) (among_others text x xs other)
  | inr differ ↦ rw differ (ap (λ b. bytes_eq text y || b) (among_others text x xs other))
]

-- a text is counted where it is among them
pub among_distinct : (text : List ℕ) (texts : List (List ℕ)) → is_among (distinct texts) text ≡ is_among texts text
among_distinct text [] = refl
among_distinct text (x ∷ texts) = elim (cases_Bool (bytes_eq text x)) [
  | inl same ↦ rw same refl
  | inr other ↦ rw other (among_others text x (distinct texts) other ∙ among_distinct text texts)
]

-- ---- with counts

abbrev with_counts : (List ℕ → ℕ) → List (List ℕ) → List (List ℕ × ℕ)
with_counts n texts = map (λ text. (text, n text)) texts

-- One more of a text.
abbrev more : List ℕ → (List ℕ → ℕ) → List ℕ → ℕ
more text n x = n x + cond (bytes_eq x text) 1 0

no_more : (text : List ℕ) (n : List ℕ → ℕ) (x : List ℕ) → bytes_eq text x ≡ false → n x ≡ more text n x
no_more text n x other =
    let same : n x ≡ n x + 0 = omega arith in
    same ∙ ap (λ t. n x + cond t 1 0) (sym (apart text x other))

left_alone : (text : List ℕ) (n : List ℕ → ℕ) (xs : List (List ℕ)) → AllByRecursion (λ y. bytes_eq text y ≡ false) xs
    → with_counts (more text n) xs ≡ with_counts n xs
left_alone text n [] all = refl
left_alone text n (x ∷ xs) all =
    ap₂ (λ k (es : List (List ℕ × ℕ)). (x, k) ∷ es) (sym (no_more text n x all.0)) (left_alone text n xs all.1)

there : (text : List ℕ) (n : List ℕ → ℕ) (xs : List (List ℕ)) → IsDistinct bytes_eq xs → is_among xs text ≡ true
    → insert_entry bytes_eq (with_counts n xs) text (n text + 1) ≡ with_counts (more text n) xs
unfolding IsDistinct
there text n [] once is = absurd (true≢false (sym is))
there text n (x ∷ xs) once is = elim (cases_Bool (bytes_eq text x)) [
  | inl same ↦
      let e : text ≡ x = equal text x same in
      rw same (ap₂ (λ k (es : List (List ℕ × ℕ)). (x, k) ∷ es)
      (ap (λ t. n t + 1) e ∙ ap (λ b. n x + cond b 1 0) (sym (swapped x text ∙ same)))
      (sym (left_alone text n xs (subst (λ (t : List ℕ). AllByRecursion (λ y. bytes_eq t y ≡ false) xs) (sym e) once.0))))
  | inr other ↦
      let rest : is_among xs text ≡ true = rw other at is in
      rw other (ap₂ (λ k (es : List (List ℕ × ℕ)). (x, k) ∷ es) (no_more text n x other) (there text n xs once.1 rest))
]

not_there : (text : List ℕ) (n : List ℕ → ℕ) (xs : List (List ℕ)) (k : ℕ) → is_among xs text ≡ false
    → insert_entry bytes_eq (with_counts n xs) text k ≡ with_counts (more text n) xs ++ (text, k) ∷ []
not_there text n [] k is = refl
not_there text n (x ∷ xs) k is =
    let other : bytes_eq text x ≡ false = first_false (bytes_eq text x) (is_among xs text) is in
    let rest : is_among xs text ≡ false = second_false (bytes_eq text x) (is_among xs text) is in
    rw other (ap₂ (λ c (es : List (List ℕ × ℕ)). (x, c) ∷ es) (no_more text n x other) (not_there text n xs k rest))
  where
    first_false : (a b : Bool) → (a || b) ≡ false → a ≡ false
    first_false true b e = absurd (true≢false e)
    first_false false b e = refl

    second_false : (a b : Bool) → (a || b) ≡ false → b ≡ false
    second_false true b e = absurd (true≢false e)
    second_false false b e = e

found-push : (texts : List (List ℕ)) (text x : List ℕ) → found_count (texts ++ text ∷ []) x ≡ more text (found_count texts) x
found-push texts text x = sum_by_push (λ (y : List ℕ). cond (bytes_eq x y) 1 0) texts text

all-push : (texts : List (List ℕ)) (text : List ℕ) (xs : List (List ℕ))
    → with_counts (found_count (texts ++ text ∷ [])) xs ≡ with_counts (more text (found_count texts)) xs
all-push texts text [] = refl
all-push texts text (x ∷ xs) =
    ap₂ (λ k (es : List (List ℕ × ℕ)). (x, k) ∷ es) (found-push texts text x) (all-push texts text xs)

pub counts-push : (texts : List (List ℕ)) (text : List ℕ)
    → insert_entry bytes_eq (counts_of texts) text (found_count texts text + 1) ≡ counts_of (texts ++ text ∷ [])
counts-push texts text = elim (cases_Bool (is_among texts text)) [
  | inl is ↦
      let same : distinct (texts ++ text ∷ []) ≡ distinct texts =
      distinct-push texts text ∙ ap (λ t. distinct texts ++ cond t [] (text ∷ [])) is ∙ append-nil (distinct texts) in
      there text (found_count texts) (distinct texts) (kinds_once texts) (among_distinct text texts ∙ is)
      ∙ sym (all-push texts text (distinct texts)) ∙ ap (with_counts (found_count (texts ++ text ∷ []))) (sym same)
  | inr new ↦
      let longer : distinct (texts ++ text ∷ []) ≡ distinct texts ++ text ∷ [] =
      distinct-push texts text ∙ ap (λ t. distinct texts ++ cond t [] (text ∷ [])) new in
      let last : found_count texts text + 1 ≡ found_count (texts ++ text ∷ []) text =
      sym (found-push texts text text ∙ ap (λ t. found_count texts text + cond t 1 0) (itself text)) in
      not_there text (found_count texts) (distinct texts) (found_count texts text + 1) (among_distinct text texts ∙ new)
      ∙ ap₂ (λ (es : List (List ℕ × ℕ)) k. es ++ (text, k) ∷ []) (sym (all-push texts text (distinct texts))) last
      ∙ sym (map-append (λ (t : List ℕ). (t, found_count (texts ++ text ∷ []) t)) (distinct texts) (text ∷ []))
      ∙ ap (with_counts (found_count (texts ++ text ∷ []))) (sym longer)
]

-- ---- looked up

-- How often a text was counted, 0 where it wasn't.
abbrev pub count_at : List (List ℕ × ℕ) → List ℕ → ℕ
count_at [] text = 0
count_at (c ∷ counts) text = cond (bytes_eq text c.0) c.1 (count_at counts text)

counted : (n : List ℕ → ℕ) (xs : List (List ℕ)) (text : List ℕ) → count_at (with_counts n xs) text ≡ cond (is_among xs text) (n text) 0
counted n [] text = refl
counted n (x ∷ xs) text = elim (cases_Bool (bytes_eq text x)) [
  | inl same ↦ rw same (ap n (sym (equal text x same)))
  | inr other ↦ rw other (counted n xs text)
]

none_found : (texts : List (List ℕ)) (text : List ℕ) → is_among texts text ≡ false → found_count texts text ≡ 0
none_found [] text none = refl
none_found (x ∷ texts) text none = elim (cases_Bool (bytes_eq text x)) [
  | inl same ↦ (let there : true ≡ false = rw same at none in absurd (true≢false there))
  | inr other ↦
      let rest : is_among texts text ≡ false = rw other at none in
      count_cons (bytes_eq text) x texts ∙ ap₂ (λ b k. cond b 1 0 + k) other (none_found texts text rest)
]

pub found_at : (texts : List (List ℕ)) (text : List ℕ) → count_at (counts_of texts) text ≡ found_count texts text
found_at texts text =
    counted (found_count texts) (distinct texts) text
    ∙ ap (λ b. cond b (found_count texts text) 0) (among_distinct text texts)
    ∙ elim (cases_Bool (is_among texts text)) [
      | inl is ↦ ap (λ b. cond b (found_count texts text) 0) is
      | inr none ↦ ap (λ b. cond b (found_count texts text) 0) none ∙ sym (none_found texts text none)
    ]
