-- There are no two reports of the same violations.
use Rattle.std.proofs.Common.{◌≡◌, ℕ, ◌+◌, ◌<◌, zero, suc, List, [], ◌∷◌, length, refl, sym, ap, subst, ◌∙◌, ◌⊎◌, inl, inr, arith}
use Rattle.std.specs.List.{Any, slice_index_or}
use Rattle.t1_rules.specs.Book.{number_of}
use Rattle.t1_report.specs.Faults.{FaultValue}
use Rattle.t1_report.proofs.Numbered.{numbered_head, numbered_tail}
use Rattle.t1_report.specs.Reports.{Place, Comes, IsBefore, place_of, StandsAt, IsRising, AreNumbered, IsReportOf, path_at, IsTold, spot}
use Rattle.t1_report.specs.Laws.Reports.{HasNoOtherReport}

never_itself : (u s r : ℕ) → Comes (spot u s r) (spot u s r) → ⊥
never_itself u s r (inl unit) = omega arith
never_itself u s r (inr (unit, inl step)) = omega arith
never_itself u s r (inr (unit, inr (step, rule))) = omega arith

never_both : (u s r u' s' r' : ℕ) → Comes (spot u s r) (spot u' s' r') → Comes (spot u' s' r') (spot u s r) → ⊥
never_both u s r u' s' r' (inl a) (inl b) = omega arith
never_both u s r u' s' r' (inl a) (inr (b, c)) = omega arith
never_both u s r u' s' r' (inr (a, c)) (inl b) = omega arith
never_both u s r u' s' r' (inr (a, inl c)) (inr (b, inl d)) = omega arith
never_both u s r u' s' r' (inr (a, inl c)) (inr (b, inr (d, e))) = omega arith
never_both u s r u' s' r' (inr (a, inr (c, e))) (inr (b, inl d)) = omega arith
never_both u s r u' s' r' (inr (a, inr (c, e))) (inr (b, inr (d, f))) = omega arith

pub itself : (p : Place) → IsBefore p p → ⊥
itself p = never_itself p.unit p.step (number_of p.rule)

pub both : (p q : Place) → IsBefore p q → IsBefore q p → ⊥
both p q = never_both p.unit p.step (number_of p.rule) q.unit q.step (number_of q.rule)

-- ---- lists of faults

-- the places of some faults are places of others
abbrev pub AreAmong : List FaultValue → List FaultValue → Type 0
AreAmong xs ys = (i : ℕ) (d : FaultValue) → i < length xs → Any (StandsAt (place_of (slice_index_or xs i d))) ys

-- each has the path of its place
abbrev pub HavePaths : (Place → List ℕ) → List FaultValue → Type 0
HavePaths path_of xs = (i : ℕ) (d : FaultValue) → i < length xs → (slice_index_or xs i d).path ≡ path_of (place_of (slice_index_or xs i d))

pub rising_tail : (x : FaultValue) (xs : List FaultValue) → IsRising (x ∷ xs) → IsRising xs
rising_tail x xs rising i j d lt within = rising (suc i) (suc j) d (omega arith) (omega arith)

rising_head : (x : FaultValue) (xs : List FaultValue) → IsRising (x ∷ xs) → (i : ℕ) (d : FaultValue) → i < length xs
    → IsBefore (place_of x) (place_of (slice_index_or xs i d))
rising_head x xs rising i d lt = rising 0 (suc i) d (omega arith) (omega arith)

-- where a fault is: first, or further on and so later
first_or_later : (p : Place) (y : FaultValue) (ys : List FaultValue) → IsRising (y ∷ ys) → Any (StandsAt p) (y ∷ ys) → (place_of y ≡ p)
    ⊎ IsBefore (place_of y) p
first_or_later p y ys rising (zero, z, lt, at, same) = inl (subst (StandsAt p) (sym at) same)
first_or_later p y ys rising (suc k, z, lt, at, same) =
    inr (subst (IsBefore (place_of y)) same (subst (λ f. IsBefore (place_of y) (place_of f)) at (rising_head y ys rising k z (omega arith))))

pub heads_same : (x y : FaultValue) (xs ys : List FaultValue) → IsRising (x ∷ xs) → IsRising (y ∷ ys) → AreAmong (x ∷ xs) (y ∷ ys) → AreAmong (y ∷ ys) (x ∷ xs)
    → place_of x ≡ place_of y
heads_same x y xs ys rise rise' among among' =
    elim (first_or_later (place_of x) y ys rise' (among 0 x (omega arith))) [
      | inl same ↦ sym same
      | inr later ↦ elim (first_or_later (place_of y) x xs rise (among' 0 y (omega arith))) [
        | inl same ↦ same
        | inr earlier ↦ absurd (both (place_of x) (place_of y) earlier later)
      ]
    ]

-- what comes after the first is after the other's first
pub among_tail : (x y : FaultValue) (xs ys : List FaultValue) → place_of x ≡ place_of y → IsRising (x ∷ xs) → AreAmong (x ∷ xs) (y ∷ ys) → AreAmong xs ys
among_tail x y xs ys same rising among i d lt = later (among (suc i) d (omega arith))
  where
    later : Any (StandsAt (place_of (slice_index_or xs i d))) (y ∷ ys) → Any (StandsAt (place_of (slice_index_or xs i d))) ys
    later (suc k, z, within, at, is) = (k, z, omega arith, at, is)
    later (zero, z, within, at, is) =
        let here : place_of y ≡ place_of (slice_index_or xs i d) = subst (StandsAt (place_of (slice_index_or xs i d))) (sym at) is in
        absurd (itself (place_of x) (subst (IsBefore (place_of x)) (sym (same ∙ here)) (rising_head x xs rising i d lt)))

made : ℕ → Place → List ℕ → FaultValue
made number p path = record { number = number; unit = p.unit; step = p.step; rule = p.rule; path = path }

pub same_fault : (path_of : Place → List ℕ) (x y : FaultValue) → x.number ≡ y.number → place_of x ≡ place_of y → x.path ≡ path_of (place_of x)
    → y.path ≡ path_of (place_of y) → x ≡ y
unfolding made
same_fault path_of x y number place path path' =
    ap (λ (n : ℕ). made n (place_of x) x.path) number ∙ ap (λ (p : Place). made y.number p x.path) place
    ∙ ap (made y.number (place_of y)) (path ∙ ap path_of place ∙ sym path')

equal_lists : (path_of : Place → List ℕ) (n : ℕ) (xs ys : List FaultValue) → IsRising xs → IsRising ys → AreAmong xs ys → AreAmong ys xs → AreNumbered n xs
    → AreNumbered n ys → HavePaths path_of xs → HavePaths path_of ys → xs ≡ ys
equal_lists path_of n [] [] rise rise' among among' number number' none none' = refl
equal_lists path_of n [] (y ∷ ys) rise rise' among among' number number' none none' = let found = among' 0 y (omega arith) in absurd (omega (arith, found.2))
equal_lists path_of n (x ∷ xs) [] rise rise' among among' number number' none none' = let found = among 0 x (omega arith) in absurd (omega (arith, found.2))
equal_lists path_of n (x ∷ xs) (y ∷ ys) rise rise' among among' number number' none none' =
    let same = heads_same x y xs ys rise rise' among among' in
    let first : x ≡ y = same_fault path_of x y (numbered_head n x xs number ∙ sym (numbered_head n y ys number')) same
    (none 0 x (omega arith)) (none' 0 y (omega arith)) in
    let rest : xs ≡ ys = equal_lists path_of (n + 1) xs ys (rising_tail x xs rise) (rising_tail y ys rise') (among_tail x y xs ys same rise among)
    (among_tail y x ys xs (sym same) rise' among') (numbered_tail n x xs number) (numbered_tail n y ys number')
    (λ i d lt. none (suc i) d (omega arith)) (λ i d lt. none' (suc i) d (omega arith)) in
    ap (λ (z : FaultValue). z ∷ xs) first ∙ ap (λ (zs : List FaultValue). y ∷ zs) rest

pub one_report : (Violated : Place → Type 0) (path_of : Place → List ℕ) (a b : List FaultValue) → IsReportOf Violated path_of a → IsReportOf Violated path_of b
    → a ≡ b
one_report Violated path_of a b p q =
    equal_lists path_of 1 a b p.rising q.rising (λ i d lt. q.complete (place_of (slice_index_or a i d)) (p.violations i d lt).violated)
    (λ i d lt. p.complete (place_of (slice_index_or b i d)) (q.violations i d lt).violated) p.numbered q.numbered
    (λ i d lt. (p.violations i d lt).path) (λ i d lt. (q.violations i d lt).path)

pub no_other_report : HasNoOtherReport
no_other_report font waivers a b = one_report (IsTold font waivers) (path_at font) a b
