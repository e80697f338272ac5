-- How a prefix of a report grows, whatever its violations are: by a fault, and over places without one.
use Rattle.std.proofs.Common.{◌≡◌, ℕ, ◌+◌, ◌≤◌, ◌⊎◌, inl, inr, List, [], ◌∷◌, ◌++◌, length, slice_index_or, refl, sym, ap, subst, ◌∙◌, arith}
use Rattle.std.proofs.lemmas.Bool.{cases_order}
use Rattle.std.specs.List.{All, Any}
use Rattle.std.proofs.Math.ListN.{get_or-append}
use Rattle.std.proofs.Math.Seq.{get_or-append_seam}
use Rattle.t1_rules.specs.declared.rule.Rule.{Rule}
use Rattle.t1_rules.specs.Book.{number_of}
use Rattle.t1_report.specs.Faults.{FaultValue}
use Rattle.t1_report.proofs.Numbered.{number_there, numbered_by_places}
use Rattle.t1_report.specs.Reports.{Place, Comes, IsBefore, IsViolationOf, IsReportOf, place_of, StandsAt, IsRising, AreNumbered, spot, spot_of}
use Rattle.t1_report.specs.Private.Fronts.{IsFrontOf}
use Rattle.t1_rules.proofs.Lemmas.Book.{one_rule}

-- ---- the order of places

pub comes_on : (u s r u' s' r' u'' s'' r'' : ℕ) → Comes (spot u s r) (spot u' s' r') → Comes (spot u' s' r') (spot u'' s'' r'')
    → Comes (spot u s r) (spot u'' s'' r'')
comes_on u s r u' s' r' u'' s'' r'' (inl a) (inl b) = inl (omega arith)
comes_on u s r u' s' r' u'' s'' r'' (inl a) (inr (b, c)) = inl (omega arith)
comes_on u s r u' s' r' u'' s'' r'' (inr (a, c)) (inl b) = inl (omega arith)
comes_on u s r u' s' r' u'' s'' r'' (inr (a, inl c)) (inr (b, inl d)) = inr (omega arith, inl (omega arith))
comes_on u s r u' s' r' u'' s'' r'' (inr (a, inl c)) (inr (b, inr (d, e))) = inr (omega arith, inl (omega arith))
comes_on u s r u' s' r' u'' s'' r'' (inr (a, inr (c, e))) (inr (b, inl d)) = inr (omega arith, inl (omega arith))
comes_on u s r u' s' r' u'' s'' r'' (inr (a, inr (c, e))) (inr (b, inr (d, f))) = inr (omega arith, inr (omega arith, omega arith))

-- what comes before the next rule number of a step comes before the rule, or is there
comes_next : (u s r u' s' r' : ℕ) → Comes (spot u s r) (spot u' s' (r' + 1)) → Comes (spot u s r) (spot u' s' r') ⊎ ((u ≡ u') × ((s ≡ s') × (r ≡ r')))
comes_next u s r u' s' r' (inl a) = inl (inl a)
comes_next u s r u' s' r' (inr (a, inl b)) = inl (inr (a, inl b))
comes_next u s r u' s' r' (inr (a, inr (b, c))) =
    elim (cases_order r r') [
      | inl same ↦ inr (a, (b, same))
      | inr (inl less) ↦ inl (inr (a, inr (b, less)))
      | inr (inr more) ↦ absurd (omega arith)
    ]

never_before_all : (u s r : ℕ) → Comes (spot u s r) (spot 0 0 0) → ⊥
never_before_all u s r (inl a) = omega arith
never_before_all u s r (inr (a, inl b)) = omega arith
never_before_all u s r (inr (a, inr (b, c))) = omega arith

made : ℕ → ℕ → Rule → Place
made unit step rule = record { unit = unit; step = step; rule = rule }

standing : (p q : Place) → p.unit ≡ q.unit → p.step ≡ q.step → p.rule ≡ q.rule → q ≡ p
unfolding made
standing p q unit at is =
    ap (λ (u : ℕ). made u q.step q.rule) (sym unit) ∙ ap (λ (s : ℕ). made p.unit s q.rule) (sym at) ∙ ap (made p.unit p.step) (sym is)

-- ---- lists

any_left : (P : FaultValue → Type 0) (xs ys : List FaultValue) → Any P xs → Any P (xs ++ ys)
any_left P xs ys (k, x, lt, at, is) =
    (k, x, (let l = length_more xs ys in omega (arith, l)), get_or-append xs ys x k lt ∙ at, is)
  where
    length_more : (xs ys : List FaultValue) → length xs ≤ length (xs ++ ys)
    length_more [] ys = omega arith
    length_more (x ∷ xs) ys = let l = length_more xs ys in omega (arith, l)

length_one : (xs : List FaultValue) (f : FaultValue) → length (xs ++ f ∷ []) ≡ length xs + 1
length_one [] f = refl
length_one (x ∷ xs) f = let l = length_one xs f in omega (arith, l)

any_last : (P : FaultValue → Type 0) (xs : List FaultValue) (f : FaultValue) → P f → Any P (xs ++ f ∷ [])
any_last P xs f is = (length xs, f, (let l = length_one xs f in omega (arith, l)), get_or-append_seam xs f [] f, is)

all_last : (P : FaultValue → Type 0) (xs : List FaultValue) (f : FaultValue) → All P xs → P f → All P (xs ++ f ∷ [])
all_last P xs f all is k d lt =
    let l = length_one xs f in
    elim (cases_order k (length xs)) [
      | inr (inl less) ↦ subst P (sym (get_or-append xs (f ∷ []) d k less)) (all k d less)
      | inl same ↦ subst (λ (i : ℕ). P (slice_index_or (xs ++ f ∷ []) i d)) (sym same) (subst P (sym (get_or-append_seam xs f [] d)) is)
      | inr (inr more) ↦ absurd (omega (arith, l))
    ]

rising_last : (xs : List FaultValue) (f : FaultValue) → IsRising xs → All (λ x. IsBefore (place_of x) (place_of f)) xs → IsRising (xs ++ f ∷ [])
rising_last xs f rising before i j d lt within =
    let l = length_one xs f in
    elim (cases_order j (length xs)) [
      | inr (inl less) ↦
          subst (λ (x : FaultValue). IsBefore (place_of x) (place_of (slice_index_or (xs ++ f ∷ []) j d))) (sym (get_or-append xs (f ∷ []) d i (omega arith)))
          (subst (λ (x : FaultValue). IsBefore (place_of (slice_index_or xs i d)) (place_of x))
          (sym (get_or-append xs (f ∷ []) d j less)) (rising i j d lt less))
      | inl same ↦
          subst (λ (x : FaultValue). IsBefore (place_of x) (place_of (slice_index_or (xs ++ f ∷ []) j d))) (sym (get_or-append xs (f ∷ []) d i (omega arith)))
          (subst (λ (n : ℕ). IsBefore (place_of (slice_index_or xs i d)) (place_of (slice_index_or (xs ++ f ∷ []) n d))) (sym same)
          (subst (λ (x : FaultValue). IsBefore (place_of (slice_index_or xs i d)) (place_of x))
          (sym (get_or-append_seam xs f [] d)) (before i d (omega arith))))
      | inr (inr more) ↦ absurd (omega (arith, l))
    ]

numbered_last : (xs : List FaultValue) (f : FaultValue) → AreNumbered 1 xs → f.number ≡ length xs + 1 → AreNumbered 1 (xs ++ f ∷ [])
numbered_last xs f numbered is = numbered_by_places 1 (xs ++ f ∷ []) (λ i d lt.
    let l = length_one xs f in
    elim (cases_order i (length xs)) [
      | inr (inl less) ↦ ap (λ (x : FaultValue). x.number) (get_or-append xs (f ∷ []) d i less) ∙ number_there 1 xs numbered i d less
      | inl same ↦
          ap (λ (n : ℕ). (slice_index_or (xs ++ f ∷ []) n d).number) same
          ∙ ap (λ (x : FaultValue). x.number) (get_or-append_seam xs f [] d) ∙ is ∙ ap (λ (n : ℕ). n + 1) (sym same)
      | inr (inr more) ↦ absurd (omega (arith, l))
    ])

-- ---- prefixes

-- the fault at a place
abbrev pub fault_at : ℕ → Place → List ℕ → FaultValue
fault_at number p path = record { number = number; unit = p.unit; step = p.step; rule = p.rule; path = path }

module _ (Violated : Place → Type 0) (path_of : Place → List ℕ) where
  -- nothing is before the first place
  pub front_start : IsFrontOf Violated path_of 0 0 0 []
  front_start = record {
    rising = λ i j d lt within. absurd (omega arith);
    violations = λ k d lt. absurd (omega arith);
    before = λ k d lt. absurd (omega arith);
    complete = λ p is before. absurd (never_before_all p.unit p.step (number_of p.rule) before);
    numbered = refl;
  }

  -- a prefix reaches up to a place if no violation is between
  pub front_on : (u s r u' s' r' : ℕ) (faults : List FaultValue) → IsFrontOf Violated path_of u s r faults
      → ((u0 s0 r0 : ℕ) → Comes (spot u0 s0 r0) (spot u s r) → Comes (spot u0 s0 r0) (spot u' s' r'))
      → ((p : Place) → Violated p → Comes (spot_of p) (spot u' s' r') → Comes (spot_of p) (spot u s r))
      → IsFrontOf Violated path_of u' s' r' faults
  front_on u s r u' s' r' faults front further back = record {
    rising = front.rising;
    violations = front.violations;
    before = λ k d lt. further (slice_index_or faults k d).unit (slice_index_or faults k d).step
        (number_of (slice_index_or faults k d).rule) (front.before k d lt);
    complete = λ p is before. front.complete p is (back p is before);
    numbered = front.numbered;
  }

  -- a prefix up to a violation, and then this violation
  pub front_with : (p : Place) (faults : List FaultValue) → IsFrontOf Violated path_of p.unit p.step (number_of p.rule) faults → Violated p
      → IsFrontOf Violated path_of p.unit p.step (number_of p.rule + 1) (faults ++ fault_at (length faults + 1) p (path_of p) ∷ [])
  front_with p faults front is =
      let f = fault_at (length faults + 1) p (path_of p) in
      record {
        rising = rising_last faults f front.rising front.before;
        violations = all_last (IsViolationOf Violated path_of) faults f front.violations (record { violated = is; path = refl });
        before = all_last (λ fault. Comes (spot fault.unit fault.step (number_of fault.rule)) (spot p.unit p.step (number_of p.rule + 1))) faults f
            (λ k d lt. comes_on (slice_index_or faults k d).unit (slice_index_or faults k d).step (number_of (slice_index_or faults k d).rule) p.unit p.step
            (number_of p.rule) p.unit p.step (number_of p.rule + 1)
            (front.before k d lt) (inr (refl, inr (refl, omega arith))))
            (inr (refl, inr (refl, omega arith)));
        complete = λ q broken before. elim (comes_next q.unit q.step (number_of q.rule) p.unit p.step (number_of p.rule) before) [
          | inl earlier ↦ any_left (StandsAt q) faults (f ∷ []) (front.complete q broken earlier)
          | inr (unit, (step, rule)) ↦ any_last (StandsAt q) faults f (standing q p unit step (one_rule q.rule p.rule rule))
        ];
        numbered = numbered_last faults f front.numbered refl;
      }

  -- a prefix that no violation follows is the report
  pub front_ends : (u s r : ℕ) (faults : List FaultValue) → IsFrontOf Violated path_of u s r faults
      → ((p : Place) → Violated p → Comes (spot_of p) (spot u s r)) → IsReportOf Violated path_of faults
  front_ends u s r faults front all = record {
    rising = front.rising;
    violations = front.violations;
    complete = λ p is. front.complete p is (all p is);
    numbered = front.numbered;
  }
