-- Lists of numbers and zones: their laws, and what is said at the places of a zone's edges, by the zone.
use Rattle.std.proofs.Common.{◌≡◌, ℕ, zero, suc, ◌+◌, ◌-◌, ◌*◌, ◌<◌, ◌≤◌, ◌⊎◌, ◌&&◌, Bool, true, false, T, not, nat_lt, int_lt, ℤ, pos, negsuc, ◌-ℤ◌, ◌≤ℤ◌, Some, None, List, [], ◌∷◌, length, slice_get, slice_index_or, refl, sym, inl, inr, arith, subst, take, drop, get_or, ◌%◌, ◌==◌, int_le, ◌*ℤ◌, ap, ◌∙◌}
use Rattle.std.proofs.Math.Bool.{and_comm, and-false}
use Rattle.std.proofs.Math.Nat.{eq-or-lt_of_le}
use Rattle.std.proofs.lemmas.Bool.{cases_lt, le-ltb, lt-ltb, eq-eqb}
use Rattle.std.specs.Int.Signed.{lt_z_no, ≤ℤ_refl}
use Rattle.t1_rules.specs.FontRules.Values.{product_one}
use Rattle.t1_rules.specs.FontRules.Hints.{number_at, falls_at}
use Rattle.t1_rules.specs.FontRules.Zones.{Zone, zones, come_near, is_too_near, meets, is_too_high}
use Rattle.t1_rules.specs.Laws.Zones.{ZoneAt}
use Rattle.std.specs.List.{AllPairs, list_any}
use Rattle.std.proofs.Math.Seq.{take-length}

pub near_both_ways : (d : ℤ) (z w : Zone) → come_near d z w ≡ come_near d w z
near_both_ways d z w = and_comm (int_lt (w.lower -ℤ z.upper) d) (int_lt (z.lower -ℤ w.upper) d)

pub zone_there : (v : List ℤ) (j : ℕ) → 2 * j + 1 < length v
    → slice_get (zones v) j ≡ Some (record { lower = number_at v (2 * j); upper = number_at v (2 * j + 1) })
zone_there [] j less = absurd (omega arith)
zone_there (a ∷ []) j less = absurd (omega arith)
zone_there (a ∷ (b ∷ v)) zero less = refl
zone_there (a ∷ (b ∷ v)) (suc j) less =
    let lower : 2 * suc j ≡ suc (suc (2 * j)) = omega arith in
    let upper : 2 * suc j + 1 ≡ suc (suc (2 * j + 1)) = omega arith in
    rw upper (rw lower (zone_there v j (omega arith)))

pub no_zone : (v : List ℤ) (j : ℕ) → length v ≤ 2 * j + 1 → slice_get (zones v) j ≡ None
no_zone [] j past = refl
no_zone (a ∷ []) j past = refl
no_zone (a ∷ (b ∷ v)) zero past = absurd (omega arith)
no_zone (a ∷ (b ∷ v)) (suc j) past = no_zone v j (omega arith)

not_less : (x d : ℤ) → int_lt x d ≡ false → d ≤ℤ x
not_less x d e = lt_z_no (subst (λ b. T (not b)) (sym e) tt)

above : (x d : ℤ) → d ≤ℤ x → int_lt x d ≡ false
above (pos m) (pos n) le = grind arith
above (pos m) (negsuc n) le = grind arith
above (negsuc m) (pos n) le = grind arith
above (negsuc m) (negsuc n) le = grind arith

pub apart_where_above : (d : ℤ) (z w : Zone) → come_near d z w ≡ false → (d ≤ℤ (w.lower -ℤ z.upper)) ⊎ (d ≤ℤ (z.lower -ℤ w.upper))
apart_where_above d z w apart = go (int_lt (w.lower -ℤ z.upper) d) refl
  where
    go : (b : Bool) → int_lt (w.lower -ℤ z.upper) d ≡ b → (d ≤ℤ (w.lower -ℤ z.upper)) ⊎ (d ≤ℤ (z.lower -ℤ w.upper))
    go false e = inl (not_less (w.lower -ℤ z.upper) d e)
    go true e = let second : int_lt (z.lower -ℤ w.upper) d ≡ false = rw e at apart in inr (not_less (z.lower -ℤ w.upper) d second)

pub above_is_apart : (d : ℤ) (z w : Zone) → (d ≤ℤ (w.lower -ℤ z.upper)) ⊎ (d ≤ℤ (z.lower -ℤ w.upper)) → come_near d z w ≡ false
above_is_apart d z w (inl le) = rw (above (w.lower -ℤ z.upper) d le) refl
above_is_apart d z w (inr le) = rw (above (z.lower -ℤ w.upper) d le) (and-false (int_lt (w.lower -ℤ z.upper) d))

chain : (a b c : ℤ) → a ≤ℤ b → b ≤ℤ c → a ≤ℤ c
chain (pos m) (pos n) (pos k) p q = grind arith
chain (pos m) (pos n) (negsuc k) p q = grind arith
chain (pos m) (negsuc n) (pos k) p q = grind arith
chain (pos m) (negsuc n) (negsuc k) p q = grind arith
chain (negsuc m) (pos n) (pos k) p q = grind arith
chain (negsuc m) (pos n) (negsuc k) p q = grind arith
chain (negsuc m) (negsuc n) (pos k) p q = grind arith
chain (negsuc m) (negsuc n) (negsuc k) p q = grind arith

no_fall : (v : List ℤ) (j : ℕ) → falls_at v (suc j) ≡ false → suc j < length v → number_at v j ≤ℤ number_at v (suc j)
no_fall v j none less =
    let after : nat_lt 0 (suc j) ≡ true = lt-ltb 0 (suc j) (omega arith) in
    let there : nat_lt (suc j) (length v) ≡ true = lt-ltb (suc j) (length v) less in
    let one_less : suc j - 1 ≡ j = omega arith in
    let kept : int_lt (number_at v (suc j)) (number_at v j) ≡ false = rw (after, there, one_less) at none in
    not_less (number_at v (suc j)) (number_at v j) kept

rises : (v : List ℤ) → ((index : ℕ) → falls_at v index ≡ false) → (i j : ℕ) → i ≤ j → j < length v → number_at v i ≤ℤ number_at v j
rises v none i zero le less = let first : i ≡ 0 = omega arith in rw first (≤ℤ_refl (number_at v 0))
rises v none i (suc j) le less = elim (eq-or-lt_of_le le) [
  | inl same ↦ rw same (≤ℤ_refl (number_at v (suc j)))
  | inr before ↦ chain (number_at v i) (number_at v j) (number_at v (suc j)) (rises v none i j (omega arith) (omega arith)) (no_fall v j (none (suc j)) less)
]

default_past : (v : List ℤ) (i : ℕ) (d : ℤ) → i < length v → slice_index_or v i d ≡ number_at v i
default_past [] i d less = absurd (omega arith)
default_past (x ∷ v) zero d less = refl
default_past (x ∷ v) (suc i) d less = default_past v i d (omega arith)

pub rising_where_none_falls : (v : List ℤ) → ((index : ℕ) → falls_at v index ≡ false) → AllPairs ◌≤ℤ◌ v
rising_where_none_falls v none i j d before less =
    rw (default_past v i d (omega arith), default_past v j d less) (rises v none i j (omega arith) less)

pub falls_nowhere : (v : List ℤ) → AllPairs ◌≤ℤ◌ v → (index : ℕ) → falls_at v index ≡ false
falls_nowhere v rising zero = refl
falls_nowhere v rising (suc j) = elim (cases_lt (suc j) (length v)) [
  | inl less ↦
      let one_less : suc j - 1 ≡ j = omega arith in
      rw (one_less, above (number_at v (suc j)) (number_at v j) (rising j (suc j) (pos 0) (omega arith) less))
      (and-false (nat_lt 0 (suc j) && nat_lt (suc j) (length v)))
  | inr past ↦ rw (le-ltb (suc j) (length v) past, and-false (nat_lt 0 (suc j))) refl
]

pub after_one : (test : Zone → Bool) (v : List ℤ) (found : Bool) → 2 ≤ length v →
    false ≡ test (record { lower = get_or v 0 (pos 0); upper = get_or v 1 (pos 0) }) →
    list_any test (zones v) ≡ found → list_any test (zones (take (length v - 2) (drop 2 v))) ≡ found
after_one test [] found two apart rest = rest
after_one test (a ∷ []) found two apart rest = rest
after_one test (a ∷ (b ∷ v)) found two apart rest =
    let all : suc (suc (length v)) - 2 ≡ length v = omega arith in
    let later : list_any test (zones v) ≡ found = rw (sym apart) at rest in
    rw (all, take-length v) later

there : (v : List ℤ) (j : ℕ) (z : Zone) → ZoneAt v j z → 2 * j + 1 < length v
there v j z is = elim (cases_lt (2 * j + 1) (length v)) [
  | inl less ↦ less
  | inr past ↦ absurd (let none : None ≡ Some z = sym (no_zone v j past) ∙ is in cc)
]

-- The zone is the two numbers.
edges : (v : List ℤ) (j : ℕ) (z : Zone) → ZoneAt v j z → z ≡ record { lower = number_at v (2 * j); upper = number_at v (2 * j + 1) }
edges v j z is =
    let same : Some z ≡ Some (record { lower = number_at v (2 * j); upper = number_at v (2 * j + 1) }) = sym is ∙ zone_there v j (there v j z is) in cc

even : (j : ℕ) → (2 * j) % 2 ≡ 0
even j = grind arith

odd : (j : ℕ) → (2 * j + 1) % 2 ≡ 1
odd j = grind arith

pub near_the_one_before : (d : ℤ) (v : List ℤ) (j : ℕ) (z w : Zone) → ZoneAt v j z → ZoneAt v (suc j) w →
    is_too_near d v (2 * suc j) ≡ int_lt (w.lower -ℤ z.upper) d
near_the_one_before d v j z w first second =
    let after : nat_lt 0 (2 * suc j) ≡ true = lt-ltb 0 (2 * suc j) (omega arith) in
    let begins : (2 * suc j % 2 == 0) ≡ true = eq-eqb (2 * suc j % 2) 0 (even (suc j)) in
    let ends : nat_lt (2 * suc j + 1) (length v) ≡ true = lt-ltb (2 * suc j + 1) (length v) (there v (suc j) w second) in
    let one_less : 2 * suc j - 1 ≡ 2 * j + 1 = omega arith in
    rw (after, begins, ends, one_less, edges v j z first, edges v (suc j) w second) refl

pub meets_one : (d : ℤ) (v others : List ℤ) (j : ℕ) (z : Zone) → ZoneAt v j z → meets d v others (2 * j) ≡ list_any (come_near d z) (zones others)
meets_one d v others j z is =
    let begins : (2 * j % 2 == 0) ≡ true = eq-eqb (2 * j % 2) 0 (even j) in
    let ends : nat_lt (2 * j + 1) (length v) ≡ true = lt-ltb (2 * j + 1) (length v) (there v j z is) in
    rw (begins, ends) (ap (λ zone. list_any (come_near d zone) (zones others)) (sym (edges v j z is)))

pub reaches_one : (s : ℤ) (v : List ℤ) (j : ℕ) (z : Zone) → ZoneAt v j z →
    is_too_high s v (2 * j + 1) ≡ int_le product_one ((z.upper -ℤ z.lower) *ℤ s)
reaches_one s v j z is =
    let is_odd : ((2 * j + 1) % 2 == 1) ≡ true = eq-eqb ((2 * j + 1) % 2) 1 (odd j) in
    let ends : nat_lt (2 * j + 1) (length v) ≡ true = lt-ltb (2 * j + 1) (length v) (there v j z is) in
    let one_less : 2 * j + 1 - 1 ≡ 2 * j = omega arith in
    rw (is_odd, ends, one_less) (ap (λ zone. int_le product_one ((zone.upper -ℤ zone.lower) *ℤ s)) (sym (edges v j z is)))
