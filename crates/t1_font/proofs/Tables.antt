-- Keys in the order of their first appearance, with what was set last under each: one pair more.
use Rattle.std.proofs.Common.{◌≡◌, ℕ, Bool, true, false, cond, not, List, [], ◌∷◌, ◌++◌, map, filter, refl, ap, sym, ◌∙◌, subst, arith, nat_eq, append-nil, inl, inr}
use Rattle.std.proofs.lemmas.Bool.{cases_Bool}
use Rattle.std.proofs.lemmas.Bool.Decides.{nat_tests}
use Rattle.std.proofs.lemmas.List.{map-append}
use Rattle.std.proofs.lemmas.List.Elements.{filter-append}
use Rattle.std.specs.List.{list_any}
use Rattle.t1_font.specs.Keys.{same_name}
use Rattle.t1_font.specs.Puts.{put_pair}
use Rattle.t1_font.specs.Fonts.{firsts}

-- A comparison that holds of equals, and of them alone.
pub record IsExact {K : Type 0} (eq : K → K → Bool) : Type 0 where
  pub same : (a : K) → eq a a ≡ true
  pub exact : (a b : K) → eq a b ≡ true → a ≡ b

pub nat_exact : IsExact nat_eq
nat_exact = record { same = λ a. grind (arith, nat_tests); exact = λ a b h. grind (arith, nat_tests, h) }

names_same : (a : List ℕ) → same_name a a ≡ true
names_same [] = refl
names_same (x ∷ xs) = rw (nat_exact.same x) (names_same xs)

names_exact : (a b : List ℕ) → same_name a b ≡ true → a ≡ b
names_exact [] [] h = refl
names_exact [] (y ∷ ys) h = cc
names_exact (x ∷ xs) [] h = cc
names_exact (x ∷ xs) (y ∷ ys) h =
    elim (cases_Bool (nat_eq x y)) [
      | inl e ↦ (let rest : same_name xs ys ≡ true = rw e at h in let first = nat_exact.exact x y e in let others = names_exact xs ys rest in cc)
      | inr e ↦ (let no : false ≡ true = rw e at h in cc)
    ]

pub name_exact : IsExact same_name
name_exact = record { same = names_same; exact = names_exact }

module _ {K : Type 0} (eq : K → K → Bool) (e : IsExact eq) where
  -- A comparison looks the same from both sides.
  pub flipped : (a b : K) → eq a b ≡ false → eq b a ≡ false
  flipped a b h = elim (cases_Bool (eq b a)) [
    | inl x ↦ (let s = e.exact b a x in let t : eq a a ≡ false = rw s at h in let u = e.same a in cc)
    | inr x ↦ x
  ]

  -- Elements that a test of names finds are kept.
  filter_any : (p q : K → Bool) → ((i : K) → p i ≡ true → q i ≡ true) → (xs : List K) → list_any p (filter q xs) ≡ list_any p xs
  filter_any p q h [] = refl
  filter_any p q h (x ∷ xs) =
      elim (cases_Bool (p x)) [
        | inl y ↦ (let z = h x y in rw (z, y) refl)
        | inr n ↦ elim (cases_Bool (q x)) [
          | inl z ↦ rw (z, n) (filter_any p q h xs)
          | inr z ↦ rw (z, n) (filter_any p q h xs)
        ]
      ]

  none_left : (p : K → Bool) (xs : List K) → list_any p (filter (λ i. not (p i)) xs) ≡ false
  none_left p [] = refl
  none_left p (x ∷ xs) =
      elim (cases_Bool (p x)) [
        | inl y ↦ rw y (none_left p xs)
        | inr n ↦ rw (n, n) (none_left p xs)
      ]

  fewer : (p q : K → Bool) (xs : List K) → list_any p xs ≡ false → list_any p (filter q xs) ≡ false
  fewer p q [] h = refl
  fewer p q (x ∷ xs) h =
      elim (cases_Bool (p x)) [
        | inl y ↦ (let no : true ≡ false = rw y at h in cc)
        | inr n ↦ (let rest : list_any p xs ≡ false = rw n at h in elim (cases_Bool (q x)) [
          | inl z ↦ rw (z, n) (fewer p q xs rest)
          | inr z ↦ rw z (fewer p q xs rest)
        ])
      ]

  pub any_firsts : (k : K) (ks : List K) → list_any (eq k) (firsts eq ks) ≡ list_any (eq k) ks
  any_firsts k [] = refl
  any_firsts k (j ∷ ks) =
      elim (cases_Bool (eq k j)) [
        | inl y ↦ rw y refl
        | inr n ↦
            rw n
            (filter_any (eq k) (λ i. not (eq j i)) (λ i h.
            (let s = e.exact k i h in let f : eq j i ≡ false = subst (λ x. eq j x ≡ false) s (flipped k j n) in rw f refl)) (firsts eq ks)
            ∙ any_firsts k ks)
      ]

  abbrev pub Distinct : List K → Type 0
  Distinct [] = Unit {0}
  Distinct (n ∷ ns) = (list_any (eq n) ns ≡ false) × Distinct ns

  distinct_filter : (q : K → Bool) (ns : List K) → Distinct ns → Distinct (filter q ns)
  distinct_filter q [] d = tt
  distinct_filter q (n ∷ ns) d =
      elim (q n) as (λ b. Distinct (cond b (n ∷ filter q ns) (filter q ns))) [
        | true ↦ (fewer (eq n) q ns d.0, distinct_filter q ns d.1)
        | false ↦ distinct_filter q ns d.1
      ]

  distinct_firsts : (ks : List K) → Distinct (firsts eq ks)
  distinct_firsts [] = tt
  distinct_firsts (k ∷ ks) = (none_left (eq k) (firsts eq ks), distinct_filter (λ j. not (eq k j)) (firsts eq ks) (distinct_firsts ks))

  -- A key more goes last, if it isn't there.
  pub firsts_one : (ks : List K) (k : K) → firsts eq (ks ++ k ∷ []) ≡ cond (list_any (eq k) ks) (firsts eq ks) (firsts eq ks ++ k ∷ [])
  firsts_one [] k = refl
  firsts_one (j ∷ ks) k =
      let keep : K → Bool = λ i. not (eq j i) in
      let ih = ap (λ xs. j ∷ filter keep xs) (firsts_one ks k) in
      elim (cases_Bool (list_any (eq k) ks)) [
        | inl y ↦ (elim (cases_Bool (eq k j)) [
          | inl z ↦ (let h = rw y at ih in rw z h)
          | inr z ↦ (let h = rw y at ih in rw (z, y) h)
        ])
        | inr n ↦ (let h = rw n at ih in elim (cases_Bool (eq k j)) [
          | inl z ↦ (let s = e.exact k j z in let here : eq j k ≡ true = subst (λ x. eq x k ≡ true) s (e.same k) in
              let last : filter keep (firsts eq ks ++ k ∷ []) ≡ filter keep (firsts eq ks) = filter-append keep (firsts eq ks) (k ∷ [])
              ∙ (rw here (append-nil (filter keep (firsts eq ks)))) in
              rw z (h ∙ ap (λ xs. j ∷ xs) last))
          | inr z ↦ (let away = flipped k j z in
              let last : filter keep (firsts eq ks ++ k ∷ []) ≡ filter keep (firsts eq ks) ++ k ∷ [] = filter-append keep (firsts eq ks) (k ∷ [])
              ∙ (rw away refl) in
              rw (z, n) (h ∙ ap (λ xs. j ∷ xs) last))
        ])
      ]

  module _ {V : Type 0} where
    abbrev pub tab : (K → V) → List K → List (K × V)
    tab f ns = map (λ j. (j, f j)) ns

    abbrev pub upd : K → V → (K → V) → K → V
    upd k v f j = cond (eq j k) v (f j)

    tab_by : (f g : K → V) → ((j : K) → f j ≡ g j) → (ns : List K) → tab f ns ≡ tab g ns
    tab_by f g h [] = refl
    tab_by f g h (n ∷ ns) = (let x = h n in let xs = tab_by f g h ns in cc)

    -- What isn't there changes nothing.
    tab_same : (k : K) (v : V) (f : K → V) (ns : List K) → list_any (eq k) ns ≡ false → tab (upd k v f) ns ≡ tab f ns
    tab_same k v f [] h = refl
    tab_same k v f (n ∷ ns) h =
        elim (cases_Bool (eq k n)) [
          | inl y ↦ (let no : true ≡ false = rw y at h in cc)
          | inr y ↦ (let rest : list_any (eq k) ns ≡ false = rw y at h in let away = flipped k n y in rw away
              (ap (λ ps. (n, f n) ∷ ps) (tab_same k v f ns rest)))
        ]

    put_tab : (f : K → V) (k : K) (v : V) (ns : List K) → Distinct ns → put_pair eq (tab f ns) k v ≡ cond (list_any (eq k) ns)
        (tab (upd k v f) ns) (tab f ns ++ (k, v) ∷ [])
    put_tab f k v [] d = refl
    put_tab f k v (n ∷ ns) d =
        elim (cases_Bool (eq k n)) [
          | inl y ↦ (let s = e.exact k n y in
              let none : list_any (eq k) ns ≡ false = subst (λ x. list_any (eq x) ns ≡ false) (sym s) d.0 in
              let here : eq n k ≡ true = subst (λ x. eq x k ≡ true) s (e.same k) in
              rw (y, here) (ap (λ ps. (n, v) ∷ ps) (sym (tab_same k v f ns none))))
          | inr y ↦ (let away = flipped k n y in
              let ih = ap (λ ps. (n, f n) ∷ ps) (put_tab f k v ns d.1) in
              elim (cases_Bool (list_any (eq k) ns)) [
                | inl z ↦ (let h = rw z at ih in rw (y, z, away) h)
                | inr z ↦ (let h = rw z at ih in rw (y, z) h)
              ])
        ]

    -- A pair more: a key that is there keeps its place and takes the value, and a new one goes last.
    pub tab_step : (f g : K → V) (k : K) (v : V) → ((j : K) → g j ≡ upd k v f j) → (ks : List K) → tab g (firsts eq (ks ++ k ∷ []))
        ≡ put_pair eq (tab f (firsts eq ks)) k v
    tab_step f g k v h ks =
        let put = put_tab f k v (firsts eq ks) (distinct_firsts ks) in
        let named = any_firsts k ks in
        let first = firsts_one ks k in
        let all = tab_by g (upd k v f) h (firsts eq ks) in
        elim (cases_Bool (list_any (eq k) ks)) [
          | inl y ↦ (let p = rw (named, y) at put in let o = rw y at first in rw o (all ∙ sym p))
          | inr n ↦ (let p = rw (named, n) at put in let o = rw n at first in
              let none : list_any (eq k) (firsts eq ks) ≡ false = named ∙ n in
              let mine : g k ≡ v = h k ∙ (rw (e.same k) refl) in
              rw (o, p, map-append) (rw mine (ap (λ ps. ps ++ (k, v) ∷ []) (all ∙ tab_same k v f (firsts eq ks) none))))
        ]
