-- A table of different keys is the pairs as they are.
use Rattle.std.proofs.Common.{◌≡◌, Bool, true, false, not, cond, inl, inr, Option, Some, None, List, [], ◌∷◌, map, filter, flat_map, nat_eq, refl, ap, sym, subst, ◌∙◌}
use Rattle.std.specs.Option.{option_or, unwrap_or}
use Rattle.std.specs.List.{AllByRecursion, IsDistinct}
use Rattle.t1_font.specs.Keys.{same_name}
use Rattle.t1_font.specs.Fonts.{code_of, subr_of, glyph_of, is_encoding, after_last, firsts, last_under, keys_of, table_of, value_of}
use Rattle.t1_font.specs.Laws.Keys.{DifferentStay, NoneStandsTwice}
use Rattle.std.proofs.lemmas.Bool.{cases_Bool}
use Rattle.t1_font.proofs.Tables.{IsExact, nat_exact, name_exact, flipped}

or_none : {A : Type 0} (x : Option A) → option_or x None ≡ x
or_none None = refl
or_none (Some x) = refl

module _ {K : Type 0} (eq : K → K → Bool) (e : IsExact eq) where
  -- Keys that differ from one are all kept.
  kept : (k : K) (ks : List K) → AllByRecursion (λ y. eq k y ≡ false) ks → filter (λ j. not (eq k j)) ks ≡ ks
  kept k [] a = refl
  kept k (j ∷ ks) a = rw a.0 (ap (λ xs. j ∷ xs) (kept k ks a.1))

  all_first : (ks : List K) → IsDistinct eq ks → firsts eq ks ≡ ks
  unfolding IsDistinct
  all_first [] d = refl
  all_first (k ∷ ks) d = rw (all_first ks d.1) (ap (λ xs. k ∷ xs) (kept k ks d.0))

  -- What a test leaves of keys that differ from one.
  left_differ : (test : K → Bool) (k : K) (ks : List K) → AllByRecursion (λ y. eq k y ≡ false) ks
      → AllByRecursion (λ y. eq k y ≡ false) (filter test ks)
  left_differ test k [] a = tt
  left_differ test k (j ∷ ks) a =
      elim (test j) as (λ b. AllByRecursion (λ y. eq k y ≡ false) (cond b (j ∷ filter test ks) (filter test ks))) [
        | true ↦ (a.0, left_differ test k ks a.1)
        | false ↦ left_differ test k ks a.1
      ]

  others_differ : (k : K) (ks : List K) → AllByRecursion (λ y. eq k y ≡ false) (filter (λ j. not (eq k j)) ks)
  others_differ k [] = tt
  others_differ k (j ∷ ks) =
      elim (cases_Bool (eq k j)) [
        | inl y ↦ rw y (others_differ k ks)
        | inr n ↦ rw n (n, others_differ k ks)
      ]

  distinct_left : (test : K → Bool) (ks : List K) → IsDistinct eq ks → IsDistinct eq (filter test ks)
  unfolding IsDistinct
  distinct_left test [] d = tt
  distinct_left test (k ∷ ks) d =
      elim (test k) as (λ b. IsDistinct eq (cond b (k ∷ filter test ks) (filter test ks))) [
        | true ↦ (left_differ test k ks d.0, distinct_left test ks d.1)
        | false ↦ distinct_left test ks d.1
      ]

  distinct_firsts : (ks : List K) → IsDistinct eq (firsts eq ks)
  unfolding IsDistinct
  distinct_firsts [] = tt
  distinct_firsts (k ∷ ks) = (others_differ k (firsts eq ks), distinct_left (λ j. not (eq k j)) (firsts eq ks) (distinct_firsts ks))

  module _ {V : Type 0} (v : V) where
    keys_of_pairs : (f : K → V) (ks : List K) → map (λ (p : K × V). p.0) (map (λ k. (k, f k)) ks) ≡ ks
    keys_of_pairs f [] = refl
    keys_of_pairs f (k ∷ ks) = ap (λ xs. k ∷ xs) (keys_of_pairs f ks)

    pub distinct_table : (ps : List (K × V)) → IsDistinct eq (keys_of (table_of eq v ps))
    distinct_table ps =
        subst (IsDistinct eq) (sym (keys_of_pairs (λ k. unwrap_or (last_under eq k ps) v) (firsts eq (keys_of ps))))
        (distinct_firsts (keys_of ps))

    abbrev under : List (K × V) → K → K × V
    under ps k = (k, unwrap_or (last_under eq k ps) v)

    none_under : (k : K) (ps : List (K × V)) → AllByRecursion (λ y. eq k y ≡ false) (keys_of ps) → last_under eq k ps ≡ None
    none_under k [] a = refl
    none_under k (p ∷ ps) a = rw (none_under k ps a.1, a.0) refl

    -- A pair of another key changes nothing.
    others : (p : K × V) (ps : List (K × V)) (ks : List K) → AllByRecursion (λ y. eq p.0 y ≡ false) ks → map (under (p ∷ ps)) ks ≡ map (under ps) ks
    others p ps [] a = refl
    others p ps (k ∷ ks) a =
        let away = flipped eq e p.0 k a.0 in
        rw (away, or_none (last_under eq k ps), others p ps ks a.1) refl

    each : (ps : List (K × V)) → IsDistinct eq (keys_of ps) → map (under ps) (keys_of ps) ≡ ps
    unfolding IsDistinct
    each [] d = refl
    each (p ∷ ps) d =
        rw (none_under p.0 ps d.0, e.same p.0, others p ps (keys_of ps) d.0, each ps d.1) refl

    pub table_same : (ps : List (K × V)) → IsDistinct eq (keys_of ps) → table_of eq v ps ≡ ps
    table_same ps d = ap (map (under ps)) (all_first (keys_of ps) d) ∙ each ps d

pub different_stay : DifferentStay
unfolding value_of
different_stay marks es = (
  table_same nat_eq nat_exact [] (flat_map subr_of es),
  table_same same_name name_exact [] (flat_map glyph_of es),
  table_same nat_eq
      nat_exact [] (flat_map code_of (after_last is_encoding es)),
)

pub none_stands_twice : NoneStandsTwice
unfolding value_of
none_stands_twice marks es = record {
  subrs = distinct_table nat_eq nat_exact [] (flat_map subr_of es);
  glyphs = distinct_table same_name name_exact [] (flat_map glyph_of es);
  codes = distinct_table nat_eq nat_exact [] (flat_map code_of (after_last is_encoding es));
}
