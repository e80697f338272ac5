-- The end that is nearest to a stem.
use Rattle.std.proofs.Common.{◌≡◌, ◌⊎◌, inl, inr, ℤ, ◌<◌, ◌≤◌, nat_lt, if◌then◌else◌, Bool, true, false, None, Some, List, [], ◌∷◌, refl, arith}
use Rattle.std.proofs.lemmas.Bool.{ltb-false, ltb-true}
use Rattle.std.proofs.lemmas.List.Elements.{All-cons, All-nil, Contains-append_left, Contains-append_right}
use Rattle.std.specs.List.{All, Contains, fold}
use Rattle.t1_drawing.specs.declared.touching.UntouchedStem.{UntouchedStem}
use Rattle.t1_reasons.specs.DrawingLaws.{NearestEndsAreNearest}
use Rattle.t1_reasons.specs.StemSearches.{distance, later_ends, nearer}

-- Of a place and those after it.
record IsNearest (stem : UntouchedStem) (best : ℤ) (places : List ℤ) (found : ℤ) : Type 0 where
  there : (found ≡ best) ⊎ Contains places found
  nearest : distance stem found ≤ distance stem best
  all : All (λ other. distance stem found ≤ distance stem other) places

first_there : (p : ℤ) → Contains (p ∷ []) p
first_there p = (0, omega arith, refl)

-- It is there as well with one place more in front.
there_too : (p : ℤ) (ps : List ℤ) (found : ℤ) → (found ≡ p) ⊎ Contains ps found → Contains (p ∷ ps) found
there_too p ps found (inl is) = rw is (Contains-append_left (p ∷ []) ps p (first_there p))
there_too p ps found (inr within) = Contains-append_right (p ∷ []) ps found within

nearest_of : (stem : UntouchedStem) (best : ℤ) (places : List ℤ) (found : ℤ) → fold (nearer stem) (Some best) places ≡ Some found
    → IsNearest stem best places found
nearest_of stem best [] found is =
    let same : best ≡ found = cc in
    record { there = inl (rw same refl); nearest = rw same (omega arith); all = All-nil (λ other. distance stem found ≤ distance stem other) }
nearest_of stem best (p ∷ ps) found is = go (nat_lt (distance stem p) (distance stem best)) refl (nearest_of stem p ps found) (nearest_of stem best ps found) is
  where
    go : (b : Bool) → nat_lt (distance stem p) (distance stem best) ≡ b
        → (fold (nearer stem) (Some p) ps ≡ Some found → IsNearest stem p ps found)
        → (fold (nearer stem) (Some best) ps ≡ Some found → IsNearest stem best ps found)
        → fold (nearer stem) (Some (if b then p else best)) ps ≡ Some found → IsNearest stem best (p ∷ ps) found
    go true e of_p of_best is =
        let rest = of_p is in
        let less : distance stem p < distance stem best = ltb-true (distance stem p) (distance stem best) e in
        record {
          there = inr (there_too p ps found rest.there);
          nearest = omega (arith, less, rest.nearest);
          all = All-cons (λ other. distance stem found ≤ distance stem other) p ps rest.nearest rest.all;
        }
    go false e of_p of_best is =
        let rest = of_best is in
        let more : distance stem best ≤ distance stem p = ltb-false (distance stem p) (distance stem best) e in
        record {
          there = later rest.there;
          nearest = rest.nearest;
          all = All-cons (λ other. distance stem found ≤ distance stem other) p ps (omega (arith, more, rest.nearest)) rest.all;
        }
      where
        later : (found ≡ best) ⊎ Contains ps found → (found ≡ best) ⊎ Contains (p ∷ ps) found
        later (inl same) = inl same
        later (inr within) = inr (there_too p ps found (inr within))

pub nearest_ends_are_nearest : NearestEndsAreNearest
nearest_ends_are_nearest stem steps place is = let both = go (later_ends stem steps) is in record { there = both.0; nearest = both.1 }
  where
    go : (places : List ℤ) → fold (nearer stem) None places ≡ Some place
        → (Contains places place) × All (λ other. distance stem place ≤ distance stem other) places
    go [] is = cc
    go (p ∷ ps) is =
        let found = nearest_of stem p ps place is in (
          there_too p ps place found.there,
          All-cons (λ other. distance stem place ≤ distance stem other) p ps found.nearest found.all,
        )
