-- The names of a part of a list.
use Rattle.std.proofs.Common.{◌≡◌, ◌<◌, ◌≤◌, ◌*◌, ◌/◌, ◌-◌, ℕ, zero, suc, List, [], ◌∷◌, length, map, take, drop, refl, sym, ap, ap₂, ◌∙◌, arith, le-div_iff_mul-le, div-mul-le_self, suc-mul}
use Rattle.std.proofs.lemmas.List.{drop-take}
use Rattle.t1_many.specs.Shards.{part_of, start_of}

-- a part begins where the one before it ends
pub rises : (parts count n : ℕ) → 0 < parts → start_of parts count n ≤ start_of parts count (suc n)
rises parts count n some =
    let within : n * count / parts * parts ≤ n * count = div-mul-le_self (n * count) parts in
    let next = suc-mul n count in
    (le-div_iff_mul-le {k = parts} {x = n * count / parts} {y = suc n * count} some).1 (omega (arith, within, next))

map-take : {A B : Type 0} (f : A → B) (n : ℕ) (xs : List A) → map f (take n xs) ≡ take n (map f xs)
map-take f zero xs = refl
map-take f (suc n) [] = refl
map-take f (suc n) (x ∷ xs) = ap (λ (ys : List _). f x ∷ ys) (map-take f n xs)

map-drop : {A B : Type 0} (f : A → B) (n : ℕ) (xs : List A) → map f (drop n xs) ≡ drop n (map f xs)
map-drop f zero xs = refl
map-drop f (suc n) [] = refl
map-drop f (suc n) (x ∷ xs) = map-drop f n xs

length-map' : {A B : Type 0} (f : A → B) (xs : List A) → length (map f xs) ≡ length xs
length-map' f [] = refl
length-map' f (x ∷ xs) = ap suc (length-map' f xs)

slice : {A : Type 0} (start end : ℕ) (xs : List A) → start ≤ end → take (end - start) (drop start xs) ≡ drop start (take end xs)
slice start end xs within =
    sym (drop-take start (end - start) xs) ∙ ap (λ (n : ℕ). drop start (take n xs)) (omega (arith, within))

module _ {A B : Type 0} (f : A → B) (xs : List A) (parts part start end : ℕ) (one : 1 ≤ part) (within : part ≤ parts)
    (start_is : start ≡ start_of parts (length xs) (part - 1)) (end_is : end ≡ start_of parts (length xs) part) where
  part_is : suc (part - 1) ≡ part
  part_is = omega (arith, one)

  pub in_order : start ≤ end
  in_order =
      let up = rises parts (length xs) (part - 1) (omega (arith, one, within)) in
      let next = ap (start_of parts (length xs)) part_is in
      omega (arith, up, next, start_is, end_is)

  pub names_are : map f (take (end - start) (drop start xs)) ≡ part_of parts (map f xs) (part - 1)
  names_are =
      ap (map f) (slice start end xs in_order) ∙ map-drop f start (take end xs) ∙ ap (drop start) (map-take f end xs)
      ∙ ap₂ (λ (s e : ℕ). drop s (take e (map f xs)))
      (start_is ∙ ap (λ (n : ℕ). start_of parts n (part - 1)) (sym (length-map' f xs)))
      (end_is ∙ ap₂ (λ (n p : ℕ). start_of parts n p) (sym (length-map' f xs)) (sym part_is))
