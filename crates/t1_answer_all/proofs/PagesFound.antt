-- What is found in a list, by what is seen of its items.
use Rattle.std.proofs.Common.{◌≡◌, Bool, true, false, if◌then◌else◌, List, [], ◌∷◌, Option, None, Some, ap, find, map, is_some, option_map, refl, ◌∙◌}

find_mapped : {X Y : Type 0} (f : X → Y) (test : Y → Bool) (xs : List X) → option_map f (find (λ x. test (f x)) xs) ≡ find test (map f xs)
find_mapped f test [] = refl
find_mapped f test (x ∷ xs) = by_test f x _ _ (find_mapped f test xs) (test (f x))
  where
    by_test : {X Y : Type 0} (f : X → Y) (x : X) (found : Option X) (other : Option Y) → option_map f found ≡ other → (b : Bool)
        → option_map f (if b then Some x else found) ≡ (if b then Some (f x) else other)
    by_test f x found other is true = refl
    by_test f x found other is false = is

composed : {A X Y : Type 0} (v : A → X) (f : X → Y) (o : Option A) → option_map (λ a. f (v a)) o ≡ option_map f (option_map v o)
composed v f None = refl
composed v f (Some a) = refl

pub found_by : {A X Y : Type 0} (v : A → X) (f : X → Y) (test : Y → Bool) (xs : List X) (r : Option A) → option_map v r ≡ find (λ x. test (f x)) xs
    → option_map (λ a. f (v a)) r ≡ find test (map f xs)
found_by v f test xs r is = composed v f r ∙ ap (option_map f) is ∙ find_mapped f test xs

pub some_mapped : {X Y : Type 0} (f : X → Y) (o : Option X) → is_some (option_map f o) ≡ is_some o
some_mapped f None = refl
some_mapped f (Some x) = refl
