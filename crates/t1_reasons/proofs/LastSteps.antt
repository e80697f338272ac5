-- The last step of a kind, by its number.
use Rattle.std.proofs.Common.{◌≡◌, ℕ, zero, suc, ◌+◌, ◌<◌, ◌⊎◌, Bool, true, false, Option, None, Some, List, [], ◌∷◌, ◌++◌, append-nil, append_assoc, inl, inr, length, length-append, slice_get, take, refl, sym, ap, ◌∙◌, arith}
use Rattle.t1_char.specs.Since.{Test}
use Rattle.t1_char.specs.Steps.{StepView}
use Rattle.t1_reasons.specs.Carried.{carried_from, last_on, last_such}
use Rattle.t1_reasons.specs.Laws.{IsLastOf, ToldStepsAreTheLast}

-- No step is such among those after the ones of front.
abbrev NoneBehind : Test → List StepView → List StepView → Type 0
NoneBehind e front ss = (k : ℕ) (s : StepView) → slice_get ss k ≡ Some s → e (front ++ take k ss) s ≡ false

record IsLastBehind (e : Test) (front ss : List StepView) (number : ℕ) : Type 0 where
  place : ℕ
  step : StepView
  number_is : number ≡ length front + place + 1
  there : slice_get ss place ≡ Some step
  such : e (front ++ take place ss) step ≡ true
  last : (k : ℕ) (s : StepView) → place < k → slice_get ss k ≡ Some s → e (front ++ take k ss) s ≡ false

abbrev Told : Test → List StepView → List StepView → Option ℕ → Option ℕ → Type 0
Told e front ss before found = ((found ≡ before) × NoneBehind e front ss) ⊎ ((n : ℕ) × ((found ≡ Some n) × IsLastBehind e front ss n))

-- With one step more before.
moved : (e : Test) (front ss : List StepView) (s t : StepView) (k : ℕ) (b : Bool)
    → e ((front ++ s ∷ []) ++ take k ss) t ≡ b → e (front ++ take (suc k) (s ∷ ss)) t ≡ b
moved e front ss s t k b is = ap (λ f. e f t) (sym (append_assoc front (s ∷ []) (take k ss))) ∙ is

none_more : (e : Test) (front ss : List StepView) (s : StepView) → e front s ≡ false → NoneBehind e (front ++ s ∷ []) ss → NoneBehind e front (s ∷ ss)
none_more e front ss s isnt none zero t there =
    let same : s ≡ t = cc in
    ap (λ f. e f t) (append-nil front) ∙ ap (e front) (sym same) ∙ isnt
none_more e front ss s isnt none (suc k) t there = moved e front ss s t k false (none k t there)

here : (e : Test) (front ss : List StepView) (s : StepView) → e front s ≡ true → NoneBehind e (front ++ s ∷ []) ss
    → IsLastBehind e front (s ∷ ss) (length front + 1)
here e front ss s is none = record {
  place = 0;
  step = s;
  number_is = omega arith;
  there = refl;
  such = ap (λ f. e f s) (append-nil front) ∙ is;
  last = λ k t less there. after k t less there;
}
  where
    after : (k : ℕ) (t : StepView) → 0 < k → slice_get (s ∷ ss) k ≡ Some t → e (front ++ take k (s ∷ ss)) t ≡ false
    after zero t less there = absurd (omega arith)
    after (suc k) t less there = moved e front ss s t k false (none k t there)

further : (e : Test) (front ss : List StepView) (s : StepView) (n : ℕ) → IsLastBehind e (front ++ s ∷ []) ss n → IsLastBehind e front (s ∷ ss) n
further e front ss s n rest = record {
  place = suc rest.place;
  step = rest.step;
  number_is = rest.number_is ∙ (let more = length-append front (s ∷ []) in omega (arith, more));
  there = rest.there;
  such = moved e front ss s rest.step rest.place true rest.such;
  last = λ k t less there. after k t less there;
}
  where
    after : (k : ℕ) (t : StepView) → suc rest.place < k → slice_get (s ∷ ss) k ≡ Some t → e (front ++ take k (s ∷ ss)) t ≡ false
    after zero t less there = absurd (omega arith)
    after (suc k) t less there = moved e front ss s t k false (rest.last k t (omega arith) there)

told : (e : Test) (front ss : List StepView) (before : Option ℕ) → Told e front ss before (carried_from (last_on e) before front ss)
told e front [] before = inl (refl, λ k s there. let never : None ≡ Some s = there in cc)
told e front (s ∷ ss) before = by_rest (e front s) refl (told e (front ++ s ∷ []) ss (last_on e before front s))
  where
    found : Option ℕ
    found = carried_from (last_on e) before front (s ∷ ss)

    by_rest : (b : Bool) → e front s ≡ b → Told e (front ++ s ∷ []) ss (last_on e before front s) found → Told e front (s ∷ ss) before found
    by_rest b is (inr rest) = inr (rest.0, (rest.1.0, further e front ss s rest.0 rest.1.1))
    by_rest true is (inl rest) = inr (length front + 1, (rest.0 ∙ rw is refl, here e front ss s is rest.1))
    by_rest false is (inl rest) = inl (rest.0 ∙ rw is refl, none_more e front ss s is rest.1)

pub told_steps_are_the_last : ToldStepsAreTheLast
told_steps_are_the_last e steps = go (last_such e steps) (told e [] steps None)
  where
    go : (found : Option ℕ) → Told e [] steps None found → IsLastOf e steps found
    go None (inl none) = none.1
    go None (inr some) = let never : None ≡ Some some.0 = some.1.0 in cc
    go (Some n) (inl none) = let never : Some n ≡ None = none.0 in cc
    go (Some n) (inr some) =
        let same : n ≡ some.0 = number_of_some n some.0 some.1.0 in
        record {
          place = some.1.1.place;
          step = some.1.1.step;
          number_is = same ∙ some.1.1.number_is ∙ omega arith;
          there = some.1.1.there;
          such = some.1.1.such;
          last = λ k t less there. some.1.1.last k t less there;
        }
      where
        number_of_some : (a b : ℕ) → Some a ≡ Some b → a ≡ b
        number_of_some a b is = cc
