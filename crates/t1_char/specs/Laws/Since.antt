-- Laws of what came before a step.
use Rattle.std.specs.Prelude.{◌≡◌, ℕ, ◌<◌, ◌&&◌, ◌||◌, not, if◌then◌else◌, Bool, true, Some, List, [], ◌∷◌, ◌++◌, slice_get, take}
use Rattle.t1_char.specs.Steps.{StepView}
use Rattle.t1_char.specs.Since.{Test, any_so_far, since, last_of}
use Rattle.t1_font.specs.Fonts.{after_last}

-- One step more: such a step came, or is this one; an a came with no b after it, or this is an a, or one
-- came and this is no b; what is after the last such, and the last such itself.
abbrev pub AnyGoesOn : Type 0
AnyGoesOn = (e : Test) (steps : List StepView) (t : StepView) →
    any_so_far e (steps ++ t ∷ []) ≡ (any_so_far e steps || e steps t)

abbrev pub SinceGoesOn : Type 0
SinceGoesOn = (a b : Test) (steps : List StepView) (t : StepView) →
    since a b (steps ++ t ∷ []) ≡ (a steps t || (since a b steps && not (b steps t)))

abbrev pub AfterLastGoesOn : Type 0
AfterLastGoesOn = (a : StepView → Bool) (steps : List StepView) (t : StepView) →
    after_last a (steps ++ t ∷ []) ≡ (if a t then [] else after_last a steps ++ t ∷ [])

abbrev pub LastGoesOn : Type 0
LastGoesOn = (a : StepView → Bool) (steps : List StepView) (t : StepView) →
    last_of a (steps ++ t ∷ []) ≡ (if a t then Some t else last_of a steps)

-- At this place is such a step.
pub record IsAt (e : Test) (steps : List StepView) (place : ℕ) : Type 0 where
  pub step : StepView
  pub there : slice_get steps place ≡ Some step
  pub such : e (take place steps) step ≡ true

-- At some place is an a, and at no later one a b.
pub record IsSince (a b : Test) (steps : List StepView) : Type 0 where
  pub place : ℕ
  pub begins : IsAt a steps place
  pub lasts : (later : ℕ) → place < later → IsAt b steps later → ⊥

abbrev pub SinceIsByPlaces : Type 0
SinceIsByPlaces = (a b : Test) (steps : List StepView) →
    (since a b steps ≡ true → IsSince a b steps) × (IsSince a b steps → since a b steps ≡ true)
