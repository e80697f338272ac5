-- What came since, by places.
use Rattle.std.proofs.Common.{◌≡◌, ℕ, zero, suc, ◌<◌, ◌&&◌, ◌||◌, not, Bool, true, false, Some, List, [], ◌∷◌, ◌++◌, slice_get, take, refl, ap, sym, ◌∙◌, append_assoc, append-nil, arith}
use Rattle.t1_char.specs.Steps.{StepView}
use Rattle.t1_char.specs.Since.{Test, any_from, since_from}
use Rattle.t1_char.specs.Laws.Since.{SinceIsByPlaces}

-- At this place of the steps that follow those of front is such a step.
record IsBehind (e : Test) (front ss : List StepView) (place : ℕ) : Type 0 where
  step : StepView
  there : slice_get ss place ≡ Some step
  such : e (front ++ take place ss) step ≡ true

record IsSinceBehind (a b : Test) (front ss : List StepView) : Type 0 where
  place : ℕ
  begins : IsBehind a front ss place
  lasts : (later : ℕ) → place < later → IsBehind b front ss later → ⊥

not_both : (b : Bool) → b ≡ false → b ≡ true → ⊥
not_both b isnt is = absurd (wrong (sym isnt ∙ is))
  where
    wrong : false ≡ true → ⊥
    wrong h = cc

or_true : (x y : Bool) → y ≡ true → (x || y) ≡ true
or_true true y h = refl
or_true false y h = h

later : (e : Test) (front ss : List StepView) (s : StepView) (k : ℕ) → IsBehind e (front ++ s ∷ []) ss k → IsBehind e front (s ∷ ss) (suc k)
later e front ss s k at =
    record { step = at.step; there = at.there; such = ap (λ f. e f at.step) (sym (append_assoc front (s ∷ []) (take k ss))) ∙ at.such }

sooner : (e : Test) (front ss : List StepView) (s : StepView) (k : ℕ) → IsBehind e front (s ∷ ss) (suc k) → IsBehind e (front ++ s ∷ []) ss k
sooner e front ss s k at =
    record { step = at.step; there = at.there; such = ap (λ f. e f at.step) (append_assoc front (s ∷ []) (take k ss)) ∙ at.such }

here : (e : Test) (front ss : List StepView) (s : StepView) → e front s ≡ true → IsBehind e front (s ∷ ss) 0
here e front ss s is = record { step = s; there = refl; such = ap (λ f. e f s) (append-nil front) ∙ is }

at_here : (e : Test) (front ss : List StepView) (s : StepView) → IsBehind e front (s ∷ ss) 0 → e front s ≡ true
at_here e front ss s at =
    let same : s ≡ at.step = cc in
    ap (λ f. e f s) (sym (append-nil front)) ∙ ap (λ x. e (front ++ []) x) same ∙ at.such

nowhere : (e : Test) (front : List StepView) (k : ℕ) → IsBehind e front [] k → ⊥
nowhere e front k at = no_step at.step at.there
  where
    no_step : (x : StepView) → slice_get [] k ≡ Some x → ⊥
    no_step x h = cc

any_at : (e : Test) (front ss : List StepView) (k : ℕ) → IsBehind e front ss k → any_from e front ss ≡ true
any_at e front [] k at = absurd (nowhere e front k at)
any_at e front (s ∷ ss) zero at = ap (λ b. b || any_from e (front ++ s ∷ []) ss) (at_here e front ss s at)
any_at e front (s ∷ ss) (suc k) at = or_true (e front s) _ (any_at e (front ++ s ∷ []) ss k (sooner e front ss s k at))

any_by : (e : Test) (front ss : List StepView) (s : StepView) (x : Bool) → e front s ≡ x
    → (any_from e (front ++ s ∷ []) ss ≡ true → (k : ℕ) × IsBehind e (front ++ s ∷ []) ss k) → (x || any_from e (front ++ s ∷ []) ss) ≡ true → (k : ℕ)
    × IsBehind e front (s ∷ ss) k
any_by e front ss s true is rest h = (0, here e front ss s is)
any_by e front ss s false is rest h = (suc (rest h).0, later e front ss s (rest h).0 (rest h).1)

any_found : (e : Test) (front ss : List StepView) → any_from e front ss ≡ true → (k : ℕ) × IsBehind e front ss k
any_found e front [] h = absurd (not_both false refl h)
any_found e front (s ∷ ss) h = any_by e front ss s (e front s) refl (λ r. any_found e (front ++ s ∷ []) ss r) h

none_later : (e : Test) (front ss : List StepView) → ((k : ℕ) → IsBehind e front ss k → ⊥) → any_from e front ss ≡ false
none_later e front ss none = by_any (any_from e front ss) refl
  where
    by_any : (x : Bool) → any_from e front ss ≡ x → any_from e front ss ≡ false
    by_any true is = let found = any_found e front ss is in absurd (none found.0 found.1)
    by_any false is = is

-- In both directions, after some steps.
after_rest : (a b : Test) (front ss : List StepView) (s : StepView) (rest : IsSinceBehind a b (front ++ s ∷ []) ss) (k : ℕ) → suc rest.place < k
    → IsBehind b front (s ∷ ss) k → ⊥
after_rest a b front ss s rest zero lt at = absurd (omega arith)
after_rest a b front ss s rest (suc k) lt at = rest.lasts k (omega arith) (sooner b front ss s k at)

in_rest : (a b : Test) (front ss : List StepView) (s : StepView) → IsSinceBehind a b (front ++ s ∷ []) ss → IsSinceBehind a b front (s ∷ ss)
in_rest a b front ss s rest =
    record { place = suc rest.place; begins = later a front ss s rest.place rest.begins; lasts = after_rest a b front ss s rest }

after_here : (b : Test) (front ss : List StepView) (s : StepView) → any_from b (front ++ s ∷ []) ss ≡ false → (k : ℕ) → 0 < k → IsBehind b front (s ∷ ss) k → ⊥
after_here b front ss s none zero lt at = absurd (omega arith)
after_here b front ss s none (suc k) lt at = not_both _ none (any_at b (front ++ s ∷ []) ss k (sooner b front ss s k at))

found_by : (a b : Test) (front ss : List StepView) (s : StepView) (x y : Bool) → a front s ≡ x → any_from b (front ++ s ∷ []) ss ≡ y
    → (since_from a b (front ++ s ∷ []) ss ≡ true → IsSinceBehind a b (front ++ s ∷ []) ss) →
    ((x && not y) || since_from a b (front ++ s ∷ []) ss) ≡ true → IsSinceBehind a b front (s ∷ ss)
found_by a b front ss s true false is none rest h = record { place = 0; begins = here a front ss s is; lasts = after_here b front ss s none }
found_by a b front ss s true true is none rest h = in_rest a b front ss s (rest h)
found_by a b front ss s false y is none rest h = in_rest a b front ss s (rest h)

found : (a b : Test) (front ss : List StepView) → since_from a b front ss ≡ true → IsSinceBehind a b front ss
found a b front [] h = absurd (not_both false refl h)
found a b front (s ∷ ss) h = found_by a b front ss s (a front s) (any_from b (front ++ s ∷ []) ss) refl refl (λ r. found a b (front ++ s ∷ []) ss r) h

shown : (a b : Test) (front ss : List StepView) (place : ℕ) → IsBehind a front ss place → ((k : ℕ) → place < k → IsBehind b front ss k → ⊥)
    → since_from a b front ss ≡ true
shown a b front [] place begins lasts = absurd (nowhere a front place begins)
shown a b front (s ∷ ss) zero begins lasts =
    let none : any_from b (front ++ s ∷ []) ss ≡ false = none_later b (front ++ s ∷ []) ss (λ k at. lasts (suc k) (omega arith) (later b front ss s k at)) in
    ap (λ x. (x && not (any_from b (front ++ s ∷ []) ss)) || since_from a b (front ++ s ∷ []) ss) (at_here a front ss s begins)
    ∙ ap (λ y. not y || since_from a b (front ++ s ∷ []) ss) none
shown a b front (s ∷ ss) (suc place) begins lasts =
    or_true _ _ (shown a b (front ++ s ∷ []) ss place (sooner a front ss s place begins) (λ k lt at. lasts (suc k) (omega arith) (later b front ss s k at)))

pub since_is_by_places : SinceIsByPlaces
since_is_by_places a b steps = (
  λ h.
      let since_found = found a b [] steps h in
      record {
        place = since_found.place;
        begins = record { step = since_found.begins.step; there = since_found.begins.there; such = since_found.begins.such };
        lasts = λ k lt at. since_found.lasts k lt (record { step = at.step; there = at.there; such = at.such });
      },
  λ is.
      shown a b [] steps is.place (record { step = is.begins.step; there = is.begins.there; such = is.begins.such })
      (λ k lt at. is.lasts k lt (record { step = at.step; there = at.there; such = at.such })),
)
