-- The closed sum of the cipher is the state that runs along.
use Rattle.std.proofs.Common.{◌≡◌, ℕ, zero, suc, ◌+◌, ◌-◌, ◌*◌, ◌%◌, ◌^◌, ◌<◌, ◌++◌, List, [], ◌∷◌, length, get_or, refl, ap, sym, ◌∙◌, length-append, arith}
use Rattle.std.proofs.Math.Nat.{pow-suc, pow-zero}
use Rattle.std.proofs.Math.Seq.{get_or-append_seam}
use Rattle.std.proofs.lemmas.List.{get_or_append_left}
use Rattle.t1_seal.specs.Cipher.{multiplier, addend, sum_below, closed_sum, state_after}
use Rattle.t1_seal.specs.Laws.Cipher.{next_state, StartsAtTheStart, StateRunsAlong}

-- Sums of equal terms are equal, and a factor goes through a sum.
sum_below_same : (n : ℕ) (f g : ℕ → ℕ) → ((j : ℕ) → j < n → f j ≡ g j) → sum_below n f ≡ sum_below n g
sum_below_same zero f g same = refl
sum_below_same (suc n) f g same =
    let rest : sum_below n f ≡ sum_below n g = sum_below_same n f g (λ j h. same j (omega arith)) in
    let last : f n ≡ g n = same n (omega arith) in
    omega arith

sum_below_times : (n a : ℕ) (f : ℕ → ℕ) → sum_below n (λ j. f j * a) ≡ sum_below n f * a
sum_below_times zero a f = omega arith
sum_below_times (suc n) a f =
    let rest : sum_below n (λ j. f j * a) ≡ sum_below n f * a = sum_below_times n a f in
    omega arith

-- The closed sum over n bytes, of which the one at j is byte j.
abbrev sum_at : ℕ → ℕ → ℕ → ℕ → (ℕ → ℕ) → ℕ
sum_at a b start n byte = a ^ n * start + sum_below n (λ j. byte j * a ^ (n - j) + b * a ^ (n - 1 - j))

-- A term of the sum, with one more byte after it.
term-suc : (a b n j c : ℕ) → j < n → c * a ^ (suc n - j) + b * a ^ (suc n - 1 - j) ≡ (c * a ^ (n - j) + b * a ^ (n - 1 - j)) * a
term-suc a b n j c h =
    let first : suc n - j ≡ suc (n - j) = omega arith in
    let second : suc n - 1 - j ≡ suc (n - 1 - j) = omega arith in
    rw (first, second, pow-suc a (n - j), pow-suc a (n - 1 - j)) (omega arith)

sum_at-suc : (a b start n : ℕ) (byte more : ℕ → ℕ) → ((j : ℕ) → j < n → more j ≡ byte j) → sum_at a b start (suc n) more
    ≡ (more n + sum_at a b start n byte) * a + b
sum_at-suc a b start n byte more same =
    let f : ℕ → ℕ = λ j. byte j * a ^ (n - j) + b * a ^ (n - 1 - j) in
    let g : ℕ → ℕ = λ j. more j * a ^ (suc n - j) + b * a ^ (suc n - 1 - j) in
    let terms : sum_below n g ≡ sum_below n f * a =
    sum_below_same n g (λ j. f j * a) (λ j h. ap (λ c. c * a ^ (suc n - j) + b * a ^ (suc n - 1 - j)) (same j h) ∙ term-suc a b n j (byte j) h)
    ∙ sum_below_times n a f in
    let first : suc n - n ≡ 1 = omega arith in
    let second : suc n - 1 - n ≡ 0 = omega arith in
    let one : a ^ 1 ≡ a = pow-suc a 0 ∙ rw (pow-zero a) (omega arith) in
    let last : g n ≡ more n * a + b = rw (first, second, one, pow-zero a) (omega arith) in
    rw (pow-suc a n) (omega (arith, terms, last))

-- The state is known by its remainder.
step : (sum c : ℕ) → ((c + sum) * multiplier + addend) % 65536 ≡ next_state (sum % 65536) c
step sum c = omega arith

-- One more cipher byte adds itself, and multiplies the sum so far.
closed_sum-push : (a b start : ℕ) (front : List ℕ) (c : ℕ) → closed_sum a b start (front ++ c ∷ []) ≡ (c + closed_sum a b start front) * a + b
closed_sum-push a b start front c =
    let n : ℕ = length front in
    let byte : ℕ → ℕ = λ j. get_or front j 0 in
    let more : ℕ → ℕ = λ j. get_or (front ++ c ∷ []) j 0 in
    let len : length (front ++ c ∷ []) ≡ suc n = omega (arith, length-append front (c ∷ [])) in
    let same : (j : ℕ) → j < n → more j ≡ byte j = λ j h. get_or_append_left front (c ∷ []) 0 j h in
    let last : more n ≡ c = get_or-append_seam front c [] 0 in
    ap (λ m. sum_at a b start m more) len ∙ sum_at-suc a b start n byte more same ∙ ap (λ x. (x + sum_at a b start n byte) * a + b) last

-- Before any byte the state is the start.
pub starts_at_the_start : StartsAtTheStart
unfolding state_after
starts_at_the_start start small = omega arith

-- The sum over the bytes before and one more byte is the state that runs along.
pub state_runs_along : StateRunsAlong
unfolding state_after
state_runs_along start front c =
    ap (λ n. n % 65536) (closed_sum-push multiplier addend start front c)
    ∙ step (closed_sum multiplier addend start front) c

-- The next state, as the program computes it.
pub state_step : (start r : ℕ) (front : List ℕ) (c : ℕ) → state_after start front ≡ r → next_state r c ≡ state_after start (front ++ c ∷ [])
state_step start r front c is = sym (state_runs_along start front c ∙ ap (λ s. next_state s c) is)
