-- Steps just before, counts and hint sets, one step further.
use Rattle.std.proofs.Common.{◌≡◌, ℕ, zero, suc, ◌+◌, if◌then◌else◌, Bool, true, false, List, [], ◌∷◌, ◌++◌, length, take, Result, Ok, Err, IsOk, OnOk, count_by, cond, refl, ap, ◌∙◌, arith}
use Rattle.std.proofs.lemmas.List.{reverse-append}
use Rattle.std.proofs.lemmas.List.Sums.{sum_by-append}
use Rattle.std.proofs.Math.Seq.{take-append-add}
use Rattle.t1_char.specs.Since.{was}
use Rattle.t1_char.specs.Steps.{StepView}
use Rattle.t1_char.proofs.LookingBack.{after_last_goes_on}
use Rattle.t1_font.specs.Fonts.{after_last}

pub was_last : (test : StepView → Bool) (before : List StepView) (t : StepView) → was 0 test (before ++ t ∷ []) ≡ test t
was_last test before t = rw (reverse-append before (t ∷ [])) refl

pub was_before : (k : ℕ) (test : StepView → Bool) (before : List StepView) (t : StepView) → was (suc k) test (before ++ t ∷ []) ≡ was k test before
was_before k test before t = rw (reverse-append before (t ∷ [])) refl

-- A count of the steps since the last such.
count_append : (p : StepView → Bool) (steps : List StepView) (t : StepView) → count_by p (steps ++ t ∷ [])
    ≡ (if p t then suc (count_by p steps) else count_by p steps)
count_append p steps t = sum_by-append _ steps (t ∷ []) ∙ go (p t) (count_by p steps)
  where
    go : (b : Bool) (count : ℕ) → (count + (0 + cond b 1 0)) ≡ (if b then suc count else count)
    go true count = omega arith
    go false count = omega arith

pub counted_on : (p start : StepView → Bool) (before : List StepView) (t : StepView)
    → count_by p (after_last start (before ++ t ∷ []))
    ≡ (if start t then 0 else (if p t then suc (count_by p (after_last start before)) else count_by p (after_last start before)))
counted_on p start before t = ap (λ steps. count_by p steps) (after_last_goes_on start before t) ∙ go (start t)
  where
    go : (b : Bool) → count_by p (if b then [] else after_last start before ++ t ∷ [])
        ≡ (if b then 0 else (if p t then suc (count_by p (after_last start before)) else count_by p (after_last start before)))
    go true = refl
    go false = count_append p (after_last start before) t

-- The first few of a list and more are those of the first few of it, and more.
pub take_more : {A : Type 0} (n : ℕ) (xs ys : List A) → take n (take n xs ++ ys) ≡ take n (xs ++ ys)
take_more zero xs ys = refl
take_more (suc n) [] ys = refl
take_more (suc n) (x ∷ xs) ys = ap (λ zs. x ∷ zs) (take_more n xs ys)

-- What fits after a list, where there is so much room.
pub take_room : {A : Type 0} (n room : ℕ) (xs ys : List A) → room + length xs ≡ n → take n (xs ++ ys) ≡ xs ++ take room ys
take_room n room xs ys is =
    let whole : n ≡ length xs + room = omega arith in
    ap (λ k. take k (xs ++ ys)) whole ∙ take-append-add xs ys room

pub on_ok : {T E : Type 0} (r : Result T E) (P : Type 0) → IsOk r → OnOk r P → P
on_ok (Ok v) P is on = on
on_ok (Err e) P is on = let no : false ≡ true = is in cc
