-- The numbers of a list, one after another.
use Rattle.std.proofs.Common.{◌≡◌, ◌<◌, ◌≤◌, ◌+◌, ℕ, zero, suc, ℤ, Option, Some, None, Ok, Err, List, [], ◌∷◌, ◌++◌, length, take, refl, ap, ◌∙◌, arith, append_assoc}
use Rattle.t1_scan.specs.declared.token.Kind.{Kind}
use Rattle.t1_scan.specs.declared.token.Kind.TheVariants.{Number, Name, Word, Text, Proc, Array}
use Rattle.t1_font.specs.Tokens.{token_at}
use Rattle.t1_font.specs.Values.{numbers, other, ListItem, ends, is_number, is_other, item_of, item_at, number_first, numbers_from, numbers_within, numbers_of, list_after}
use Rattle.t1_font.proofs.Running.{is_shorter}
use Rattle.t1_font.proofs.Shorter.{token_behind}

-- What follows a number is shorter.
abbrev pub RestOfItem : ℕ → ListItem → Type 0
RestOfItem n ends = Unit {0}
RestOfItem n (is_number z rest) = length rest < n
RestOfItem n is_other = Unit {0}

of_kind : (k : Kind) (rest : List ℕ) (n : ℕ) → length rest < n → RestOfItem n (item_of k rest)
of_kind (Number z) rest n h = h
of_kind Name rest n h = tt
of_kind Word rest n h = tt
of_kind Text rest n h = tt
of_kind Proc rest n h = tt
of_kind Array rest n h = tt

item_less : (s : List ℕ) → RestOfItem (length s) (item_at s)
unfolding item_at
item_less s = elim (token_at s) as (λ r. token_at s ≡ r
    → RestOfItem (length s) (elim r [ Err _ ↦ is_other | Ok found ↦ elim found [ None ↦ ends | Some t ↦ item_of t.kind t.rest ] ])) [
      | Err x ↦ λ h. tt
      | Ok found ↦ elim found as (λ found. token_at s ≡ Ok found → RestOfItem (length s) (elim found [ None ↦ ends | Some t ↦ item_of t.kind t.rest ])) [
        | None ↦ λ h. tt
        | Some t ↦ λ h. of_kind t.kind t.rest (length s) (is_shorter s t.rest (token_behind s t h))
      ]
    ] refl

pub number_less : (s rest : List ℕ) (z : ℤ) → is_number z rest ≡ item_at s → length rest < length s
number_less s rest z h = rw (← h) at (item_less s)

enough : (n m : ℕ) (s : List ℕ) → length s < n → length s < m → numbers_within n s ≡ numbers_within m s
unfolding numbers_within
enough zero m s a b = absurd (omega arith)
enough (suc n) zero s a b = absurd (omega arith)
enough (suc n) (suc m) s a b =
    elim (item_at s) as (λ i. RestOfItem (length s) i → numbers_from (numbers_within n) i ≡ numbers_from (numbers_within m) i) [
      | ends ↦ λ _. refl
      | is_number z rest ↦ λ h. ap (number_first z) (enough n m rest (omega arith) (omega arith))
      | is_other ↦ λ _. refl
    ] (item_less s)

numbers_step : (s : List ℕ) → numbers_of s ≡ numbers_from numbers_of (item_at s)
unfolding numbers_within
numbers_step s =
    elim (item_at s) as (λ i. RestOfItem (length s) i → numbers_from (numbers_within (length s)) i ≡ numbers_from numbers_of i) [
      | ends ↦ λ _. refl
      | is_number z rest ↦ λ h. ap (number_first z) (enough (length s) (suc (length rest)) rest h (omega arith))
      | is_other ↦ λ _. refl
    ] (item_less s)

take_front : {A : Type 0} (n : ℕ) (xs ys : List A) → take n (take n xs ++ ys) ≡ take n (xs ++ ys)
take_front zero xs ys = refl
take_front (suc n) [] ys = refl
take_front (suc n) (x ∷ xs) ys = ap (λ zs. x ∷ zs) (take_front n xs ys)

list_after_more : (count : ℕ) (first : List ℤ) (z : ℤ) (more : Option (List ℤ)) → list_after (count + 1) (take 16 (first ++ z ∷ [])) more ≡ list_after
    count first (number_first z more)
list_after_more count first z None = refl
list_after_more count first z (Some zs) =
    let counts : count + 1 + length zs ≡ count + suc (length zs) = omega arith in
    let kept : take 16 (take 16 (first ++ z ∷ []) ++ zs) ≡ take 16 (first ++ (z ∷ zs)) = take_front 16 (first ++ z ∷ []) zs
    ∙ ap (take 16) (append_assoc first (z ∷ []) zs) in
    rw (counts, kept) refl

take_all : {A : Type 0} (n : ℕ) (xs : List A) → length xs ≤ n → take n (xs ++ []) ≡ xs
take_all zero [] h = refl
take_all zero (x ∷ xs) h = absurd (omega arith)
take_all (suc n) [] h = refl
take_all (suc n) (x ∷ xs) h = ap (λ ys. x ∷ ys) (take_all n xs (omega arith))

-- The list ends here.
pub list_after_end : (count : ℕ) (first : List ℤ) (s : List ℕ) → length first ≤ 16 → ends ≡ item_at s
    → list_after count first (numbers_of s) ≡ numbers count first
list_after_end count first s h e =
    let same : count + 0 ≡ count = omega arith in
    rw (numbers_step s, ← e) (rw (same, take_all 16 first h) refl)

-- Something else is here.
pub list_after_other : (count : ℕ) (first : List ℤ) (s : List ℕ) → is_other ≡ item_at s → list_after count first (numbers_of s) ≡ other
list_after_other count first s e = rw (numbers_step s, ← e) refl

-- A number more was passed.
pub list_after_number : (count : ℕ) (first : List ℤ) (z : ℤ) (s rest : List ℕ) → is_number z rest ≡ item_at s
    → list_after (count + 1) (take 16 (first ++ z ∷ [])) (numbers_of rest) ≡ list_after count first (numbers_of s)
list_after_number count first z s rest e = rw (numbers_step s, ← e) (list_after_more count first z (numbers_of rest))

-- A list that is full takes no more.
pub take_full : {A : Type 0} (n : ℕ) (xs ys : List A) → length xs ≡ n → take n (xs ++ ys) ≡ xs
take_full zero [] ys h = refl
take_full zero (x ∷ xs) ys h = absurd (omega arith)
take_full (suc n) [] ys h = absurd (omega arith)
take_full (suc n) (x ∷ xs) ys h = ap (λ zs. x ∷ zs) (take_full n xs ys (omega arith))

pub taken : {A : Type 0} (n : ℕ) (xs : List A) → length (take n xs) ≤ n
taken zero xs = omega arith
taken (suc n) [] = omega arith
taken (suc n) (x ∷ xs) = (let more = taken n xs in omega (arith, more))
