-- Names that are spelled alike are one.
use Rattle.std.proofs.Common.{◌≡◌, ◌<◌, ◌+◌, ◌/◌, ◌%◌, ◌++◌, ℕ, Bool, true, false, List, [], ◌∷◌, ap, ap₂, arith, drop, get_or, if◌then◌else◌, refl, sym, ◌∙◌}
use Rattle.std.proofs.lemmas.Bool.{false≢true}
use Rattle.std.proofs.lemmas.Bool.Decides.{nat_tests}
use Rattle.std.proofs.lemmas.List.Folds.{list_all-append}
use Rattle.std.specs.List.{list_all}
use Rattle.t1draw.specs.Folders.{is_capital, is_small, small_digit, spelled, spelled_byte, spelled_by_digits, spelled_capital}
use Rattle.t1draw.specs.Laws.{SpelledNamesArePlain, SpelledNamesDiffer, is_letter}

-- ---- lists

head_is : (x y : ℕ) (xs ys : List ℕ) → x ∷ xs ≡ y ∷ ys → x ≡ y
head_is x y xs ys same = ap (λ (l : List ℕ). get_or l 0 0) same

rest_is : (x y : ℕ) (xs ys : List ℕ) → x ∷ xs ≡ y ∷ ys → xs ≡ ys
rest_is x y xs ys same = ap (λ (l : List ℕ). drop 1 l) same

is_nil : List ℕ → Bool
is_nil [] = true
is_nil (x ∷ xs) = false

-- ---- bytes

one_digit : (a b : ℕ) → a < 16 → b < 16 → small_digit a ≡ small_digit b → a ≡ b
one_digit a b small small' same = grind (arith, nat_tests)

no_small : (x : ℕ) → is_small x ≡ true → x ≡ 95 → false ≡ true
no_small x small is = grind (arith, nat_tests)

no_small_digit : (x : ℕ) → is_small x ≡ true → x ≡ 61 → false ≡ true
no_small_digit x small is = grind (arith, nat_tests)

abbrev code_by : Bool → Bool → ℕ → List ℕ
code_by small capital x = if small then (x ∷ []) else (if capital then spelled_capital x else spelled_by_digits x)

-- The first letter of a byte's spelling says how long it is.
one_byte : (sx cx sy cy : Bool) (x y : ℕ) (r s : List ℕ) → x < 256 → y < 256 → is_small x ≡ sx → is_small y ≡ sy
    → code_by sx cx x ++ r ≡ code_by sy cy y ++ s → (x ≡ y) × (r ≡ s)
one_byte true cx true cy x y r s less less' small small' same = (head_is x y r s same, rest_is x y r s same)
one_byte true cx false true x y r s less less' small small' same = absurd (false≢true (no_small x small (head_is x 95 r ((y + 32) ∷ s) same)))
one_byte true cx false false x y r s less less' small small' same =
    absurd (false≢true (no_small_digit x small (head_is x 61 r (small_digit (y / 16) ∷ small_digit (y % 16) ∷ s) same)))
one_byte false true true cy x y r s less less' small small' same = absurd (false≢true (no_small y small' (sym (head_is 95 y ((x + 32) ∷ r) s same))))
one_byte false true false true x y r s less less' small small' same =
    let more = rest_is 95 95 ((x + 32) ∷ r) ((y + 32) ∷ s) same in
    (omega (arith, head_is (x + 32) (y + 32) r s more), rest_is (x + 32) (y + 32) r s more)
one_byte false true false false x y r s less less' small small' same =
    absurd (omega (arith, head_is 95 61 ((x + 32) ∷ r) (small_digit (y / 16) ∷ small_digit (y % 16) ∷ s) same))
one_byte false false true cy x y r s less less' small small' same =
    absurd (false≢true (no_small_digit y small' (sym (head_is 61 y (small_digit (x / 16) ∷ small_digit (x % 16) ∷ r) s same))))
one_byte false false false true x y r s less less' small small' same =
    absurd (omega (arith, head_is 61 95 (small_digit (x / 16) ∷ small_digit (x % 16) ∷ r) ((y + 32) ∷ s) same))
one_byte false false false false x y r s less less' small small' same =
    let high = rest_is 61 61 (small_digit (x / 16) ∷ small_digit (x % 16) ∷ r) (small_digit (y / 16) ∷ small_digit (y % 16) ∷ s) same in
    let low = rest_is (small_digit (x / 16)) (small_digit (y / 16)) (small_digit (x % 16) ∷ r) (small_digit (y % 16) ∷ s) high in
    let tens : x / 16 ≡ y / 16 =
    one_digit (x / 16) (y / 16) (omega (arith, less)) (omega (arith, less'))
    (head_is (small_digit (x / 16)) (small_digit (y / 16)) (small_digit (x % 16) ∷ r) (small_digit (y % 16) ∷ s) high) in
    let ones : x % 16 ≡ y % 16 =
    one_digit (x % 16) (y % 16) (omega arith) (omega arith) (head_is (small_digit (x % 16)) (small_digit (y % 16)) r s low) in
    (omega (arith, tens, ones), rest_is (small_digit (x % 16)) (small_digit (y % 16)) r s low)

-- A byte has a spelling.
none_spelled : (sx cx : Bool) (x : ℕ) (r : List ℕ) → code_by sx cx x ++ r ≡ [] → false ≡ true
unfolding is_nil
none_spelled true cx x r same = ap is_nil same
none_spelled false true x r same = ap is_nil same
none_spelled false false x r same = ap is_nil same

pub spelled_differ : SpelledNamesDiffer
spelled_differ [] [] are are' same = refl
spelled_differ [] (y ∷ ys) are are' same = absurd (false≢true (none_spelled (is_small y) (is_capital y) y (spelled ys) (sym same)))
spelled_differ (x ∷ xs) [] are are' same = absurd (false≢true (none_spelled (is_small x) (is_capital x) x (spelled xs) same))
spelled_differ (x ∷ xs) (y ∷ ys) (less, are) (less', are') same =
    let both = one_byte (is_small x) (is_capital x) (is_small y) (is_capital y) x y (spelled xs) (spelled ys) less less' refl refl same in
    ap₂ (λ (b : ℕ) (bs : List ℕ). b ∷ bs) both.0 (spelled_differ xs ys are are' both.1)

-- ---- letters

plain_digit : (d : ℕ) → d < 16 → is_letter (small_digit d) ≡ true
plain_digit d less = grind (arith, nat_tests)

plain_capital : (x : ℕ) → is_capital x ≡ true → is_letter (x + 32) ≡ true
plain_capital x capital = grind (arith, nat_tests)

plain_small : (x : ℕ) → is_small x ≡ true → is_letter x ≡ true
plain_small x small = rw small refl

plain_byte : (sx cx : Bool) (x : ℕ) → x < 256 → is_small x ≡ sx → is_capital x ≡ cx → list_all is_letter (code_by sx cx x) ≡ true
plain_byte true cx x less small capital = rw (plain_small x small) refl
plain_byte false true x less small capital = rw (plain_capital x capital) refl
plain_byte false false x less small capital =
    rw (plain_digit (x / 16) (omega (arith, less)), plain_digit (x % 16) (omega arith)) refl

pub spelled_plain : SpelledNamesArePlain
spelled_plain [] are = refl
spelled_plain (x ∷ xs) (less, are) =
    list_all-append is_letter (spelled_byte x) (spelled xs)
    ∙ rw (plain_byte (is_small x) (is_capital x) x less refl refl, spelled_plain xs are) refl
