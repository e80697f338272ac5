-- The greatest number that passes.
use Rattle.std.proofs.Common.{◌≡◌, ◌+◌, ◌-◌, ◌<◌, ◌≤◌, ℕ, zero, suc, Bool, true, false, List, arith, nat_le, refl, subst}
use Rattle.std.proofs.lemmas.Bool.{le-leb, lt-leb}
use Rattle.t1_printers.specs.Tails.{greatest}
use Rattle.t1_printers.specs.Widths.{width_of}

-- a last number that passes
pub greatest_here : (passes : ℕ → Bool) (n : ℕ) → passes n ≡ true → greatest passes n ≡ n
greatest_here passes zero is = refl
greatest_here passes (suc n) is = rw is refl

-- one that doesn't
pub greatest_below : (passes : ℕ → Bool) (n : ℕ) → 0 < n → passes n ≡ false → greatest passes n ≡ greatest passes (n - 1)
greatest_below passes zero some is = absurd (omega (arith, some))
greatest_below passes (suc n) some is =
    let same : suc n - 1 ≡ n = omega arith in
    rw (is, same) refl

-- many that don't
pub greatest_from : (passes : ℕ → Bool) (n more : ℕ) → ((m : ℕ) → n < m → m ≤ more + n → passes m ≡ false)
    → greatest passes (more + n) ≡ greatest passes n
greatest_from passes n zero none = let same : zero + n ≡ n = omega arith in rw same refl
greatest_from passes n (suc more) none =
    let same : suc more + n ≡ suc (more + n) = omega arith in
    let last : passes (suc (more + n)) ≡ false = none (suc (more + n)) (omega arith) (omega arith) in
    rw (same, last) (greatest_from passes n more (λ m above below. none m above (omega (arith, below))))

-- a text's width in a room
pub text_fits : (t text : List ℕ) (room w : ℕ) → text ≡ t → w ≡ width_of text → w ≤ room → nat_le (width_of t) room ≡ true
text_fits t text room w same is fits = subst (λ s. nat_le (width_of s) room ≡ true) same (subst (λ k. nat_le k room ≡ true) is (le-leb w room fits))

pub text_is_wide : (t text : List ℕ) (room w : ℕ) → text ≡ t → w ≡ width_of text → room < w → nat_le (width_of t) room ≡ false
text_is_wide t text room w same is wide =
    subst (λ s. nat_le (width_of s) room ≡ false) same (subst (λ k. nat_le k room ≡ false) is (lt-leb w room wide))
