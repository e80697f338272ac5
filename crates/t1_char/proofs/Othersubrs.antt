-- What callothersubr takes off a stack that is written out.
use Rattle.std.proofs.Common.{◌≡◌, ℕ, ℤ, pos, negsuc, ◌+◌, ◌-◌, ◌*◌, ◌/◌, ◌%◌, ◌^◌, ◌<◌, ◌++◌, true, false, ltb, leb, Some, List, [], ◌∷◌, length, length-append, take, drop, refl, ap, ◌∙◌, lt-ltb, arith}
use Rattle.std.proofs.lemmas.Grind.{common_steps}
use Rattle.std.proofs.Math.Seq.{take-append_seam, drop-append_seam}
use Rattle.t1_char.specs.Numbers.{units, natural}
use Rattle.t1_char.specs.Stacks.{from_top, without, topmost}
use Rattle.t1_char.specs.Effects.{effect, goes, results, handed_over, after_othersubr, state_of}
use Rattle.t1_char.specs.Laws.Effects.{OthersubrsAreCalled, WholeNumbersAreRead}

-- A whole number that isn't negative.
pub natural_of : (n : ℕ) → n < 2 ^ 32 → natural (units (pos n)) ≡ Some n
natural_of n small =
    let whole : n * 65536 % 65536 ≡ 0 = omega arith in
    let below : n * 65536 < 2 ^ 48 = omega arith in
    let value : n * 65536 / 65536 ≡ n = omega arith in
    rw (whole, lt-ltb (n * 65536) (2 ^ 48) below, value) refl

two_off : (s waiting : List ℤ) (c o : ℤ) → after_othersubr (state_of (s ++ c ∷ o ∷ []) waiting) ≡ handed_over (natural o) (natural c) (state_of s waiting)
two_off s waiting c o =
    let count : length (s ++ c ∷ o ∷ []) ≡ length s + 2 = length-append s (c ∷ o ∷ []) in
    let enough : ltb (length (s ++ c ∷ o ∷ [])) 2 ≡ false = grind arith in
    let top : from_top (s ++ c ∷ o ∷ []) 0 ≡ o = grind (arith, common_steps) in
    let second : from_top (s ++ c ∷ o ∷ []) 1 ≡ c = grind (arith, common_steps) in
    let rest : without 2 (s ++ c ∷ o ∷ []) ≡ s = grind (arith, common_steps) in
    rw (enough, top, second, rest) refl

given : (below arguments waiting : List ℤ) (other : ℕ) → handed_over (Some other) (Some (length arguments)) (state_of (below ++ arguments) waiting) ≡ state_of below
    (results (Some other) arguments)
given below arguments waiting other =
    let count : length (below ++ arguments) - length arguments ≡ length below = omega (arith, length-append below arguments) in
    let there : leb (length arguments) (length (below ++ arguments)) ≡ true = grind (arith, common_steps) in
    let rest : without (length arguments) (below ++ arguments) ≡ below = ap (λ n. take n (below ++ arguments)) count ∙ take-append_seam below arguments in
    let taken : topmost (length arguments) (below ++ arguments) ≡ arguments = ap (λ n. drop n (below ++ arguments)) count ∙ drop-append_seam below arguments in
    rw (there, rest, taken) refl

pub othersubrs_are_called : OthersubrsAreCalled
othersubrs_are_called below arguments waiting other named depth few small =
    ap (λ s. effect s goes)
    (two_off (below ++ arguments) waiting (units (pos (length arguments))) (units (pos other))
    ∙ ap (λ o. handed_over o (natural (units (pos (length arguments)))) (state_of (below ++ arguments) waiting)) (natural_of other small)
    ∙ ap (λ c. handed_over (Some other) c (state_of (below ++ arguments) waiting)) (natural_of (length arguments) few)
    ∙ given below arguments waiting other)

-- And back: what is read as a count is that whole number.
whole_from : (m n : ℕ) → natural (pos m) ≡ Some n → m ≡ n * 65536
whole_from m n h = grind arith

pub whole_numbers_are_read : WholeNumbersAreRead
whole_numbers_are_read (pos m) n = (λ h. ap (λ k. pos k) (whole_from m n h), λ small is. ap natural is ∙ natural_of n small)
whole_numbers_are_read (negsuc m) n = (λ h. absurd (nothing h), λ small is. ap natural is ∙ natural_of n small)
  where
    nothing : natural (negsuc m) ≡ Some n → ⊥
    nothing h = cc
