-- Numbers that aren't past 32000.
use Rattle.std.proofs.Common.{◌≡◌, ℕ, zero, suc, ℤ, pos, ◌≤ℤ◌, int_lt, Bool, true, false, List, [], ◌∷◌, ◌++◌, length, slice_index_or, nat_lt, cond, refl, sym, ◌∙◌, arith}
use Rattle.std.specs.List.{list_any}
use Rattle.std.proofs.lemmas.Bool.{or_parts}
use Rattle.std.proofs.lemmas.Int.{ints, clamps}
use Rattle.std.proofs.lemmas.List.Folds.{list_any-append}
use Rattle.t1_char.specs.Arguments.{argument}
use Rattle.t1_char.specs.Lines.{IsWithin, argument_reach, is_far}
use Rattle.t1_char.specs.Numbers.{clamped, greatest, least}
use Rattle.t1_char.specs.Stacks.{most_numbers, put}

near_index : (xs : List ℤ) (k : ℕ) → list_any is_far xs ≡ false → is_far (slice_index_or xs k (pos 0)) ≡ false
near_index [] k near = refl
near_index (x ∷ xs) zero near = (or_parts (is_far x) (list_any is_far xs) near).0
near_index (x ∷ xs) (suc k) near = near_index xs k (or_parts (is_far x) (list_any is_far xs) near).1

not_less : (x d : ℤ) → int_lt x d ≡ false → d ≤ℤ x
not_less x d is = grind (arith, ints, is)

near_within : (z : ℤ) → is_far z ≡ false → IsWithin argument_reach z
near_within z near =
    let parts = or_parts (int_lt greatest z) (int_lt z least) near in
    let high : z ≤ℤ greatest = not_less greatest z parts.0 in
    let low : least ≤ℤ z = not_less z least parts.1 in
    record { low = omega (arith, ints, low); high = omega (arith, ints, high) }

near_kept : (z : ℤ) → is_far z ≡ false → clamped z ≡ z
near_kept z near =
    let parts = or_parts (int_lt greatest z) (int_lt z least) near in
    let high : z ≤ℤ greatest = not_less greatest z parts.0 in
    let low : least ≤ℤ z = not_less z least parts.1 in
    grind (arith, ints, clamps, low, high)

pub argument_is : (xs : List ℤ) (k : ℕ) → list_any is_far xs ≡ false → slice_index_or xs k (pos 0) ≡ argument xs k
argument_is xs k near = sym (near_kept (slice_index_or xs k (pos 0)) (near_index xs k near))

pub argument_within : (xs : List ℤ) (k : ℕ) → list_any is_far xs ≡ false → IsWithin argument_reach (slice_index_or xs k (pos 0))
argument_within xs k near = near_within (slice_index_or xs k (pos 0)) (near_index xs k near)

pub near_more : (xs : List ℤ) (z : ℤ) → list_any is_far xs ≡ false → is_far z ≡ false → list_any is_far (put xs z) ≡ false
near_more xs z near one = by_room (nat_lt (length xs) most_numbers)
  where
    more : list_any is_far (xs ++ z ∷ []) ≡ false
    more = list_any-append is_far xs (z ∷ []) ∙ rw (near, one) refl

    by_room : (b : Bool) → list_any is_far (cond b (xs ++ z ∷ []) xs) ≡ false
    by_room true = more
    by_room false = near
