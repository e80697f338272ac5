-- Where points are outside a box, by edges as whole units and a rest.
use Rattle.std.proofs.Common.{◌≡◌, ◌%◌, ◌<◌, ◌≤ℤ◌, ◌<ℤ◌, ℤ, pos, negsuc, ◌+ℤ◌, ◌*ℤ◌, int_le, ◌||◌, refl, arith}
use Rattle.std.proofs.lemmas.Int.{ints}
use Rattle.std.proofs.Math.Nat.{div-add-mod, mod-lt}
use Rattle.std.specs.Int.{int_div_euclid, int_rem_euclid}
use Rattle.t1_scan.specs.Numbers.{billion}
use Rattle.t1_drawing.specs.FontBoxes.{is_off, is_over, is_under}
use Rattle.t1_drawing.specs.Private.Limits.{first_over, last_under}

-- A number is so many billions and a rest.
record Parts (e : ℤ) : Type 0 where
  whole : (pos billion *ℤ int_div_euclid e (pos billion) +ℤ int_rem_euclid e (pos billion)) ≡ e
  least : pos 0 ≤ℤ int_rem_euclid e (pos billion)
  most : int_rem_euclid e (pos billion) <ℤ pos billion

parts : (e : ℤ) → Parts e
parts (pos n) =
    let sum = div-add-mod n billion in
    let less : n % billion < billion = mod-lt n (omega arith) in
    record { whole = grind (arith, ints, sum); least = grind (arith, ints); most = grind (arith, ints, less) }
parts (negsuc n) =
    let sum = div-add-mod n billion in
    let less : n % billion < billion = mod-lt n (omega arith) in
    record { whole = grind (arith, ints, sum, less); least = grind (arith, ints, less); most = grind (arith, ints, less) }

pub under_is : (edge z : ℤ) → int_le z (last_under edge) ≡ is_under edge z
under_is edge z =
    let e = parts edge in
    let r = parts (int_rem_euclid edge (pos billion) *ℤ pos 65536) in
    grind (arith, ints, e.whole, e.least, e.most, r.whole, r.least, r.most)

pub over_is : (edge z : ℤ) → int_le (first_over edge) z ≡ is_over edge z
over_is edge z =
    let e = parts edge in
    let r = parts (int_rem_euclid edge (pos billion) *ℤ pos 65536 +ℤ pos 999999999) in
    grind (arith, ints, e.whole, e.least, e.most, r.whole, r.least, r.most)

pub off_is : (least greatest z : ℤ) → (int_le z (last_under least) || int_le (first_over greatest) z) ≡ is_off least greatest z
off_is least greatest z = rw (under_is least z, over_is greatest z) refl
