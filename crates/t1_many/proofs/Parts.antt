-- The parts of a list are the list.
use Rattle.std.proofs.Common.{◌≡◌, ◌<◌, ◌≤◌, ◌*◌, ◌/◌, ℕ, zero, suc, List, ◌++◌, length, take, drop, sym, ap, ◌∙◌, arith, le_refl, le-div_iff_mul-le, div-mul-le_self, mul-div_cancel, mul_comm, suc-mul, take_all, take-take, take-append-drop}
use Rattle.t1_many.specs.Laws.{PartsAreTheWhole}
use Rattle.t1_many.specs.Shards.{first_parts, start_of}

-- parts begin one after the other
rises : (parts count n : ℕ) → 0 < parts → start_of parts count n ≤ start_of parts count (suc n)
rises parts count n some =
    let within : n * count / parts * parts ≤ n * count = div-mul-le_self (n * count) parts in
    let next = suc-mul n count in
    (le-div_iff_mul-le {k = parts} {x = n * count / parts} {y = suc n * count} some).1 (omega (arith, within, next))

from_zero : (parts count : ℕ) → 0 < parts → start_of parts count 0 ≡ 0
from_zero parts count some = omega arith

to_end : (parts count : ℕ) → 0 < parts → start_of parts count parts ≡ count
to_end parts count some = ap (λ n. n / parts) (mul_comm parts count) ∙ mul-div_cancel count some

up_to : {A : Type 0} (parts : ℕ) → 0 < parts → (list : List A) (n : ℕ) → first_parts parts list n ≡ take (start_of parts (length list) n) list
up_to parts some list zero = sym (ap (λ n. take n list) (from_zero parts (length list) some))
up_to parts some list (suc n) =
    let a = start_of parts (length list) n in
    let b = start_of parts (length list) (suc n) in
    ap (λ front. front ++ drop a (take b list)) (up_to parts some list n ∙ sym (take-take a b list (rises parts (length list) n some)))
    ∙ take-append-drop a (take b list)

pub whole : PartsAreTheWhole
whole parts some list =
    up_to parts some list parts ∙ ap (λ n. take n list) (to_end parts (length list) some) ∙ take_all (length list) list (le_refl (length list))
