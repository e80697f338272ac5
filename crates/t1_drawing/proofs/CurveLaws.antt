-- Laws of curves: where they go beyond their ends.
use Rattle.std.proofs.Common.{◌≡◌, ◌≤ℤ◌, ◌⊎◌, ◌&&◌, ◌||◌, inl, inr, ℤ, pos, ◌+ℤ◌, ◌*ℤ◌, Bool, true, false, int_le, refl, arith}
use Rattle.std.proofs.lemmas.Bool.{and_parts, or_cases}
use Rattle.std.proofs.lemmas.Int.{clamps, ints}
use Rattle.std.specs.Int.{int_max, int_min}
use Rattle.t1_drawing.specs.Private.Between.{are_between}
use Rattle.t1_drawing.specs.Touching.{is_between}
use Rattle.t1_drawing.specs.Curves.{at_half, at_quarter, goes_beyond, is_above, is_below, is_beyond, is_beyond_at_half, is_beyond_at_quarter}
use Rattle.t1_drawing.specs.Laws.{CurvesWithinTheirEndsAreFine, CurvesWithoutExtremesGoBeyond, GoesBeyond, IsBetween}

is_false : (b : Bool) → (b ≡ true → ⊥) → b ≡ false
is_false true never = absurd (never refl)
is_false false never = refl

ordered : (a b : ℤ) → int_le a b ≡ true → a ≤ℤ b
ordered a b is = grind (arith, ints, is)

-- What it says that a place is beyond two others, 64 times.
record Above (a d place : ℤ) : Type 0 where
  one : (pos 64 *ℤ a +ℤ pos 12582912) ≤ℤ place
  other : (pos 64 *ℤ d +ℤ pos 12582912) ≤ℤ place

record Below (a d place : ℤ) : Type 0 where
  one : (place +ℤ pos 12582912) ≤ℤ (pos 64 *ℤ a)
  other : (place +ℤ pos 12582912) ≤ℤ (pos 64 *ℤ d)

beyond : (a d place : ℤ) → is_beyond a d place ≡ true → Above a d place ⊎ Below a d place
unfolding is_beyond
beyond a d place is = elim (or_cases (is_above (pos 64 *ℤ a) place && is_above (pos 64 *ℤ d) place) (is_below (pos 64 *ℤ a) place && is_below (pos 64 *ℤ d) place) is) [
  | inl both ↦ inl (let parts = and_parts _ _ both in record { one = ordered _ _ parts.0; other = ordered _ _ parts.1 })
  | inr both ↦ inr (let parts = and_parts _ _ both in record { one = ordered _ _ parts.0; other = ordered _ _ parts.1 })
]

at_first : (a b c d : ℤ) → Above a d (at_quarter a b c d) ⊎ Below a d (at_quarter a b c d) → GoesBeyond a b c d
unfolding at_quarter
at_first a b c d is = record {
  rest = 3;
  part = 1;
  after_start = omega arith;
  before_end = omega arith;
  beyond = elim is [
    | inl up ↦ inl (record { first = omega (arith, ints, up.one); second = omega (arith, ints, up.other) })
    | inr down ↦ inr (record { first = omega (arith, ints, down.one); second = omega (arith, ints, down.other) })
  ];
}

at_middle : (a b c d : ℤ) → Above a d (at_half a b c d) ⊎ Below a d (at_half a b c d) → GoesBeyond a b c d
unfolding at_half
at_middle a b c d is = record {
  rest = 1;
  part = 1;
  after_start = omega arith;
  before_end = omega arith;
  beyond = elim is [
    | inl up ↦ inl (record { first = omega (arith, ints, up.one); second = omega (arith, ints, up.other) })
    | inr down ↦ inr (record { first = omega (arith, ints, down.one); second = omega (arith, ints, down.other) })
  ];
}

at_last : (a b c d : ℤ) → Above d a (at_quarter d c b a) ⊎ Below d a (at_quarter d c b a) → GoesBeyond a b c d
unfolding at_quarter
at_last a b c d is = record {
  rest = 1;
  part = 3;
  after_start = omega arith;
  before_end = omega arith;
  beyond = elim is [
    | inl up ↦ inl (record { first = omega (arith, ints, up.other); second = omega (arith, ints, up.one) })
    | inr down ↦ inr (record { first = omega (arith, ints, down.other); second = omega (arith, ints, down.one) })
  ];
}

somewhere : (a b c d : ℤ) → goes_beyond a b c d ≡ true → GoesBeyond a b c d
somewhere a b c d is = elim (or_cases (is_beyond_at_quarter a b c d || is_beyond_at_half a b c d) (is_beyond_at_quarter d c b a) is) [
  | inl early ↦ elim (or_cases (is_beyond_at_quarter a b c d) (is_beyond_at_half a b c d) early) [
    | inl first ↦ at_first a b c d (beyond a d (at_quarter a b c d) first)
    | inr middle ↦ at_middle a b c d (beyond a d (at_half a b c d) middle)
  ]
  | inr last ↦ at_last a b c d (beyond d a (at_quarter d c b a) last)
]

pub curves_without_extremes_go_beyond : CurvesWithoutExtremesGoBeyond
curves_without_extremes_go_beyond p a b q is = elim (or_cases (goes_beyond p.x a.x b.x q.x) (goes_beyond p.y a.y b.y q.y) is) [
  | inl across ↦ inl (somewhere p.x a.x b.x q.x across)
  | inr upwards ↦ inr (somewhere p.y a.y b.y q.y upwards)
]

-- ---- curves within the box of their ends

never_at_quarter : (a b c d : ℤ) → IsBetween b a d → IsBetween c a d → is_beyond a d (at_quarter a b c d) ≡ false
unfolding at_quarter
never_at_quarter a b c d first second = is_false (is_beyond a d (at_quarter a b c d)) (λ is. elim (beyond a d (at_quarter a b c d) is) [
  | inl up ↦ omega (arith, ints, clamps, up.one, up.other, first.high, second.high)
  | inr down ↦ omega (arith, ints, clamps, down.one, down.other, first.low, second.low)
])

never_at_half : (a b c d : ℤ) → IsBetween b a d → IsBetween c a d → is_beyond a d (at_half a b c d) ≡ false
unfolding at_half
never_at_half a b c d first second = is_false (is_beyond a d (at_half a b c d)) (λ is. elim (beyond a d (at_half a b c d) is) [
  | inl up ↦ omega (arith, ints, clamps, up.one, up.other, first.high, second.high)
  | inr down ↦ omega (arith, ints, clamps, down.one, down.other, first.low, second.low)
])

turned_between : (b a d : ℤ) → IsBetween b a d → IsBetween b d a
turned_between b a d is = record { low = omega (arith, ints, clamps, is.low); high = omega (arith, ints, clamps, is.high) }

never_beyond : (a b c d : ℤ) → IsBetween b a d → IsBetween c a d → goes_beyond a b c d ≡ false
never_beyond a b c d first second =
    rw (
      never_at_quarter a b c d first second,
      never_at_half a b c d first second,
      never_at_quarter d c b a (turned_between c a d second) (turned_between b a d first),
    ) refl

is_it_between : (low z high : ℤ) → is_between low z high ≡ true → (low ≤ℤ z) × (z ≤ℤ high)
is_it_between low z high is =
    let parts = and_parts (int_le low z) (int_le z high) is in
    (ordered low z parts.0, ordered z high parts.1)

pub never_beyond_between : (a b c d : ℤ) → are_between a b c d ≡ true → goes_beyond a b c d ≡ false
never_beyond_between a b c d is =
    let parts = and_parts (is_between (int_min a d) b (int_max a d)) (is_between (int_min a d) c (int_max a d)) is in
    let first = is_it_between (int_min a d) b (int_max a d) parts.0 in
    let second = is_it_between (int_min a d) c (int_max a d) parts.1 in
    never_beyond a b c d (record { low = first.0; high = first.1 }) (record { low = second.0; high = second.1 })

pub curves_within_their_ends_are_fine : CurvesWithinTheirEndsAreFine
curves_within_their_ends_are_fine p a b q one two =
    rw (never_beyond p.x a.x b.x q.x one.x two.x, never_beyond p.y a.y b.y q.y one.y two.y) refl
