-- Law of flat curves: their points are on the line through their ends.
use Rattle.std.proofs.Common.{◌≡◌, ◌+◌, ◌*◌, ℕ, ℤ, pos, ◌+ℤ◌, ◌-ℤ◌, ◌*ℤ◌, ◌&&◌, not, Bool, true, false, refl, sym, ap, ◌∙◌, arith}
use Rattle.std.proofs.lemmas.Int.{ints}
use Rattle.std.proofs.Math.IntN.{*ℤ_comm}
use Rattle.std.specs.Ordering.{int_eq}
use Rattle.t1_rules.specs.declared.step_rules.flex.Point.{Point}
use Rattle.t1_rules.specs.StepRules.Flex.{at}
use Rattle.t1_drawing.specs.Laws.{FlatCurvesAreOnALine, cubed, place_at}
use Rattle.t1_drawing.specs.Points.{cross, is_on_line, is_same, way}
use borrow.Author.Differences.{down, product_is, sum_is_lem, up}

-- ---- products of whole numbers

pub over_sum : (a b c : ℤ) → a *ℤ (b +ℤ c) ≡ (a *ℤ b) +ℤ (a *ℤ c)
over_sum a b c = omega (arith, ints, ap (λ n. up a * n) (sum_is_lem b c), ap (λ n. down a * n) (sum_is_lem b c))

pub over_difference : (a b c : ℤ) → a *ℤ (b -ℤ c) ≡ (a *ℤ b) -ℤ (a *ℤ c)
over_difference a b c =
    let whole : ((b -ℤ c) +ℤ c) ≡ b = omega (arith, ints) in
    omega (arith, ints, over_sum a (b -ℤ c) c, ap (λ z. a *ℤ z) whole)

grouped : (a b c : ℤ) → a *ℤ (b *ℤ c) ≡ (a *ℤ b) *ℤ c
grouped a b c = omega (
  arith,
  ints,
  ap (λ n. up a * n) (product_is b c).0,
  ap (λ n. down a * n) (product_is b c).0,
  ap (λ n. up a * n) (product_is b c).1,
  ap (λ n. down a * n) (product_is b c).1,
  ap (λ n. n * up c) (product_is a b).0,
  ap (λ n. n * down c) (product_is a b).0,
  ap (λ n. n * up c) (product_is a b).1,
  ap (λ n. n * down c) (product_is a b).1,
)

exchanged : (a b c : ℤ) → a *ℤ (b *ℤ c) ≡ b *ℤ (a *ℤ c)
exchanged a b c = grouped a b c ∙ ap (λ z. z *ℤ c) (*ℤ_comm a b) ∙ sym (grouped b a c)

-- ---- the way to a point of a curve, by the ways to its other points

relative : (r k : ℕ) (a b c d : ℤ) → (place_at r k a b c d -ℤ pos (cubed (r + k)) *ℤ a)
    ≡ ((pos (3 * (r * r * k)) *ℤ (b -ℤ a) +ℤ pos (3 * (r * k * k)) *ℤ (c -ℤ a)) +ℤ pos (cubed k) *ℤ (d -ℤ a))
relative r k a b c d = omega (
  arith,
  ints,
  over_difference (pos (3 * (r * r * k))) b a,
  over_difference (pos (3 * (r * k * k))) c a,
  over_difference (pos (cubed k)) d a,
)

-- What is so many times a way on the line is on it too.
on_it : (ux uy vx vy c : ℤ) → ((ux *ℤ vy) -ℤ (uy *ℤ vx)) ≡ pos 0 → (ux *ℤ (c *ℤ vy)) ≡ (uy *ℤ (c *ℤ vx))
on_it ux uy vx vy c is =
    let same : (ux *ℤ vy) ≡ (uy *ℤ vx) = omega (arith, ints, is) in
    exchanged ux c vy ∙ ap (λ z. c *ℤ z) same ∙ sym (exchanged uy c vx)

itself : (ux uy : ℤ) → ((ux *ℤ uy) -ℤ (uy *ℤ ux)) ≡ pos 0
itself ux uy = omega (arith, ints, *ℤ_comm ux uy)

together : (u v w : Point) (c1 c2 c3 : ℤ) → cross u v ≡ pos 0 → cross u w ≡ pos 0
    → cross u (at ((c1 *ℤ v.x +ℤ c2 *ℤ w.x) +ℤ c3 *ℤ u.x) ((c1 *ℤ v.y +ℤ c2 *ℤ w.y) +ℤ c3 *ℤ u.y)) ≡ pos 0
unfolding cross
together u v w c1 c2 c3 first second = omega (
  arith,
  ints,
  over_sum u.x (c1 *ℤ v.y +ℤ c2 *ℤ w.y) (c3 *ℤ u.y),
  over_sum u.x (c1 *ℤ v.y) (c2 *ℤ w.y),
  over_sum u.y (c1 *ℤ v.x +ℤ c2 *ℤ w.x) (c3 *ℤ u.x),
  over_sum u.y (c1 *ℤ v.x) (c2 *ℤ w.x),
  on_it u.x u.y v.x v.y c1 first,
  on_it u.x u.y w.x w.y c2 second,
  on_it u.x u.y u.x u.y c3 (itself u.x u.y),
)

zero : (z : ℤ) → int_eq z (pos 0) ≡ true → z ≡ pos 0
zero z is = grind (arith, ints, is)

last_two : (a b c : Bool) → (a && (b && c)) ≡ true → (b ≡ true) × (c ≡ true)
last_two true true c is = (refl, is)
last_two true false c is = let no : false ≡ true = is in cc
last_two false b c is = let no : false ≡ true = is in cc

pub flat_curves_are_on_a_line : FlatCurvesAreOnALine
flat_curves_are_on_a_line p a b q r k is =
    let both = last_two (not (is_same p q)) (is_on_line p q a) (is_on_line p q b) is in
    rw (relative r k p.x a.x b.x q.x, relative r k p.y a.y b.y q.y)
    (together (way p q) (way p a) (way p b) (pos (3 * (r * r * k))) (pos (3 * (r * k * k))) (pos (cubed k)) (zero _ both.0) (zero _ both.1))
