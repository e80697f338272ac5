use Rattle.std.proofs.Common.{◌≡◌, ◌<◌, ◌+◌, ◌-◌, ◌∙◌, Bool, SFits, ap, arith, cond, false, of_z, refl, subst, suc, sym, to_z, true, w64, zero, ℕ, ℤ}
use Rattle.std.proofs.Math.Facts.{to_z-of_z}
use Rattle.t1_picture.specs.Frames.{fits, power_for, power_from}
use Rattle.t1_picture.proofs.frame.power_for.Goals as goal

-- an extent that was passed on
extent_fits : (extent : ℤ) (power : ℕ) (b : Bool) → SFits w64 extent → fits (to_z w64 (of_z w64 extent)) power ≡ b → fits extent power ≡ b
extent_fits extent power b small is = ap (λ z. fits z power) (sym (to_z-of_z small)) ∙ is

found : (left power : ℕ) (extent : ℤ) → 0 < left → fits extent power ≡ true → power_from left power extent ≡ power
unfolding power_from
found zero power extent more is = absurd (omega (arith, more))
found (suc n) power extent more is = ap (λ b. cond b power (power_from n (power + 1) extent)) is

doubled : (left rest power next : ℕ) (extent : ℤ) → left ≡ suc rest → next ≡ power + 1 → fits extent power ≡ false
    → power_from left power extent ≡ power_from rest next extent
unfolding power_from
doubled left rest power next extent more one not =
    ap (λ (n : ℕ). power_from n power extent) more ∙ ap (λ b. cond b power (power_from rest (power + 1) extent)) not
    ∙ ap (λ (n : ℕ). power_from rest n extent) (sym one)

none : (power : ℕ) (extent : ℤ) → power_from 0 power extent ≡ power
unfolding power_from
none power extent = refl

so_far : (extent : ℤ) (left power : ℕ) → SFits w64 extent
    → power_from left power (to_z w64 (of_z w64 extent)) ≡ power_for (to_z w64 (of_z w64 extent)) → power_from left power extent ≡ power_for extent
so_far extent left power small is = subst (λ z. power_from left power z ≡ power_for z) (to_z-of_z small) is

pub returns-then-fits : goal.returns-then-fits
returns-then-fits c =
    sym (found (40 - c.loop-doublings.doublings) (16 + c.loop-doublings.doublings) c.args.extent
    (omega (arith, c.loop-doublings-test.true)) (extent_fits c.args.extent _ true c.ranges.extent (sym c.fits.ensures ∙ c.if-fits.true)))
    ∙ so_far c.args.extent _ _ c.ranges.extent c.loop-doublings.invariant

pub loop-doublings-preserved : goal.loop-doublings-preserved
loop-doublings-preserved c =
    sym (doubled (40 - c.loop-doublings.doublings) (40 - (c.loop-doublings.doublings + 1)) (16 + c.loop-doublings.doublings)
    (16 + (c.loop-doublings.doublings + 1)) (to_z w64 (of_z w64 c.args.extent)) (omega (arith, c.loop-doublings-test.true)) (omega arith)
    (sym c.fits.ensures ∙ c.if-fits.false))
    ∙ c.loop-doublings.invariant

pub returns : goal.returns
returns c =
    let end : c.loop-doublings.doublings ≡ 40 = omega (arith, c.loop-doublings-test.false, c.loop-doublings.auto.doublings-end) in
    sym (none 56 c.args.extent) ∙ so_far c.args.extent _ _ c.ranges.extent (rw end at c.loop-doublings.invariant)
