use Rattle.std.proofs.Common.{◌≡◌, ◌<◌, ◌++◌, ◌+◌, ◌-◌, ◌*◌, ◌/◌, ◌%◌, ◌==◌, ◌∙◌, Bool, [], ap, append-nil, append_assoc, arith, cond, false, refl, rules, suc, sym, true, zero, ℕ}
use Rattle.std.proofs.lemmas.Bool.{eqb-true}
use Rattle.std.specs.Fmt.{decimal}
use Rattle.std.proofs.Output.{has_written_append, has_written_of_eq}
use Rattle.t1_reason_texts.specs.Decimals.{one_of, places}
use Rattle.t1_reason_texts.proofs.decimals.FractionDisplay.fmt.Goals as goal

no_rest : (one n : ℕ) → places one n 0 ≡ []
unfolding places
no_rest one zero = refl
no_rest one (suc n) = refl

no_place : (one n rest : ℕ) → n ≡ 0 → places one n rest ≡ []
unfolding places
no_place one n rest is = rw is refl

one_place : (one n m rest tenths digit part : ℕ) → n ≡ suc m → 0 < rest → tenths ≡ rest * 10 → digit ≡ tenths / one → part ≡ tenths % one
    → decimal digit ++ places one m part ≡ places one n rest
unfolding places
one_place one n m rest tenths digit part more some is whole left = by_test (rest == 0) refl
  where
    by_test : (b : Bool) → (rest == 0) ≡ b → decimal digit ++ places one m part ≡ places one n rest
    by_test true none = absurd (omega (arith, eqb-true rest 0 none, some))
    by_test false not = rw (whole, left, is)
        (sym (ap (λ (k : ℕ). places one k rest) more ∙ ap (λ b. cond b [] (decimal (rest * 10 / one) ++ places one m (rest * 10 % one))) not))

pub returns-then-rest-eq0-clause-writes : goal.returns-then-rest-eq0-clause-writes
returns-then-rest-eq0-clause-writes g c = λ plain ok.
    let so_far = c.loop-place.invariant.written plain in
    has_written_of_eq _ _ _ _ _ (rw (c.if-rest-eq0.true, no_rest, append-nil) at so_far.2) so_far.1

pub loop-place-preserved : goal.loop-place-preserved
loop-place-preserved g c = record {
  below = c.part-rest.ensures.below;
  written = λ plain.
      let so_far = c.loop-place.invariant.written plain in
      let tenths : c.saturating_mul-tenths.result ≡ c.loop-place.rest * 10 = omega (arith, c.saturating_mul-tenths.ensures, c.loop-place.invariant.below) in (
        so_far.0 ++ decimal c.whole-digit.result,
        has_written_append _ _ _ _ _ _ so_far.1 (search rules),
        append_assoc so_far.0 _ _
            ∙ ap (λ t. so_far.0 ++ t)
            (one_place (one_of c.args.self.now.unit) (34 - c.loop-place._place) (34 - (c.loop-place._place + 1)) c.loop-place.rest
            c.saturating_mul-tenths.result c.whole-digit.result c.part-rest.result (omega (arith, c.loop-place-test.true))
            (omega (arith, c.if-rest-eq0.false)) tenths c.whole-digit.ensures c.part-rest.ensures.value)
            ∙ so_far.2,
      );
}

pub returns-clause-writes : goal.returns-clause-writes
returns-clause-writes g c = λ plain ok.
    let so_far = c.loop-place.invariant.written plain in
    has_written_of_eq _ _ _ _ _ (rw (no_place _ (34 - c.loop-place._place) c.loop-place.rest (omega (arith, c.loop-place-test.false)), append-nil) at so_far.2) so_far.1
