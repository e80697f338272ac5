use Rattle.std.proofs.Common.{◌≡◌, ◌<◌, ◌+◌, ◌^◌, ℕ, None, Option, take, sym, subst, ap, ◌∙◌, arith, rules}
use Rattle.std.proofs.lemmas.List.{take_all}
use Rattle.std.specs.Option.{SomeIff}
use Rattle.std.specs.Str.Parse.{digits_value}
use Rattle.t1_known.proofs.DigitSteps.{digit_more, most}
use Rattle.t1_known.proofs.digits.number.Goals as goal

pub returns-in_err-checked_mul : goal.returns-in_err-checked_mul
returns-in_err-checked_mul c =
    let is : c.from_residual.result ≡ None = search rules in
    let more = digit_more c.args.digits.now c.loop-digit.digit-index c.requires c.loop-digit-test.true in
    let whole = most c.args.digits.now (c.loop-digit.digit-index + 1) in
    subst (λ (o : Option ℕ). SomeIff o (digits_value 10 c.args.digits.now < 2 ^ 64) (digits_value 10 c.args.digits.now)) (sym is)
    (λ few. c.in_err-checked_mul.ensures (omega (arith, more, whole, few, c.loop-digit.invariant.is)))

pub returns-in_err-number : goal.returns-in_err-number
returns-in_err-number c =
    let is : c.from_residual-in_err-number.result ≡ None = search rules in
    let more = digit_more c.args.digits.now c.loop-digit.digit-index c.requires c.loop-digit-test.true in
    let whole = most c.args.digits.now (c.loop-digit.digit-index + 1) in
    subst (λ (o : Option ℕ). SomeIff o (digits_value 10 c.args.digits.now < 2 ^ 64) (digits_value 10 c.args.digits.now)) (sym is)
    (λ few. c.in_err-number.ensures (omega (arith, more, whole, few, c.loop-digit.invariant.is, c.in_ok-checked_mul.ensures.1)))

pub loop-digit-preserved : goal.loop-digit-preserved
loop-digit-preserved c =
    let more = digit_more c.args.digits.now c.loop-digit.digit-index c.requires c.loop-digit-test.true in
    record {
      is = omega (arith, more, c.loop-digit.invariant.is, c.in_ok-checked_mul.ensures.1, c.in_ok-number.ensures.1);
      few = omega (arith, c.in_ok-number.ensures.0, c.in_ok-number.ensures.1);
    }

pub returns : goal.returns
returns c =
    let all : digits_value 10 (take c.loop-digit.digit-index c.args.digits.now) ≡ digits_value 10 c.args.digits.now =
    ap (digits_value 10) (take_all c.loop-digit.digit-index c.args.digits.now c.loop-digit-test.false) in
    let is = c.loop-digit.invariant.is ∙ all in
    (omega (arith, is, c.loop-digit.invariant.few), is)
