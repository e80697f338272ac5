use Rattle.std.proofs.Common.{◌≡◌, ◌++◌, ap, append-nil, drop, sym, take, true, ◌∙◌}
use Rattle.std.specs.List.{list_all}
use Rattle.t1_many.proofs.Letters.{all_digits, next_letter}
use Rattle.t1_many.proofs.choice.letters_of.Goals as goal
use Rattle.t1_scan.specs.Bytes.{is_decimal_digit}

pub returns-then-are_digits : goal.returns-then-are_digits
returns-then-are_digits c =
    let digits : list_all is_decimal_digit (drop c.loop-at.at c.args.code.now) ≡ true =
    sym (ap (list_all is_decimal_digit) c.split_at.ensures.back) ∙ sym c.are_digits.ensures ∙ c.if-are_digits.true in
    c.split_at.ensures.front
    ∙ sym (c.loop-at.invariant ∙ ap (λ l. take c.loop-at.at c.args.code.now ++ l) (all_digits (drop c.loop-at.at c.args.code.now) digits)
    ∙ append-nil (take c.loop-at.at c.args.code.now))

pub loop-at-preserved : goal.loop-at-preserved
loop-at-preserved c =
    next_letter c.args.code.now c.loop-at.at c.loop-at-test.true
    (sym (ap (list_all is_decimal_digit) c.split_at.ensures.back) ∙ sym c.are_digits.ensures ∙ c.if-are_digits.false) c.loop-at.invariant
