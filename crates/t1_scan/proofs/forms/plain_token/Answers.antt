use Rattle.std.proofs.Common.{rules, sym, ◌∙◌, FitsSigned, w64}
use Rattle.std.proofs.lemmas.Int.{to_z-of_z}
use Rattle.t1_scan.proofs.PlainTokens.{digits_begun, run_front}
use Rattle.t1_scan.proofs.forms.plain_token.Goals as goal

pub returns-then-is_decimal_digit-clause-found : goal.returns-then-is_decimal_digit-clause-found
returns-then-is_decimal_digit-clause-found c =
    let fits : FitsSigned w64 c.billionths_in.result = search rules in
    simp to_z-of_z (digits_begun c.args.text.now c.in_ok-len.len c.in_ok-len.value c.billionths_in.ensures c.in-len1-up.len_at_least
    (sym c.is_decimal_digit.ensures ∙ c.if-is_decimal_digit.true) c.in_ok-len.ensures.alone c.in_ok-len.ensures.bound)

pub returns-clause-found : goal.returns-clause-found
returns-clause-found c =
    run_front c.args.text.now c.run_len.result c.in_ok-kind.kind c.in-len1-up.len_at_least c.run_len.ensures.value c.in_ok-kind.ensures
