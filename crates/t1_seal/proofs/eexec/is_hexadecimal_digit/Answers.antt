use Rattle.std.proofs.Common.{◌∙◌}
use Rattle.t1_seal.proofs.Digits.{digit_tests}
use Rattle.t1_seal.proofs.eexec.is_hexadecimal_digit.Goals as goal

pub returns : goal.returns
returns c = c.is_ascii_hexdigit.ensures.value ∙ digit_tests c.args.byte
