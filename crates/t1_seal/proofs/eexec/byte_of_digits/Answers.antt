use Rattle.std.proofs.Common.{◌≡◌, ◌+◌, ◌*◌, ◌∷◌, ◌∙◌, [], refl, sym}
use Rattle.t1_seal.specs.Eexec.{digit_value}
use Rattle.t1_seal.proofs.Digits.{digits_decoded}
use Rattle.t1_seal.proofs.eexec.byte_of_digits.Goals as goal

pub unwrap-requires : goal.unwrap-requires
unwrap-requires c = rw (c.from_hex.ensures, digits_decoded c.args.high c.args.low c.requires.high c.requires.low) refl

pub returns : goal.returns
returns c =
    let same = sym c.unwrap.ensures ∙ c.from_hex.ensures ∙ digits_decoded c.args.high c.args.low c.requires.high c.requires.low in
    let is : c.unwrap.result ≡ (digit_value c.args.high * 16 + digit_value c.args.low) ∷ [] = cc same in
    rw is refl
