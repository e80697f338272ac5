use Rattle.std.proofs.Common.{◌<◌, ◌∷◌, ◌∙◌, sym, [], length, length-append, arith}
use Rattle.t1_seal.proofs.Openings.{text_discarded}
use Rattle.t1_seal.specs.Cipher.{eexec_start}
use Rattle.t1_seal.proofs.opening.Opening.take.Goals as goal

pub returns-then-self-lt-DISCARDED-clause-taken : goal.returns-then-self-lt-DISCARDED-clause-taken
returns-then-self-lt-DISCARDED-clause-taken c front taken =
    let short : length front < 4 = omega (arith, taken.discarded) in
    record {
      cipher = c.next.ensures.state eexec_start front (sym taken.cipher);
      discarded = omega (arith, taken.discarded, length-append front (c.args.byte ∷ []));
      text = taken.text ∙ text_discarded front c.args.byte short;
    }
