use Rattle.std.proofs.Common.{◌≤◌, ◌∷◌, sym, [], length, length-append, arith}
use Rattle.t1_seal.proofs.Openings.{text_pushed}
use Rattle.t1_seal.specs.Cipher.{eexec_start}
use Rattle.t1_seal.proofs.opening.Opening.take_text.Goals as goal

pub returns-clause-taken : goal.returns-clause-taken
returns-clause-taken c front taken =
    let long : 4 ≤ length front = omega (arith, taken.discarded, c.requires.behind) in
    record {
      cipher = c.next-plain.ensures.state eexec_start front (sym taken.cipher);
      discarded = omega (arith, taken.discarded, length-append front (c.args.byte ∷ []));
      text = rw (c.push_reserved.ensures.items, taken.text, c.next-plain.ensures.plain eexec_start front (sym taken.cipher))
          (text_pushed front c.args.byte long);
    }
