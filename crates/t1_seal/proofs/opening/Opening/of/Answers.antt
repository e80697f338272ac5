use Rattle.std.proofs.Common.{lit<, refl, sym, ◌∙◌}
use Rattle.t1_seal.proofs.States.{starts_at_the_start}
use Rattle.t1_seal.specs.Cipher.{decrypted, eexec_start}
use Rattle.t1_seal.proofs.opening.Opening.of.Goals as goal

pub returns-clause-taken : goal.returns-clause-taken
unfolding decrypted
returns-clause-taken c = record {
  cipher = c.eexec.ensures ∙ sym (starts_at_the_start eexec_start (lit< tt));
  discarded = refl;
  text = c.in_ok-text.ensures.items;
}

pub returns-clause-room : goal.returns-clause-room
returns-clause-room c = c.in_ok-text.ensures.exact ∙ c.saturating_sub.ensures
