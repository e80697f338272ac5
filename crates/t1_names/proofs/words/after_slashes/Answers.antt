use Rattle.std.proofs.Common.{◌∙◌, sym}
use lib.Utf8.{encode}
use Rattle.t1_names.proofs.WordLemmas.{after_slashes-same}
use Rattle.t1_names.proofs.words.after_slashes.Goals as goal

pub returns : goal.returns
unfolding encode
returns c = sym (after_slashes-same c.loop-next.rest.now c.in_default.ensures.cases) ∙ c.loop-next.invariant.1
