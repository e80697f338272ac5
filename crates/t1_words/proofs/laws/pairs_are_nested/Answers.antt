use Rattle.t1_words.proofs.PairsFound.{paired_is_nested}
use Rattle.t1_words.proofs.PairsRead.{nested_is_paired}
use Rattle.t1_words.proofs.laws.pairs_are_nested.Goals as goal

pub returns : goal.returns
returns c = λ s. (paired_is_nested s, nested_is_paired s)
