use Rattle.std.proofs.Common.{refl}
use Rattle.t1_rules.proofs.Lemmas.Book.{listed}
use Rattle.t1_rules.proofs.Lemmas.RuleCodes.{codes_are_of_their_rules}
use Rattle.t1_rules.proofs.laws.rules_are_in_the_book.Goals as goal

pub returns : goal.returns
returns c = record { each = listed; no_more = refl; codes = codes_are_of_their_rules }
