use Rattle.t1_many.proofs.Codes.{codes_pick, letters_pick}
use Rattle.t1_many.proofs.laws.codes_pick_their_rules.Goals as goal

pub returns-clause-code : goal.returns-clause-code
returns-clause-code c = codes_pick

pub returns-clause-letters : goal.returns-clause-letters
returns-clause-letters c = letters_pick
