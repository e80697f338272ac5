use Rattle.t1_font.proofs.DifferentKeys.{none_stands_twice}
use Rattle.t1_font.proofs.ReadKeys.{fonts_have_distinct_keys}
use Rattle.t1_font.proofs.laws.keys_stand_once.Goals as goal

pub returns-clause-stated : goal.returns-clause-stated
returns-clause-stated c = none_stands_twice

pub returns-clause-read : goal.returns-clause-read
returns-clause-read c = fonts_have_distinct_keys
