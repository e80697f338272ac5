use Rattle.t1_words.proofs.NumbersRead.{numbers_are_numbers}
use Rattle.t1_words.proofs.laws.numbers_are_numbers.Goals as goal

pub returns : goal.returns
returns c = numbers_are_numbers
