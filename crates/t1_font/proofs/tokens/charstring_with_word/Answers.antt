use Rattle.std.proofs.Common.{refl}
use Rattle.t1_font.specs.Private.Tokens.{found_of}
use Rattle.t1_font.proofs.Entries.{natural_number, raw_behind}
use Rattle.t1_font.proofs.RowsLeft.{wanted_ahead}
use Rattle.t1_font.proofs.tokens.charstring_with_word.Goals as goal

pub returns-clause-word : goal.returns-clause-word
returns-clause-word c = record {
  count = found_of c.in_ok-count.count c.in_ok-count.rest.now;
  word = found_of c.in_ok-word.word c.in_ok-word.rest.now;
  first = wanted_ahead _ _ _ c.in_ok-count.ensures;
  number = natural_number _ _ _ _ c.in_ok-len.ensures;
  next = wanted_ahead _ _ _ c.in_ok-word.ensures;
  kind = refl;
  text = refl;
  behind = raw_behind _ _ _ _ _ c.in_ok-bytes.ensures;
}
