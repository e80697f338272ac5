use Rattle.std.proofs.Common.{arith}
use Rattle.t1_names.proofs.ListLemmas.{no_text, some_word}
use Rattle.t1_names.proofs.lists.word_of.Goals as goal

pub returns-else-is_empty : goal.returns-else-is_empty
returns-else-is_empty c = some_word c.args.line.now c.in-Ok.word.now c.in-Ok.ensures.cases.0 c.in-Ok.ensures.cases.1 (λ none. grind (arith, none))

pub returns-in-Err : goal.returns-in-Err
returns-in-Err c = no_text c.args.line.now c.in-Err.ensures.cases.0
