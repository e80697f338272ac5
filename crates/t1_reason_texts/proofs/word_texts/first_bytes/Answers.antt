use Rattle.std.proofs.Common.{arith, sym}
use Rattle.std.proofs.lemmas.List.{length-take-le, take_all}
use Rattle.t1_reason_texts.proofs.word_texts.first_bytes.Goals as goal

pub slice_bounds-result-end : goal.slice_bounds-result-end
slice_bounds-result-end c = sym (length-take-le 40 c.args.word.now (omega (arith, c.if-word-gt-MOST_BYTES.true)))

pub returns-else-word-gt-MOST_BYTES : goal.returns-else-word-gt-MOST_BYTES
returns-else-word-gt-MOST_BYTES c = sym (take_all 40 c.args.word.now (omega (arith, c.if-word-gt-MOST_BYTES.false)))
