use Rattle.std.proofs.Common.{◌≡◌, map, string_bytes, take}
use Rattle.t1_answer_all.specs.Words.{given_words}
use Rattle.t1_answer_all.proofs.words.words_given.Given as goal

abbrev pub invariant-loop-path : goal.invariant-loop-path
invariant-loop-path l = map string_bytes l.words.items ≡ given_words (map string_bytes (take l.path-index l.paths))
