use Rattle.std.proofs.Common.{map, string_bytes, take}
use Rattle.t1_answer_all.specs.Private.Words.{AreWordsOf}
use Rattle.t1_options.specs.Settings.Finding.{system_by}
use Rattle.t1_answer_all.proofs.words.all_words.Given as goal

abbrev pub invariant-loop-list : goal.invariant-loop-list
invariant-loop-list g l =
    AreWordsOf (system_by g.F.FileSystem.asks l.fn.system l.system) (map string_bytes l.paths) (map string_bytes (take l.list-index l.lists)) l.words
