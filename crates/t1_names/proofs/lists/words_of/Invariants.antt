use Rattle.std.proofs.Common.{◌≡◌, ◌++◌, filter, map, string_bytes}
use Rattle.t1_names.specs.Lists.{is_word}
use Rattle.t1_names.specs.Words.{file_name}
use Rattle.t1_names.proofs.lists.words_of.Given as goal

abbrev pub invariant-loop-line : goal.invariant-loop-line
invariant-loop-line l =
    map string_bytes l.words.items ++ map file_name (filter is_word (map (λ line. line.now) l.line-iterator.rest.items))
    ≡ map file_name (filter is_word (map (λ line. line.now) l.fn.lines.items))
