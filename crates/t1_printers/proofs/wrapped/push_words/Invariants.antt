use Rattle.std.proofs.Common.{◌≡◌, ◌++◌, drop, map}
use Rattle.t1_printers.proofs.wrapped.push_words.Given as goal
use Rattle.t1_printers.specs.Wrapped.{wrapped}

abbrev pub invariant-loop-word : goal.invariant-loop-word
invariant-loop-word l =
    l.text.items ++ wrapped l.columns l.room (map (λ word. word.now) (drop l.word-index l.words))
    ≡ l.fn.text.items ++ wrapped l.columns 0 (map (λ word. word.now) l.words)
