use Rattle.std.proofs.Common.{◌≡◌, ◌++◌, length, option_map}
use Rattle.t1_forms.specs.NameWords.{name_of_word}
use Rattle.t1draw.proofs.glyph_word.name_in.Given as goal

-- what was read, and then the name that the rest is
abbrev pub invariant-loop-rest : goal.invariant-loop-rest
invariant-loop-rest l = option_map (λ more. l.name.items ++ more) (name_of_word l.rest) ≡ name_of_word l.word

abbrev pub decreases-loop-rest : goal.decreases-loop-rest
decreases-loop-rest l = length l.rest
