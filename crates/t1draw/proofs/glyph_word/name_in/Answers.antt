use Rattle.std.proofs.Common.{◌≡◌, ◌==◌, ℕ, true, arith}
use Rattle.std.proofs.lemmas.Bool.Decides.{nat_tests}
use Rattle.t1draw.proofs.GlyphWordLemmas.{at_end}
use Rattle.t1draw.proofs.glyph_word.name_in.Goals as goal

-- what was tested
is_zero : (n : ℕ) → true ≡ (n == 0) → n ≡ 0
is_zero n tested = grind (arith, nat_tests)

pub returns : goal.returns
returns c = at_end _ _ _ (is_zero _ c.loop-rest-test.ensures) c.loop-rest.invariant
