-- The tokens after some bytes are the tokens of what follows these.
use Rattle.std.proofs.Common.{◌≡◌, ℕ, zero, suc, List, [], ◌∷◌, drop, refl}
use Rattle.t1_char.specs.Tokens.{tokens_behind, tokens_of}

pub tokens_behind_is : (n : ℕ) (s : List ℕ) → tokens_behind n s ≡ tokens_of (drop n s)
unfolding tokens_behind
tokens_behind_is zero s = refl
tokens_behind_is (suc n) [] = refl
tokens_behind_is (suc n) (b ∷ s) = tokens_behind_is n s
