-- The letters of a name in a table of names.
use Rattle.std.proofs.Common.{◌≡◌, ℕ, zero, suc, ◌<◌, List, [], ◌∷◌, length, slice_index_or, refl, arith}
use Rattle.std.specs.Borrow.{Bor}
use Rattle.t1_rules.specs.Private.Texts.{text_at}

pub text_read : (names : List (Bor (List ℕ))) (place : ℕ) (d : Bor (List ℕ)) → place < length names → (slice_index_or names place d).now ≡ text_at names place
text_read [] place d there = absurd (omega arith)
text_read (n ∷ ns) zero d there = refl
text_read (n ∷ ns) (suc place) d there = text_read ns place d (omega arith)
