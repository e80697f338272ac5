-- Texts by their places in a list.
use Rattle.std.specs.Prelude.{ℕ, List, [], map, slice_index_or}
use Rattle.std.specs.Borrow.{Bor}

-- The letters at a place of a list of texts.
abbrev pub text_at : List (Bor (List ℕ)) → ℕ → List ℕ
text_at names place = slice_index_or (map (λ name. name.now) names) place []
