-- A seac by its two bytes.
use Rattle.std.specs.Prelude.{ℕ, ◌==◌, ◌&&◌, ◌||◌, Bool, false, List, [], ◌∷◌}

-- Somewhere 12 and 6 are side by side, where this byte comes before.
abbrev pub has_pair : ℕ → List ℕ → Bool
has_pair before [] = false
has_pair before (byte ∷ rest) = (byte == 6 && before == 12) || has_pair byte rest

-- Whether 6 comes first.
abbrev pub begins_with_6 : List ℕ → Bool
begins_with_6 [] = false
begins_with_6 (byte ∷ rest) = byte == 6
