-- A text that is cut in two.
use Rattle.std.specs.Prelude.{ℕ, ◌==◌, if◌then◌else◌, List, [], ◌∷◌, Option, None, Some, option_map}

-- What is before the first such byte, and after it.
abbrev pub cut : ℕ → List ℕ → Option (List ℕ × List ℕ)
cut byte [] = None
cut byte (c ∷ text) = if c == byte then Some ([], text) else option_map (λ p. (c ∷ p.0, p.1)) (cut byte text)
