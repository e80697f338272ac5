-- Bytes that are passed over.
use Rattle.std.specs.Prelude.{ℕ, Bool, ◌==◌, not}

-- A byte that isn't this one.
abbrev pub differs : ℕ → ℕ → Bool
differs byte c = not (c == byte)
