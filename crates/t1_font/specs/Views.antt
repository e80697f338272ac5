-- What the entries of a font's maps say.
use Rattle.std.specs.Prelude.{ℕ, Option, Some, None, List, map}
use Rattle.std.specs.Borrow.{Bor}

abbrev pub number_pair : ℕ × Bor (List ℕ) → ℕ × List ℕ
number_pair e = (e.0, e.1.now)

abbrev pub name_pair : Bor (List ℕ) × Bor (List ℕ) → List ℕ × List ℕ
name_pair e = (e.0.now, e.1.now)

-- The bytes of a charstring or a name.
abbrev pub bytes_of : Option (Bor (List ℕ)) → Option (List ℕ)
bytes_of None = None
bytes_of (Some b) = Some b.now

-- The bytes of names.
abbrev pub names_now : List (Bor (List ℕ)) → List (List ℕ)
names_now names = map (λ b. b.now) names
