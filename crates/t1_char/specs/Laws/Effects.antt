-- Laws of the effect, on stacks that are written out. Type 1 Font Format 1.1, chapters 6 and 8.
use Rattle.std.specs.Prelude.{◌≡◌, ℕ, ℤ, pos, ◌^◌, ◌<◌, ◌++◌, Option, Some, List, [], ◌∷◌, length}
use Rattle.t1_char.specs.declared.command.Command.TheVariants.{Div, Callothersubr}
use Rattle.t1_char.specs.declared.token.CharToken.TheVariants.{Command}
use Rattle.t1_char.specs.Numbers.{units, natural, quotient}
use Rattle.t1_char.specs.Effects.{CalledSubr, state_of, goes, effect, effect_of, results}

-- a b div leaves the quotient.
abbrev pub DivDivides : Type 0
DivDivides = (below waiting : List ℤ) (a b : ℤ) (named : Option CalledSubr) (depth : ℕ) →
    effect_of (Command Div) named depth (state_of (below ++ a ∷ b ∷ []) waiting)
    ≡ effect (state_of (below ++ quotient a b ∷ []) waiting) goes

-- arguments count othersubr callothersubr takes all of these, and the results take the place of those
-- that waited.
abbrev pub OthersubrsAreCalled : Type 0
OthersubrsAreCalled = (below arguments waiting : List ℤ) (other : ℕ) (named : Option CalledSubr) (depth : ℕ) →
    length arguments < 2 ^ 32 → other < 2 ^ 32 →
    effect_of (Command Callothersubr) named depth
    (state_of ((below ++ arguments) ++ units (pos (length arguments)) ∷ units (pos other) ∷ []) waiting)
    ≡ effect (state_of below (results (Some other) arguments)) goes

-- A number is a count or the number of a Subr or an OtherSubr exactly where it is that whole number.
abbrev pub WholeNumbersAreRead : Type 0
WholeNumbersAreRead = (z : ℤ) (n : ℕ) →
    (natural z ≡ Some n → z ≡ units (pos n)) × (n < 2 ^ 32 → z ≡ units (pos n) → natural z ≡ Some n)
