-- Braces and brackets with their partners. Type 1 Font Format 1.1, chapters 2 and 10; how deep they nest at most is our choice.
use Rattle.std.specs.Prelude.{ℕ, zero, suc, Bool, true, false, Option, Some, None, List, [], ◌∷◌, ◌++◌, ◌-◌, ◌==◌, ◌||◌, if◌then◌else◌, nat_lt, length, take, slice_get, not}
use Rattle.std.specs.Bool.{then_some}
use Rattle.t1_scan.specs.declared.token.Kind.{Kind}
use Rattle.t1_scan.specs.declared.token.Kind.TheVariants.{Word, Proc, Array}
use Rattle.t1_scan.specs.Lengths.{begins_with_close, most_nested, part_len}

-- The open brackets after one more opens, the innermost last; none where too many are open.
abbrev pub opened : ℕ → List ℕ → Option (List ℕ)
opened b brackets = then_some (nat_lt (length brackets) most_nested) (brackets ++ b ∷ [])

abbrev pub is_innermost : ℕ → Option ℕ → Bool
is_innermost b None = false
is_innermost b (Some innermost) = innermost == b

-- The open brackets after the partner of this one; none where another is the innermost, or no one is open.
abbrev pub closed : ℕ → List ℕ → Option (List ℕ)
closed b brackets = then_some (is_innermost b (slice_get brackets (length brackets - 1))) (take (length brackets - 1) brackets)

-- The open brackets after a byte.
abbrev pub open_after : ℕ → List ℕ → Option (List ℕ)
open_after b brackets =
    if b == 123 || b == 91 then opened b brackets
    else (if b == 125 then closed 123 brackets
    else (if b == 93 then closed 91 brackets
    else Some brackets))

-- What is skipped whole: a comment, a string, `<<`, `>>`, or else one byte; none at a `)` or a `>` alone, and where a string isn't closed.
abbrev pub skipped_len : ℕ → List ℕ → Option ℕ
skipped_len b s =
    if b == 41 then None
    else (if b == 62 then then_some (begins_with_close s) 2
    else part_len b s)

-- A test of what is there; false where nothing is.
abbrev pub holds : {A : Type 0} → (A → Bool) → Option A → Bool
holds test None = false
holds test (Some x) = test x

abbrev pub is_none_open : List ℕ → Bool
is_none_open [] = true
is_none_open (b ∷ more) = false

-- Whether the rest of a text closes what is open, each bracket by its partner. So many bytes as are still to `skip` open and close nothing.
unfoldable pub pairs : ℕ → List ℕ → List ℕ → Bool
pairs skip brackets [] = is_none_open brackets
pairs (suc n) brackets (b ∷ s) = pairs n brackets s
pairs zero brackets (b ∷ s) =
    holds (λ left. holds (λ n. pairs (n - 1) left s) (skipped_len b s)) (open_after b brackets)

abbrev pub is_paired : List ℕ → Bool
is_paired text = pairs 0 [] text

-- One of } ] ) >.
abbrev pub is_lone_close : List ℕ → Bool
is_lone_close [] = false
is_lone_close (b ∷ []) = b == 125 || b == 93 || b == 41 || b == 62
is_lone_close (b ∷ c ∷ more) = false

-- A brace or a bracket without a partner is a token, or is in a procedure or an array.
abbrev pub is_unpaired : Kind → List ℕ → Bool
is_unpaired Word text = is_lone_close text
is_unpaired Proc text = not (is_paired text)
is_unpaired Array text = not (is_paired text)
is_unpaired _ text = false
