-- Parts of a list.
use Rattle.std.specs.Prelude.{ℕ, suc, zero, ◌*◌, ◌/◌, List, [], ◌++◌, drop, length, take}

-- Where part I + 1 of N begins in a list of so many: the parts before it have I of N of them.
abbrev pub start_of : ℕ → ℕ → ℕ → ℕ
start_of parts count part = part * count / parts

-- A part, counted from 0.
abbrev pub part_of : {A : Type 0} → ℕ → List A → ℕ → List A
part_of parts list part = drop (start_of parts (length list) part) (take (start_of parts (length list) (suc part)) list)

-- The lists of the first parts, joined.
abbrev pub joined : {A : Type 0} → (ℕ → List A) → ℕ → List A
joined list_of zero = []
joined list_of (suc n) = joined list_of n ++ list_of n

-- The first parts, one after the other.
abbrev pub first_parts : {A : Type 0} → ℕ → List A → ℕ → List A
first_parts parts list n = joined (part_of parts list) n
