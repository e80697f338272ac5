-- How many lines a group has, and at which units.
use Rattle.std.specs.Prelude.{ℕ, zero, suc, ◌-◌, ◌==◌, nat_le, Bool, if◌then◌else◌, List, [], ◌∷◌, ◌++◌, codes, length, take}
use Rattle.std.specs.Fmt.{decimal}
use Rattle.std.specs.List.{flat_map}
use Rattle.t1_printers.specs.Widths.{width_of}

-- ` × COUNT:`, in UTF-8.
abbrev pub count_text : ℕ → List ℕ
count_text count = (32 ∷ 195 ∷ 151 ∷ 32 ∷ []) ++ (decimal count ++ codes ":")

-- What is before a name, by how many names are before it.
abbrev pub separator : ℕ → List ℕ
separator before = if before == 0 then codes " " else codes ", "

-- ` A, B, C`.
abbrev pub names_text : List (List ℕ) → List ℕ
names_text [] = []
names_text (name ∷ names) = separator 0 ++ (name ++ flat_map (λ n. separator 1 ++ n) names)

-- ` … and 5 more`, in UTF-8, unless there is none.
abbrev pub more_text : ℕ → List ℕ
more_text more = if more == 0 then [] else (32 ∷ 226 ∷ 128 ∷ 166 ∷ codes " and ") ++ (decimal more ++ codes " more")

-- With so many of the names.
abbrev pub tail_with : ℕ → List (List ℕ) → ℕ → List ℕ
tail_with count names shown = count_text count ++ (names_text (take shown names) ++ more_text (length names - shown))

-- The greatest number up to a last one that passes; else 0.
abbrev pub greatest : (ℕ → Bool) → ℕ → ℕ
greatest passes zero = zero
greatest passes (suc n) = if passes (suc n) then suc n else greatest passes n

-- The text is in the room.
abbrev pub fits : ℕ → ℕ → List (List ℕ) → ℕ → Bool
fits room count names shown = nat_le (width_of (tail_with count names shown)) room

-- As many names as fit.
abbrev pub tail_text : ℕ → ℕ → List (List ℕ) → List ℕ
tail_text room count names = tail_with count names (greatest (fits room count names) (length names))
