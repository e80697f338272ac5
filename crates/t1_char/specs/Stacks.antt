-- The stack of numbers, bottom first. Type 1 Font Format 1.1, chapter 6.
use Rattle.std.specs.Prelude.{ℕ, ℤ, pos, ◌-◌, nat_lt, if◌then◌else◌, List, [], ◌∷◌, ◌++◌, length, reverse, take, drop, slice_index_or}

-- The most numbers that a stack holds.
abbrev pub most_numbers : ℕ
most_numbers = 24

-- One number more on top; a 25th is dropped.
abbrev pub put : List ℤ → ℤ → List ℤ
put stack z = if nat_lt (length stack) most_numbers then stack ++ z ∷ [] else stack

-- The number so many below the top; 0 where there is none. That there is one is the caller's to see to.
abbrev pub from_top : List ℤ → ℕ → ℤ
from_top stack below = slice_index_or (reverse stack) below (pos 0)

-- The stack without its n topmost.
abbrev pub without : ℕ → List ℤ → List ℤ
without n stack = take (length stack - n) stack

-- Its n topmost, bottom first.
abbrev pub topmost : ℕ → List ℤ → List ℤ
topmost n stack = drop (length stack - n) stack
