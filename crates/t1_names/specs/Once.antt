-- Each name once.
use Rattle.std.specs.Prelude.{ℕ, List, [], ◌∷◌, ◌++◌, if◌then◌else◌}
use Rattle.std.specs.List.{list_any}
use Rattle.std.specs.Str.{bytes_eq}

-- The names that aren't among those before them, after names that are kept.
abbrev pub each_after : List (List ℕ) → List (List ℕ) → List (List ℕ)
each_after kept [] = []
each_after kept (name ∷ names) =
    if list_any (bytes_eq name) kept then each_after kept names else name ∷ each_after (kept ++ name ∷ []) names

-- Each name once, in the order of the first places.
abbrev pub each_once : List (List ℕ) → List (List ℕ)
each_once names = each_after [] names
