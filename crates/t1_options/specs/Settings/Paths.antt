-- Names below the folder of a settings file.
use Rattle.std.specs.Prelude.{◌==◌, ◌||◌, ℕ, List, [], ◌∷◌, if◌then◌else◌, chars, encode_utf8_all, flat_map}
use Rattle.std.specs.List.{list_any}
use Rattle.std.specs.Path.{path_join}

-- In a glob, `*`, `?` and `[` are just themselves as the only member of a set.
abbrev pub itself : ℕ → List ℕ
itself c = if c == 42 || (c == 63 || c == 91) then 91 ∷ c ∷ 93 ∷ [] else c ∷ []

-- The glob of a name, character by character.
abbrev pub escaped : List ℕ → List ℕ
escaped name = encode_utf8_all (flat_map itself (chars name))

-- A glob with a slash matches names below the folder. One without matches the last part of any name.
abbrev pub glob_below : List ℕ → List ℕ → List ℕ
glob_below folder glob = if list_any (λ byte. byte == 47) glob then path_join (escaped folder) glob else glob
