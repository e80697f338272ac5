-- What a name is made of, byte by byte.
use Rattle.std.specs.Prelude.{◌≡◌, ℕ, List, Option, None, MatchOption}
use Rattle.std.specs.Borrow.{Bor}
use Rattle.t1_forms.specs.NameWords.{Begun, name_behind, name_of_word, with_byte}

-- The first byte of the name that bytes are after what is begun, and the bytes after it; there is none where they are no name.
abbrev pub IsFirstByte : Begun → List ℕ → Option (ℕ × Bor (List ℕ)) → Type 0
IsFirstByte begun bytes first =
    MatchOption first (name_behind begun bytes ≡ None)
    (λ it. name_behind begun bytes ≡ with_byte it.0 (name_of_word it.1.now))
