-- Globs, and the names that they match. Both are lists of characters.
use Rattle.std.specs.Prelude.{◌≡◌, ◌==◌, ◌+◌, ◌≤◌, ℕ, ◌&&◌, ◌||◌, Bool, true, false, not, List, [], ◌∷◌, Option, None, Some, if◌then◌else◌, drop, length, nat_le, position, slice_index_or, take}
use Rattle.std.specs.List.{list_any}
use Rattle.std.specs.Str.{chars}

-- The pieces of a glob: a character that matches itself, `?`, `[abc]` or, negated, `[!abc]`, `*`, and `**`.
pub data Piece : Type 0 where
  itself : ℕ → Piece
  any_char : Piece
  set : Bool → List ℕ → Piece
  star : Piece
  double_star : Piece

-- Its pieces, and whether a slash is in its text.
pub record Glob : Type 0 where
  pub pieces : List Piece
  pub has_slash : Bool

-- What parts the names of folders.
abbrev pub is_slash : ℕ → Bool
is_slash c = c == 47

-- A character is in a set of these members: `a-z` are the characters from `a` to `z`, all else is itself, as a `-` at
-- either end.
abbrev pub in_set : List ℕ → ℕ → Bool
in_set [] c = false
in_set (a ∷ []) c = c == a
in_set (a ∷ b ∷ []) c = c == a || c == b
in_set (a ∷ dash ∷ b ∷ more) c = if dash == 45 then (nat_le a c && nat_le c b) || in_set more c else c == a || in_set (dash ∷ b ∷ more) c

-- A piece can match this character. Just `/` itself and `**` can match `/`.
abbrev pub fits : Piece → ℕ → Bool
fits (itself own) c = c == own
fits any_char c = not (is_slash c)
fits (set negated members) c = not (is_slash c) && (if negated then not (in_set members c) else in_set members c)
fits star c = not (is_slash c)
fits double_star c = true

-- A piece matches any number of characters, none too; the others match one.
abbrev pub repeats : Piece → Bool
repeats (itself own) = false
repeats any_char = false
repeats (set negated members) = false
repeats star = true
repeats double_star = true

-- One character that the test passes, and what passes after it.
abbrev pub one_then : (ℕ → Bool) → (List ℕ → Bool) → List ℕ → Bool
one_then test passes [] = false
one_then test passes (c ∷ cs) = test c && passes cs

-- Any number of such characters, and what passes after them.
abbrev pub any_then : (ℕ → Bool) → (List ℕ → Bool) → List ℕ → Bool
any_then test passes [] = passes []
any_then test passes (c ∷ cs) = passes (c ∷ cs) || (test c && any_then test passes cs)

-- What the piece matches, and what passes after it.
abbrev pub piece_then : Piece → (List ℕ → Bool) → List ℕ → Bool
piece_then piece passes name = if repeats piece then any_then (fits piece) passes name else one_then (fits piece) passes name

-- The pieces match the whole of a name.
abbrev pub matches : List Piece → List ℕ → Bool
matches [] [] = true
matches [] (c ∷ cs) = false
matches (piece ∷ pieces) name = piece_then piece (matches pieces) name

-- What is after the last slash of a name.
abbrev pub last_part : List ℕ → List ℕ
last_part [] = []
last_part (c ∷ cs) = if list_any is_slash (c ∷ cs) then last_part cs else c ∷ cs

-- A glob matches the whole of a name; one without a slash may match the last part alone.
abbrev pub does_match : Glob → List ℕ → Bool
does_match glob name = matches glob.pieces name || (not glob.has_slash && matches glob.pieces (last_part name))

-- One of these globs matches the name.
abbrev pub is_excluded : List Glob → List ℕ → Bool
is_excluded globs name = list_any (λ glob. does_match glob (chars name)) globs

-- The first piece of a glob, and what is after it.
pub record Front : Type 0 where
  pub piece : Piece
  pub rest : List ℕ

-- After a `*`: another one makes it `**`.
abbrev pub star_front : List ℕ → Front
star_front [] = record { piece = star; rest = [] }
star_front (c ∷ rest) = if c == 42 then record { piece = double_star; rest = rest } else record { piece = star; rest = c ∷ rest }

-- The members of a set, and what is after its end.
pub record Members : Type 0 where
  pub members : List ℕ
  pub rest : List ℕ

-- They reach to this place, if there is one and no slash is before it.
abbrev pub members_to : ℕ → List ℕ → Option ℕ → Option Members
members_to first more None = None
members_to first more (Some end) =
    if list_any is_slash (first ∷ take end more) then None
    else Some (record { members = first ∷ take end more; rest = drop (end + 1) more })

-- A set ends at the first `]` that isn't its first character.
abbrev pub members_at : List ℕ → Option Members
members_at [] = None
members_at (first ∷ more) = members_to first more (position (λ c. c == 93) more)

-- A `[` that begins no set is itself, as in POSIX's fnmatch.
abbrev pub set_or_itself : Bool → List ℕ → Option Members → Front
set_or_itself negated rest None = record { piece = itself 91; rest = rest }
set_or_itself negated rest (Some found) = record { piece = set negated found.members; rest = found.rest }

-- After a `[`: a `!` makes a set negated.
abbrev pub set_front : List ℕ → Front
set_front [] = record { piece = itself 91; rest = [] }
set_front (c ∷ rest) = if c == 33 then set_or_itself true (c ∷ rest) (members_at rest) else set_or_itself false (c ∷ rest) (members_at (c ∷ rest))

-- The first piece of a glob that begins with this character, and what is after it.
abbrev pub front : ℕ → List ℕ → Front
front c rest =
    if c == 42 then star_front rest
    else (if c == 63 then record { piece = any_char; rest = rest }
    else (if c == 91 then set_front rest else record { piece = itself c; rest = rest }))

-- The pieces of a glob.
pub data AreRead : List ℕ → List Piece → Type 0 where
  nothing : AreRead [] []
  next : (c : ℕ) → (rest : List ℕ) → (pieces : List Piece) → AreRead (front c rest).rest pieces → AreRead (c ∷ rest) ((front c rest).piece ∷ pieces)

-- The glob that a text is.
pub record IsRead (text : List ℕ) (glob : Glob) : Type 0 where
  pub pieces : AreRead text glob.pieces
  pub has_slash : glob.has_slash ≡ list_any is_slash text

-- A row has, for each place in a name, whether what is after it passes.
abbrev pub IsRow : (List ℕ → Bool) → List ℕ → List Bool → Type 0
IsRow passes name row = (at : ℕ) → at ≤ length name → slice_index_or row at false ≡ passes (drop at name)
