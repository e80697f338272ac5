-- Where a private text in the usual form (Type 1 Font Format, chapters 2, 5 and 6) breaks off, or goes
-- wrong: what is before that place, all of it as it should be, and what is due there.
use Rattle.std.specs.Prelude.{◌≡◌, ◌≤◌, ℕ, false, Some, List, [], ◌∷◌, ◌++◌, codes, flat_map, length, ◌-◌}
use Rattle.std.specs.List.{All}
use Rattle.t1_scan.specs.Spelling.{Plain, name, word}
use Rattle.t1_scan.specs.Texts.{are_blanks, BeginsWith}
use Rattle.t1_font.specs.declared.key.Key.{Key}
use Rattle.t1_font.specs.declared.key.Key.TheVariants.{LenIv}
use Rattle.t1_font.specs.declared.unread.Unread.{Unread}
use Rattle.t1_font.specs.declared.unread.Unread.TheVariants.{BadSubrs, BadCharStrings, BadLenIv}
use Rattle.t1_font.specs.Fonts.{firsts}
use Rattle.t1_font.specs.Keys.{private_key, same_name}
use Rattle.t1_font.specs.Laws.Written.{Piece, token, IsWritten, IsWhole}
use Rattle.t1_font.specs.Laws.UsualPrivateText.{PrivateItem, private_pieces, IsPrivateItem, IsNoDup, SubrItem, SubrsPart, some_subrs, subrs_pieces, IsSubrsPart, GlyphItem, glyph_pieces, glyph_names, IsGlyphItem, IsCount}
use Rattle.t1_font.specs.Bounds.{most_glyphs, most_subrs, longest_charstring}

-- What is left has more than blanks and comments, but begins with no token: one isn't closed, or nests
-- too deep.
pub record IsUnclosed (s : List ℕ) : Type 0 where
  pub more : are_blanks false s ≡ false
  pub none : (t : Plain) (rest : List ℕ) → BeginsWith s t rest → ⊥

-- What is before the CharStrings.
pub record Opening : Type 0 where
  pub front : List PrivateItem
  pub subrs : SubrsPart
  pub back : List PrivateItem

abbrev pub opening_pieces : Opening → List Piece
opening_pieces o =
    flat_map private_pieces o.front ++ (subrs_pieces o.subrs ++ flat_map private_pieces o.back)

pub record IsOpening (o : Opening) : Type 0 where
  pub front : All IsPrivateItem o.front
  pub subrs : IsSubrsPart o.subrs
  pub back : All IsPrivateItem o.back
  pub no_dup : All IsNoDup o.back

-- What is there of the next entry. Of a key: nothing; its name, without the slash.
pub data KeyStart : Type 0 where
  no_key : KeyStart
  key_name : Key → List ℕ → KeyStart

abbrev pub key_start_pieces : KeyStart → List Piece
key_start_pieces no_key = []
key_start_pieces (key_name k run) = token (name run) ∷ []

abbrev pub IsKeyStart : KeyStart → Type 0
IsKeyStart no_key = Unit {0}
IsKeyStart (key_name k run) = private_key (47 ∷ run) ≡ Some k

-- Of the Subrs: their name; their name and the count n.
pub data SubrsStart : Type 0 where
  subrs_name : SubrsStart
  subrs_count : ℕ → Plain → SubrsStart

abbrev pub subrs_start_pieces : SubrsStart → List Piece
subrs_start_pieces subrs_name = token (name (codes "Subrs")) ∷ []
subrs_start_pieces (subrs_count n count) = token (name (codes "Subrs")) ∷ token count ∷ []

abbrev pub IsSubrsStart : SubrsStart → Type 0
IsSubrsStart subrs_name = Unit {0}
IsSubrsStart (subrs_count n count) = IsWhole count n × (n ≤ most_subrs)

-- Of a charstring: nothing; the count n of its bytes.
pub data CharstringStart : Type 0 where
  no_length : CharstringStart
  its_length : ℕ → Plain → CharstringStart

abbrev pub charstring_start_pieces : CharstringStart → List Piece
charstring_start_pieces no_length = []
charstring_start_pieces (its_length n count) = token count ∷ []

abbrev pub IsCharstringStart : CharstringStart → Type 0
IsCharstringStart no_length = Unit {0}
IsCharstringStart (its_length n count) = IsWhole count n × (n ≤ longest_charstring)

-- Of a Subr: nothing; the word dup; dup, its number n, and what is there of its charstring.
pub data SubrStart : Type 0 where
  no_subr : SubrStart
  lone_dup : SubrStart
  subr_number : ℕ → Plain → CharstringStart → SubrStart

abbrev pub subr_start_pieces : SubrStart → List Piece
subr_start_pieces no_subr = []
subr_start_pieces lone_dup = token (word (codes "dup")) ∷ []
subr_start_pieces (subr_number n number c) =
    token (word (codes "dup")) ∷ token number ∷ charstring_start_pieces c

abbrev pub IsSubrStart : SubrStart → Type 0
IsSubrStart no_subr = Unit {0}
IsSubrStart lone_dup = Unit {0}
IsSubrStart (subr_number n number c) = IsWhole number n × (n ≤ most_subrs - 1) × IsCharstringStart c

-- Of the CharStrings' head: their name; then their count; then dict; then dup.
pub data GlyphsStart : Type 0 where
  glyphs_name : GlyphsStart
  glyphs_count : Plain → GlyphsStart
  glyphs_dict : Plain → GlyphsStart
  glyphs_dup : Plain → GlyphsStart

abbrev pub glyphs_start_pieces : GlyphsStart → List Piece
glyphs_start_pieces glyphs_name = token (name (codes "CharStrings")) ∷ []
glyphs_start_pieces (glyphs_count count) = token (name (codes "CharStrings")) ∷ token count ∷ []
glyphs_start_pieces (glyphs_dict count) =
    token (name (codes "CharStrings")) ∷ token count ∷ token (word (codes "dict")) ∷ []
glyphs_start_pieces (glyphs_dup count) =
    token (name (codes "CharStrings")) ∷ token count ∷ token (word (codes "dict"))
    ∷ token (word (codes "dup")) ∷ []

abbrev pub IsGlyphsStart : GlyphsStart → Type 0
IsGlyphsStart glyphs_name = Unit {0}
IsGlyphsStart (glyphs_count count) = IsCount count
IsGlyphsStart (glyphs_dict count) = IsCount count
IsGlyphsStart (glyphs_dup count) = IsCount count

-- Of a glyph: nothing; its name, without the slash, and what is there of its charstring.
pub data GlyphStart : Type 0 where
  no_glyph : GlyphStart
  glyph_name : List ℕ → CharstringStart → GlyphStart

abbrev pub glyph_start_pieces : GlyphStart → List Piece
glyph_start_pieces no_glyph = []
glyph_start_pieces (glyph_name run c) = token (name run) ∷ charstring_start_pieces c

abbrev pub glyph_start_names : GlyphStart → List (List ℕ)
glyph_start_names no_glyph = []
glyph_start_names (glyph_name run c) = run ∷ []

abbrev pub IsGlyphStart : GlyphStart → Type 0
IsGlyphStart no_glyph = Unit {0}
IsGlyphStart (glyph_name run c) = IsCharstringStart c

-- The CharStrings' head.
abbrev pub head_pieces : Plain → List Piece
head_pieces count =
    token (name (codes "CharStrings")) ∷ token count ∷ token (word (codes "dict"))
    ∷ token (word (codes "dup")) ∷ token (word (codes "begin")) ∷ []

-- What is before the place: among the keys; in the head of the Subrs; among n Subrs or all of them; in the
-- head of the CharStrings; among the glyphs.
pub data Begun : Type 0 where
  in_keys : Opening → KeyStart → Begun
  in_subrs : List PrivateItem → SubrsStart → Begun
  among_subrs : List PrivateItem → ℕ → Plain → List SubrItem → SubrStart → Begun
  in_glyphs : Opening → GlyphsStart → Begun
  among_glyphs : Opening → Plain → List GlyphItem → GlyphStart → Begun

abbrev pub begun_pieces : Begun → List Piece
begun_pieces (in_keys o k) = opening_pieces o ++ key_start_pieces k
begun_pieces (in_subrs front k) = flat_map private_pieces front ++ subrs_start_pieces k
begun_pieces (among_subrs front n count items k) =
    flat_map private_pieces front ++ (subrs_pieces (some_subrs n count items) ++ subr_start_pieces k)
begun_pieces (in_glyphs o k) = opening_pieces o ++ glyphs_start_pieces k
begun_pieces (among_glyphs o count items k) =
    opening_pieces o ++ (head_pieces count ++ (flat_map glyph_pieces items ++ glyph_start_pieces k))

-- There are at most 65,535 glyphs, the one that is begun among them.
abbrev pub AreFew : List GlyphItem → GlyphStart → Type 0
AreFew items k = length (firsts same_name (flat_map glyph_names items ++ glyph_start_names k)) ≤ most_glyphs

abbrev pub AreBegun : Begun → Type 0
AreBegun (in_keys o k) = IsOpening o × IsKeyStart k
AreBegun (in_subrs front k) = All IsPrivateItem front × IsSubrsStart k
AreBegun (among_subrs front n count items k) =
    All IsPrivateItem front × IsSubrsPart (some_subrs n count items) × IsSubrStart k
AreBegun (in_glyphs o k) = IsOpening o × IsGlyphsStart k
AreBegun (among_glyphs o count items k) =
    IsOpening o × IsCount count × All IsGlyphItem items × IsGlyphStart k × AreFew items k

-- A text begins so, and this is left.
pub record IsBegun (b : Begun) (s left : List ℕ) : Type 0 where
  pub parts : AreBegun b
  pub written : IsWritten s (begun_pieces b) left

-- The refusal where nothing is left. After a lone dup, which begins no Subr, the CharStrings are missing.
abbrev pub missing_value : KeyStart → Unread
missing_value (key_name LenIv run) = BadLenIv
missing_value _ = BadCharStrings

abbrev pub missing_subr : SubrStart → Unread
missing_subr (subr_number n number c) = BadSubrs
missing_subr _ = BadCharStrings

abbrev pub missing : Begun → Unread
missing (in_keys o k) = missing_value k
missing (in_subrs front k) = BadSubrs
missing (among_subrs front n count items k) = missing_subr k
missing (in_glyphs o k) = BadCharStrings
missing (among_glyphs o count items k) = BadCharStrings
