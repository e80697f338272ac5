-- A private text in the usual form (Type 1 Font Format, chapters 2, 5 and 6), item by item: how each is
-- written, and what it states.
use Rattle.std.specs.Prelude.{◌≡◌, ◌≤◌, ◌*◌, ◌⊎◌, ℕ, Bool, pos, negsuc, true, false, None, Some, List, [], ◌∷◌, ◌++◌, codes, filter, flat_map, length, ◌-◌}
use Rattle.std.specs.List.{All}
use Rattle.t1_scan.specs.declared.token.Kind.{Kind}
use Rattle.t1_scan.specs.declared.token.Kind.TheVariants.{Number, Word}
use Rattle.t1_scan.specs.Spelling.{Plain, name, word, bracketed, Body, body_text, meant}
use Rattle.t1_scan.specs.Texts.{lexeme_of, are_blanks}
use Rattle.t1_font.specs.declared.key.Key.{Key}
use Rattle.t1_font.specs.declared.key.Key.TheVariants.{LenIv}
use Rattle.t1_font.specs.Keys.{private_key, private_note, same_name}
use Rattle.t1_font.specs.Tokens.{is_name_kind}
use Rattle.t1_font.specs.Fonts.{Stated, plain, size, subr, glyph, size_of, glyph_of, firsts}
use Rattle.t1_font.specs.Laws.Written.{Piece, token, IsWritten, IsWhole, is_word_of, Charstring, charstring_pieces, IsCharstring}
use Rattle.t1_font.specs.Bounds.{most_glyphs, most_subrs, greatest_len_iv}
use Rattle.t1_scan.specs.Numbers.{billion}

-- What is before and after the Subrs: a plain key k, by its name without the slash, with its value of
-- one token; a noted key likewise; another name; another token.
pub data PrivateItem : Type 0 where
  key : Key → List ℕ → Plain → PrivateItem
  noted_key : Key → List ℕ → Plain → PrivateItem
  other_name : List ℕ → PrivateItem
  other_token : Plain → PrivateItem

abbrev pub private_pieces : PrivateItem → List Piece
private_pieces (key k run value) = token (name run) ∷ token value ∷ []
private_pieces (noted_key k run value) = token (name run) ∷ token value ∷ []
private_pieces (other_name run) = token (name run) ∷ []
private_pieces (other_token t) = token t ∷ []

abbrev pub private_states : PrivateItem → List Stated
private_states (key k run value) = plain k (lexeme_of value) ∷ []
private_states (noted_key k run value) = plain k (lexeme_of value) ∷ []
private_states (other_name run) = []
private_states (other_token t) = []

-- A lenIV is a whole number from -1 to 64.
abbrev pub IsLenIv : Kind → Type 0
IsLenIv kind = (kind ≡ Number (negsuc 999999999)) ⊎ ((n : ℕ) × (n ≤ greatest_len_iv) × (kind ≡ Number (pos (n * billion))))

-- Any token is a value, but for lenIV's.
abbrev pub FitsKey : Key → Kind → Type 0
FitsKey LenIv kind = IsLenIv kind
FitsKey _ kind = Unit {0}

-- A name, without its slash, that states nothing: no plain key of Private and no noted one, not Subrs, not CharStrings.
pub record IsOtherPrivateName (run : List ℕ) : Type 0 where
  pub no_key : private_key (47 ∷ run) ≡ None
  pub no_note : private_note (47 ∷ run) ≡ None
  pub not_subrs : same_name (47 ∷ run) (codes "/Subrs") ≡ false
  pub not_glyphs : same_name (47 ∷ run) (codes "/CharStrings") ≡ false

-- The name of a noted key has no other meaning.
pub record IsPrivateNote (k : Key) (run : List ℕ) : Type 0 where
  pub note : private_note (47 ∷ run) ≡ Some k
  pub no_key : private_key (47 ∷ run) ≡ None
  pub not_subrs : same_name (47 ∷ run) (codes "/Subrs") ≡ false
  pub not_glyphs : same_name (47 ∷ run) (codes "/CharStrings") ≡ false

-- The name of a key is the one that the key has; any token but a name states nothing. The value of a noted key is read
-- once more, as another token.
abbrev pub IsPrivateItem : PrivateItem → Type 0
IsPrivateItem (key k run value) = (private_key (47 ∷ run) ≡ Some k) × FitsKey k (meant value)
IsPrivateItem (noted_key k run value) = IsPrivateNote k run × (is_name_kind (meant value) ≡ false)
IsPrivateItem (other_name run) = IsOtherPrivateName run
IsPrivateItem (other_token t) = is_name_kind (meant t) ≡ false

-- After the Subrs the word dup would begin one more.
abbrev pub IsNoDup : PrivateItem → Type 0
IsNoDup (key k run value) = Unit {0}
IsNoDup (noted_key k run value) = Unit {0}
IsNoDup (other_name run) = Unit {0}
IsNoDup (other_token t) = is_word_of (codes "dup") t ≡ false

-- What is among the Subrs: dup, the Subr's number n and its charstring; a word.
pub data SubrItem : Type 0 where
  subr_entry : ℕ → Plain → Charstring → SubrItem
  between_subrs : Plain → SubrItem

abbrev pub subr_pieces : SubrItem → List Piece
subr_pieces (subr_entry n number c) = token (word (codes "dup")) ∷ token number ∷ charstring_pieces c
subr_pieces (between_subrs t) = token t ∷ []

abbrev pub subr_states : SubrItem → List Stated
subr_states (subr_entry n number c) = subr n c.bytes ∷ []
subr_states (between_subrs t) = []

-- A Subr's number is at most 65,534. Any word but dup states nothing, so any serve as NP and ND.
abbrev pub IsSubrItem : SubrItem → Type 0
IsSubrItem (subr_entry n number c) = IsWhole number n × (n ≤ most_subrs - 1) × IsCharstring c
IsSubrItem (between_subrs t) = (meant t ≡ Word) × (is_word_of (codes "dup") t ≡ false)

-- The Subrs: none; /Subrs and an array with nothing but blanks and comments in it; /Subrs, the count n,
-- the word array, and what is among them.
pub data SubrsPart : Type 0 where
  no_subrs : SubrsPart
  empty_subrs : Body → SubrsPart
  some_subrs : ℕ → Plain → List SubrItem → SubrsPart

abbrev pub subrs_pieces : SubrsPart → List Piece
subrs_pieces no_subrs = []
subrs_pieces (empty_subrs body) = token (name (codes "Subrs")) ∷ token (bracketed body) ∷ []
subrs_pieces (some_subrs n count items) =
    token (name (codes "Subrs")) ∷ token count ∷ token (word (codes "array")) ∷ flat_map subr_pieces items

abbrev pub subrs_states : SubrsPart → List Stated
subrs_states no_subrs = []
subrs_states (empty_subrs body) = size 0 ∷ []
subrs_states (some_subrs n count items) = size n ∷ flat_map subr_states items

-- The count of the Subrs is at most 65,535.
abbrev pub IsSubrsPart : SubrsPart → Type 0
IsSubrsPart no_subrs = Unit {0}
IsSubrsPart (empty_subrs body) = are_blanks false (body_text body) ≡ true
IsSubrsPart (some_subrs n count items) = IsWhole count n × (n ≤ most_subrs) × All IsSubrItem items

-- What is among the glyphs: a name and a charstring; a word.
pub data GlyphItem : Type 0 where
  glyph_entry : List ℕ → Charstring → GlyphItem
  between_glyphs : Plain → GlyphItem

abbrev pub glyph_pieces : GlyphItem → List Piece
glyph_pieces (glyph_entry run c) = token (name run) ∷ charstring_pieces c
glyph_pieces (between_glyphs t) = token t ∷ []

abbrev pub glyph_states : GlyphItem → List Stated
glyph_states (glyph_entry run c) = glyph run c.bytes ∷ []
glyph_states (between_glyphs t) = []

abbrev pub glyph_names : GlyphItem → List (List ℕ)
glyph_names (glyph_entry run c) = run ∷ []
glyph_names (between_glyphs t) = []

-- Any word but end states nothing, so any serves as ND.
abbrev pub IsGlyphItem : GlyphItem → Type 0
IsGlyphItem (glyph_entry run c) = IsCharstring c
IsGlyphItem (between_glyphs t) = (meant t ≡ Word) × (is_word_of (codes "end") t ≡ false)

-- A private text: what is before the Subrs, the Subrs, what is after them, the count of the
-- CharStrings, and what is among the glyphs.
pub record PrivateParts : Type 0 where
  pub front : List PrivateItem
  pub subrs : SubrsPart
  pub back : List PrivateItem
  pub count : Plain
  pub glyphs : List GlyphItem

-- The CharStrings: their name, a count, dict dup begin, the glyphs, and end.
abbrev pub glyphs_pieces : Plain → List GlyphItem → List Piece
glyphs_pieces count items =
    token (name (codes "CharStrings")) ∷ token count ∷ token (word (codes "dict"))
    ∷ token (word (codes "dup")) ∷ token (word (codes "begin"))
    ∷ (flat_map glyph_pieces items ++ token (word (codes "end")) ∷ [])

abbrev pub all_private_pieces : PrivateParts → List Piece
all_private_pieces p =
    flat_map private_pieces p.front ++ (subrs_pieces p.subrs
    ++ (flat_map private_pieces p.back ++ glyphs_pieces p.count p.glyphs))

-- What all its items state.
abbrev pub all_private_states : PrivateParts → List Stated
all_private_states p =
    flat_map private_states p.front ++ (subrs_states p.subrs
    ++ (flat_map private_states p.back ++ flat_map glyph_states p.glyphs))

-- A whole number of glyphs that a font can have.
pub record IsCount (t : Plain) : Type 0 where
  pub value : ℕ
  pub whole : IsWhole t value
  pub small : value ≤ most_glyphs

-- The parts' items are as they should be. There are at most 65,535 glyphs; one that is given again
-- counts once.
pub record IsUsualParts (p : PrivateParts) : Type 0 where
  pub front : All IsPrivateItem p.front
  pub subrs : IsSubrsPart p.subrs
  pub back : All IsPrivateItem p.back
  pub no_dup : All IsNoDup p.back
  pub count : IsCount p.count
  pub glyphs : All IsGlyphItem p.glyphs
  pub few : length (firsts same_name (flat_map glyph_names p.glyphs)) ≤ most_glyphs

-- A text is written with these parts, and the rest follows its word end.
pub record IsUsualPrivate (p : PrivateParts) (s rest : List ℕ) : Type 0 where
  pub parts : IsUsualParts p
  pub written : IsWritten s (all_private_pieces p) rest

-- What was stated before has no Subrs and no glyph, as it is after a clear text.
pub record StatesNoCharstring (before : List Stated) : Type 0 where
  pub no_size : flat_map size_of before ≡ []
  pub no_glyph : flat_map glyph_of before ≡ []

-- The entries of a private text: its parts without the items that state nothing.
abbrev pub is_key : PrivateItem → Bool
is_key (key k run value) = true
is_key (noted_key k run value) = true
is_key (other_name run) = false
is_key (other_token t) = false

abbrev pub is_subr : SubrItem → Bool
is_subr (subr_entry n number c) = true
is_subr (between_subrs t) = false

abbrev pub is_glyph : GlyphItem → Bool
is_glyph (glyph_entry run c) = true
is_glyph (between_glyphs t) = false

abbrev pub subrs_entries : SubrsPart → SubrsPart
subrs_entries no_subrs = no_subrs
subrs_entries (empty_subrs body) = empty_subrs body
subrs_entries (some_subrs n count items) = some_subrs n count (filter is_subr items)

abbrev pub private_entries : PrivateParts → PrivateParts
private_entries p = record {
  front = filter is_key p.front;
  subrs = subrs_entries p.subrs;
  back = filter is_key p.back;
  count = p.count;
  glyphs = filter is_glyph p.glyphs;
}
