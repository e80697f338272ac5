-- The row of a text: all its tokens, one by one, as far as the reader goes (Type 1 Font Format, chapter 2). The bytes of a
-- charstring, and the one before them, are no tokens: they are passed over as the reader passes them.
use Rattle.std.specs.List.{AllByRecursion}
use Rattle.std.specs.Prelude.{◌≡◌, ℕ, zero, suc, ◌+◌, Bool, true, false, ◌&&◌, if◌then◌else◌, nat_le, is_some, Option, Some, None, Result, Ok, Err, List, [], ◌∷◌, ◌++◌, length}
use Rattle.std.specs.Borrow.{Bor}
use Rattle.t1_scan.specs.declared.token.Kind.{Kind}
use Rattle.t1_scan.specs.declared.token.Token.{Token}
use Rattle.t1_scan.specs.Tokens.{Found}
use Rattle.t1_font.specs.declared.mode.ClearMode.TheVariants as clear_modes
use Rattle.t1_font.specs.declared.mode.PrivateMode.TheVariants.{Outside, Glyphs}
use Rattle.t1_font.specs.declared.mode.TextMode.{TextMode}
use Rattle.t1_font.specs.declared.mode.TextMode.TheVariants.{Clear, Private}
use Rattle.t1_font.specs.declared.row.Role.{Role}
use Rattle.t1_font.specs.declared.row.Entry.{Entry}
use Rattle.t1_font.specs.declared.row.Part.{Part}
use Rattle.t1_font.specs.declared.row.Part.TheVariants.{Token as PartToken, Entry as PartEntry}
use Rattle.t1_font.specs.declared.row.Row.{Row}
use Rattle.t1_font.specs.declared.row.TokenInRow.{TokenInRow}
use Rattle.t1_font.specs.declared.row.Role.TheVariants.{Other, List as ListName, Reader}
use Rattle.t1_font.specs.declared.unread.Unread.{Unread}
use Rattle.t1_font.specs.ClearText.{clear_turn}
use Rattle.t1_font.specs.Fonts.{FontValue, Stated, size, subr, glyph, value_of}
use Rattle.t1_font.specs.PrivateText.{private_turn}
use Rattle.t1_font.specs.Readings.{◌>>=◌}
use Rattle.t1_font.specs.TextTurns.{TextTurn, over, goes}
use Rattle.t1_font.specs.Tokens.{is_name_kind, is_number_kind, name_of, token_ahead}

-- A token, and what it is to the reader.
pub record RowToken : Type 0 where
  pub kind : Kind
  pub text : List ℕ
  pub role : Role

-- The name that a token is, without its slash.
abbrev pub name_in : RowToken → Option (List ℕ)
name_in t = if is_name_kind t.kind then Some (name_of t.text) else None

-- A font of which nothing is stated. What was stated refuses turns, and changes none: a text that was read has the same turns without it.
abbrev pub nothing_stated : FontValue
nothing_stated = value_of (record { no_end = false; extra = false }) []

-- A turn of either text.
abbrev pub of_text : {M : Type 0} → (M → TextMode) → TextTurn M → TextTurn TextMode
of_text mode (over rest) = over rest
of_text mode (goes e next left) = goes e (mode next) left

unfoldable pub text_turn : FontValue → TextMode → List ℕ → Result (TextTurn TextMode) Unread
text_turn v (Clear mode) s = clear_turn v mode s >>= λ t. Ok (of_text Clear t)
text_turn v (Private mode) s = private_turn v mode s >>= λ t. Ok (of_text Private t)

abbrev pub is_in_glyphs : TextMode → Bool
is_in_glyphs (Private Glyphs) = true
is_in_glyphs _ = false

-- What the first token of a turn is to the reader: a list's name, where Subrs or CharStrings begin.
abbrev pub role_of : TextMode → Option Stated → TextMode → Role
role_of mode (Some (size n)) next = ListName
role_of mode (Some _) next = Other
role_of mode None next = if is_in_glyphs next then (if is_in_glyphs mode then Other else ListName) else Other

-- The charstring that a turn takes, and where its tokens end: so many bytes are left there.
abbrev pub charstring_in : Option Stated → Option (List ℕ)
charstring_in (Some (subr n bytes)) = Some bytes
charstring_in (Some (glyph name bytes)) = Some bytes
charstring_in _ = None

abbrev pub left_behind : Option (List ℕ) → ℕ → ℕ
left_behind (Some bytes) left = left + length bytes + 1
left_behind None left = left

-- The first token, where more than so many bytes are left.
unfoldable pub token_before : ℕ → List ℕ → Option Found
token_before stop s = if nat_le (length s) stop then None else token_ahead s

abbrev pub row_token : Role → Bool → ℕ → Found → RowToken
row_token role ends stop t =
    record { kind = t.kind; text = t.text; role = if ends && nat_le (length t.rest) stop then Reader else role }

-- The tokens until so many bytes are left. The first has this role; the last is the word before a charstring, where one ends them.
unfoldable pub tokens_within : ℕ → Role → Bool → ℕ → List ℕ → List RowToken
tokens_within zero role ends stop s = []
tokens_within (suc n) role ends stop s = elim (token_before stop s) [
  | None ↦ []
  | Some t ↦ row_token role ends stop t ∷ tokens_within n Other ends stop t.rest
]

abbrev pub tokens_until : Role → Bool → ℕ → List ℕ → List RowToken
tokens_until role ends stop s = tokens_within (suc (length s)) role ends stop s

-- The row of a text from here on, by at most n turns.
unfoldable pub row_within : ℕ → TextMode → List ℕ → List RowToken
row_within zero mode s = []
row_within (suc n) mode s = elim (text_turn nothing_stated mode s) [
  | Err _ ↦ []
  | Ok t ↦ elim t [
    | over rest ↦ tokens_until Other false (length rest) s
    | goes e next left ↦ tokens_until (role_of mode e next) (is_some (charstring_in e)) (left_behind (charstring_in e) (length left)) s ++ row_within n next left
  ]
]

abbrev pub row_of : TextMode → List ℕ → List RowToken
row_of mode s = row_within (suc (length s)) mode s

-- The rows of a font's two texts.
abbrev pub clear_row : FontValue → List RowToken
clear_row font = row_of (Clear clear_modes.Outside) font.clear_text

abbrev pub private_row : FontValue → List RowToken
private_row font = row_of (Private Outside) font.private_text

-- What a token of the program says.
abbrev pub token_in_row : TokenInRow → RowToken
token_in_row t = record { kind = t.token.kind; text = t.token.text.now; role = t.role }

-- What is left of a row: the tokens of this turn, of which the first may have been read, and the turns after it.
abbrev pub found_first : Token × Bor (List ℕ) → Found
found_first p = record { kind = p.0.kind; text = p.0.text.now; rest = p.1.now }

abbrev pub tokens_left : Role → Bool → ℕ → List ℕ → Option (Token × Bor (List ℕ)) → List RowToken
tokens_left role ends stop s None = tokens_until role ends stop s
tokens_left role ends stop s (Some p) = row_token role ends stop (found_first p) ∷ tokens_until Other ends stop p.1.now

abbrev pub turns_left : Row → List RowToken
turns_left r = if r.is_over then [] else row_of r.mode r.left.now

abbrev pub row_left : Row → List RowToken
row_left r = tokens_left r.role r.ends r.stop r.text.now r.first ++ turns_left r

-- The next token, and what is left behind it.
abbrev pub first_in : List RowToken → Option RowToken
first_in [] = None
first_in (t ∷ ts) = Some t

abbrev pub after_first : List RowToken → List RowToken
after_first [] = []
after_first (t ∷ ts) = ts

-- A token of an entry.
abbrev pub entry_token : Role → Token → RowToken
entry_token role t = record { kind = t.kind; text = t.text.now; role = role }

-- A number, which no word is.
abbrev pub IsNumber : RowToken → Type 0
IsNumber t = (is_number_kind t.kind ≡ true) × (t.role ≡ Other)

-- The tokens of an entry: the one that begins it, numbers, and the word before the bytes.
pub record HasEntry (e : Entry) (row after : List RowToken) : Type 0 where
  pub numbers : List RowToken
  pub all : AllByRecursion IsNumber numbers
  pub count : length numbers ≡ e.numbers
  pub whole : row ≡ entry_token Other e.first ∷ (numbers ++ (entry_token Reader e.word ∷ after))

-- A row begins with a part, and this is left after it.
abbrev pub BeginsWith : Part → List RowToken → List RowToken → Type 0
BeginsWith (PartToken t) row after = row ≡ token_in_row t ∷ after
BeginsWith (PartEntry e) row after = HasEntry e row after

abbrev pub IsPart : Option Part → List RowToken → List RowToken → Type 0
IsPart None row after = row ≡ []
IsPart (Some part) row after = BeginsWith part row after
