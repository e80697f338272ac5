-- The private text, to the end of its CharStrings (Type 1 Font Format, chapters 2, 5 and 6): the plain
-- keys of Private with their values, the Subrs, the glyphs.
use Rattle.std.specs.Prelude.{ℕ, suc, Bool, true, false, Option, Some, None, Result, Ok, Err, List, ◌==◌, ◌&&◌, ◌||◌, if◌then◌else◌, codes, not, length, is_some, nat_le, negsuc, ◌-◌}
use Rattle.std.specs.List.{list_any}
use Rattle.t1_scan.specs.declared.token.Kind.{Kind}
use Rattle.t1_scan.specs.declared.token.Kind.TheVariants.{Number}
use Rattle.t1_font.specs.declared.key.Key.{Key}
use Rattle.t1_font.specs.declared.key.Key.TheVariants.{LenIv}
use Rattle.t1_font.specs.declared.mode.PrivateMode.{PrivateMode}
use Rattle.t1_font.specs.declared.mode.PrivateMode.TheVariants.{Outside, Subrs, Glyphs}
use Rattle.t1_font.specs.declared.unread.Unread.{Unread}
use Rattle.t1_font.specs.declared.unread.Unread.TheVariants.{BadSubrs, BadCharStrings, BadLenIv, PastLimit, SecondSubrs}
use Rattle.t1_font.specs.Readings.{◌>>=◌}
use Rattle.t1_font.specs.Keys.{Notes, all_notes, private_key, same_name}
use Rattle.t1_font.specs.Notes.{noted}
use Rattle.t1_font.specs.Tokens.{token_at, wanted, token_ahead, whole_up_to, natural, spells, is_word_kind, is_name_kind, is_number_kind, is_array_kind, name_of, inside_of, past_word, charstring_at}
use Rattle.t1_font.specs.Fonts.{Stated, Marks, FontValue, plain, size, subr, glyph}
use Rattle.t1_font.specs.TextTurns.{TextTurn, over, goes, pass, TextRead, stated_in}
use Rattle.t1_font.specs.Bounds.{most_glyphs, most_subrs, greatest_len_iv}
use Rattle.t1_scan.specs.Numbers.{billion}

abbrev pub is_minus_one : Kind → Bool
is_minus_one (Number (negsuc n)) = suc n == billion
is_minus_one _ = false

-- A lenIV is a whole number from -1 to 64.
unfoldable pub is_len_iv : Kind → Bool
is_len_iv kind = is_minus_one kind || is_some (whole_up_to greatest_len_iv kind)

abbrev pub is_len_iv_key : Key → Bool
is_len_iv_key LenIv = true
is_len_iv_key _ = false

-- A plain key takes the next token as its value; the refusal at the end of the text depends on the key. A noted one
-- looks at the token.
unfoldable pub private_value : Notes → Option Key → List ℕ → List ℕ → Result (TextTurn PrivateMode) Unread
private_value notes None text rest = Ok (goes (noted (notes.private text) rest) Outside rest)
private_value notes (Some k) text rest =
    wanted (if is_len_iv_key k then BadLenIv else BadCharStrings) rest >>= λ t.
    if is_len_iv_key k && not (is_len_iv t.kind) then Err BadLenIv
    else Ok (goes (Some (plain k (record { kind = t.kind; text = t.text }))) Outside t.rest)

-- Blanks and comments alone.
unfoldable pub is_blank_text : List ℕ → Bool
is_blank_text s = elim (token_at s) [ Err _ ↦ false | Ok found ↦ elim found [ None ↦ true | Some _ ↦ false ] ]

-- What follows /Subrs: an empty array, or a count and the word array.
unfoldable pub subrs_at : List ℕ → Result (TextTurn PrivateMode) Unread
subrs_at rest =
    wanted BadSubrs rest >>= λ t.
    if is_array_kind t.kind
    then (if is_blank_text (inside_of t.text) then Ok (goes (Some (size 0)) Outside t.rest) else Err BadSubrs)
    else (natural BadSubrs most_subrs t.kind >>= λ n.
    past_word BadSubrs (codes "array") t.rest >>= λ left.
    Ok (goes (Some (size n)) Subrs left))

-- A second /Subrs is refused.
unfoldable pub subrs_turn : FontValue → List ℕ → Result (TextTurn PrivateMode) Unread
subrs_turn v rest = if is_some v.size then Err SecondSubrs else subrs_at rest

-- What follows /CharStrings: a count, dict, dup and begin.
unfoldable pub glyphs_at : List ℕ → Result (TextTurn PrivateMode) Unread
glyphs_at rest =
    wanted BadCharStrings rest >>= λ t.
    natural BadCharStrings most_glyphs t.kind >>= λ n.
    past_word BadCharStrings (codes "dict") t.rest >>= λ a.
    past_word BadCharStrings (codes "dup") a >>= λ b.
    past_word BadCharStrings (codes "begin") b >>= λ c.
    Ok (pass Glyphs c)

-- A token outside the Subrs and the CharStrings, and what follows it.
unfoldable pub private_outside_by : Notes → FontValue → Kind → List ℕ → List ℕ → Result (TextTurn PrivateMode) Unread
private_outside_by notes v kind text rest =
    if not (is_name_kind kind) then Ok (pass Outside rest)
    else if same_name text (codes "/Subrs") then subrs_turn v rest
    else if same_name text (codes "/CharStrings") then glyphs_at rest
    else private_value notes (private_key text) text rest

abbrev pub private_outside : FontValue → Kind → List ℕ → List ℕ → Result (TextTurn PrivateMode) Unread
private_outside v kind text rest = private_outside_by all_notes v kind text rest

-- A Subr: dup, its number, the count of its bytes, a word, one byte and the bytes.
unfoldable pub subr_at : Kind → List ℕ → Result (TextTurn PrivateMode) Unread
subr_at kind rest =
    natural BadSubrs (most_subrs - 1) kind >>= λ n.
    charstring_at BadSubrs rest >>= λ bytes.
    Ok (goes (Some (subr n bytes.0)) Subrs bytes.1)

-- A dup begins a Subr where a number follows; else the Subrs are over.
unfoldable pub dup_turn : List ℕ → Result (TextTurn PrivateMode) Unread
dup_turn rest = elim (token_ahead rest) [
  | None ↦ Ok (pass Outside rest)
  | Some t ↦ if is_number_kind t.kind then subr_at t.kind t.rest else Ok (pass Outside rest)
]

-- A token among the Subrs: a word other than dup is skipped, and no word ends them.
unfoldable pub subrs_token_by : Notes → FontValue → Kind → List ℕ → List ℕ → Result (TextTurn PrivateMode) Unread
subrs_token_by notes v kind text rest =
    if spells (codes "dup") kind text then dup_turn rest
    else if is_word_kind kind then Ok (pass Subrs rest)
    else private_outside_by notes v kind text rest

abbrev pub subrs_token : FontValue → Kind → List ℕ → List ℕ → Result (TextTurn PrivateMode) Unread
subrs_token v kind text rest = subrs_token_by all_notes v kind text rest

-- This name among these.
abbrev pub has_key : {K V : Type 0} → (K → K → Bool) → List (K × V) → K → Bool
has_key eq ps k = list_any (λ p. eq k p.0) ps

-- A glyph: its name, the count of its bytes, a word, one byte and the bytes.
unfoldable pub glyph_turn : FontValue → List ℕ → List ℕ → Result (TextTurn PrivateMode) Unread
glyph_turn v name rest =
    if nat_le most_glyphs (length v.glyphs) && not (has_key same_name v.glyphs name) then Err PastLimit
    else (charstring_at BadCharStrings rest >>= λ bytes.
    Ok (goes (Some (glyph name bytes.0)) Glyphs bytes.1))

-- A token among the glyphs, and what follows it.
unfoldable pub glyphs_token : FontValue → Kind → List ℕ → List ℕ → Result (TextTurn PrivateMode) Unread
glyphs_token v kind text rest =
    if spells (codes "end") kind text then Ok (over rest)
    else if is_word_kind kind then Ok (pass Glyphs rest)
    else if is_name_kind kind then glyph_turn v (name_of text) rest
    else Err BadCharStrings

-- What a token of the private text begins, where these keys are noted.
abbrev pub private_token_by : Notes → FontValue → PrivateMode → Kind → List ℕ → List ℕ → Result (TextTurn PrivateMode) Unread
private_token_by notes v mode kind text rest = elim mode [
  | Outside ↦ private_outside_by notes v kind text rest
  | Subrs ↦ subrs_token_by notes v kind text rest
  | Glyphs ↦ glyphs_token v kind text rest
]

abbrev pub private_token : FontValue → PrivateMode → Kind → List ℕ → List ℕ → Result (TextTurn PrivateMode) Unread
private_token = private_token_by all_notes

-- A turn of it.
unfoldable pub private_turn_by : Notes → FontValue → PrivateMode → List ℕ → Result (TextTurn PrivateMode) Unread
private_turn_by notes v mode s = wanted BadCharStrings s >>= λ t. private_token_by notes v mode t.kind t.text t.rest

abbrev pub private_turn : FontValue → PrivateMode → List ℕ → Result (TextTurn PrivateMode) Unread
private_turn = private_turn_by all_notes

-- What is stated in the private text, after what was stated in the clear text.
unfoldable pub private_of_by : Notes → Marks → List Stated → List ℕ → Result TextRead Unread
private_of_by notes marks before s = stated_in (private_turn_by notes) BadCharStrings marks before Outside s

abbrev pub private_of : Marks → List Stated → List ℕ → Result TextRead Unread
private_of marks before s = private_of_by all_notes marks before s
