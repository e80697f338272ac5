-- The clear text, to the word eexec (Type 1 Font Format, chapter 2): the plain keys with their values,
-- and the Encoding.
use Rattle.std.specs.Prelude.{ℕ, Bool, false, Option, Some, None, Result, Ok, Err, List, [], ◌*◌, ◌-◌, ◌==◌, if◌then◌else◌, codes, not, pos}
use Rattle.t1_scan.specs.declared.token.Kind.{Kind}
use Rattle.t1_scan.specs.declared.token.Kind.TheVariants.{Number}
use Rattle.t1_seal.specs.Segments.{begins_pfa}
use Rattle.t1_font.specs.declared.encoding.Encoding.{Encoding}
use Rattle.t1_font.specs.declared.encoding.Encoding.TheVariants.{Standard, Custom, Other}
use Rattle.t1_font.specs.declared.mode.ClearMode.{ClearMode}
use Rattle.t1_font.specs.declared.mode.ClearMode.TheVariants.{Outside, Codes}
use Rattle.t1_font.specs.declared.unread.Unread.{Unread}
use Rattle.t1_font.specs.declared.unread.Unread.TheVariants.{NoEexec, MultipleMaster}
use Rattle.t1_font.specs.Readings.{◌>>=◌}
use Rattle.t1_font.specs.declared.key.Key.{Key}
use Rattle.t1_font.specs.Keys.{Notes, all_notes, clear_key, same_name}
use Rattle.t1_font.specs.Notes.{noted}
use Rattle.t1_font.specs.Tokens.{wanted, token_ahead, whole_up_to, spells, is_name_kind, is_number_kind, name_of, ◌>?◌}
use Rattle.t1_font.specs.Fonts.{Stated, Marks, FontValue, plain, encoding, code, bad_code}
use Rattle.t1_font.specs.TextTurns.{TextTurn, over, goes, pass, TextRead, stated_in}
use Rattle.t1_font.specs.Bounds.{code_count}
use Rattle.t1_scan.specs.Numbers.{billion}

-- A plain key takes the next token as its value, whatever it is; a noted one looks at it.
unfoldable pub clear_value : Notes → Option Key → List ℕ → List ℕ → Result (TextTurn ClearMode) Unread
clear_value notes None text rest = Ok (goes (noted (notes.clear text) rest) Outside rest)
clear_value notes (Some k) text rest =
    wanted NoEexec rest >>= λ t.
    Ok (goes (Some (plain k (record { kind = t.kind; text = t.text }))) Outside t.rest)

-- The number 256.
abbrev pub is_code_count : Kind → Bool
is_code_count (Number (pos n)) = n == code_count * billion
is_code_count _ = false

-- An Encoding of a form begins.
abbrev pub begins : Encoding → ClearMode → List ℕ → TextTurn ClearMode
begins form mode rest = goes (Some (encoding form)) mode rest

-- What follows the word array.
unfoldable pub array_at : List ℕ → Option (List ℕ)
array_at s = token_ahead s >? λ t. if spells (codes "array") t.kind t.text then Some t.rest else None

-- What follows /Encoding: StandardEncoding, or 256 array; else the form is another, and reading goes
-- on right here.
unfoldable pub encoding_at : List ℕ → Option (TextTurn ClearMode)
encoding_at s = token_ahead s >? λ t.
    if spells (codes "StandardEncoding") t.kind t.text then Some (begins Standard Outside t.rest)
    else if is_code_count t.kind then (array_at t.rest >? λ rest. Some (begins Custom Codes rest))
    else None

unfoldable pub encoding_turn : List ℕ → TextTurn ClearMode
encoding_turn s = elim (encoding_at s) [ Some t ↦ t | None ↦ begins Other Outside s ]

-- A token outside a custom encoding, and what follows it.
unfoldable pub clear_outside_by : Notes → Kind → List ℕ → List ℕ → Result (TextTurn ClearMode) Unread
clear_outside_by notes kind text rest =
    if spells (codes "eexec") kind text then Ok (over rest)
    else if not (is_name_kind kind) then Ok (pass Outside rest)
    else if same_name text (codes "/WeightVector") then Err MultipleMaster
    else if same_name text (codes "/Encoding") then Ok (encoding_turn rest)
    else clear_value notes (clear_key text) text rest

abbrev pub clear_outside : Kind → List ℕ → List ℕ → Result (TextTurn ClearMode) Unread
clear_outside kind text rest = clear_outside_by all_notes kind text rest

-- A code with its name; one that isn't whole from 0 to 255 sets nothing.
unfoldable pub code_statement : Kind → List ℕ → Stated
code_statement kind text = elim (whole_up_to (code_count - 1) kind) [ Some n ↦ code n (name_of text) | None ↦ bad_code ]

-- What follows dup: a number, a name and the word put.
unfoldable pub code_at : List ℕ → Option (TextTurn ClearMode)
code_at s =
    token_ahead s >? λ number.
    if not (is_number_kind number.kind) then None else
    token_ahead number.rest >? λ name.
    if not (is_name_kind name.kind) then None else
    token_ahead name.rest >? λ last.
    if spells (codes "put") last.kind last.text
    then Some (goes (Some (code_statement number.kind name.text)) Codes last.rest) else None

-- A dup that begins no group is skipped alone.
unfoldable pub code_turn : List ℕ → TextTurn ClearMode
code_turn s = elim (code_at s) [ Some t ↦ t | None ↦ pass Codes s ]

-- A token in a custom encoding, and what follows it.
unfoldable pub code_token : Kind → List ℕ → List ℕ → TextTurn ClearMode
code_token kind text rest =
    if spells (codes "eexec") kind text then over rest
    else if spells (codes "def") kind text then pass Outside rest
    else if spells (codes "dup") kind text then code_turn rest
    else pass Codes rest

-- A turn of the clear text, where these keys are noted.
unfoldable pub clear_turn_by : Notes → FontValue → ClearMode → List ℕ → Result (TextTurn ClearMode) Unread
clear_turn_by notes v mode s = wanted NoEexec s >>= λ t. elim mode [
  | Outside ↦ clear_outside_by notes t.kind t.text t.rest
  | Codes ↦ Ok (code_token t.kind t.text t.rest)
]

abbrev pub clear_turn : FontValue → ClearMode → List ℕ → Result (TextTurn ClearMode) Unread
clear_turn = clear_turn_by all_notes

-- The bytes begin with %!, as those of a PFA file do.
abbrev pub begins_as_font : List ℕ → Bool
begins_as_font = begins_pfa

-- What is stated in the clear text, and what follows the word eexec.
unfoldable pub clear_of_by : Notes → Marks → List ℕ → Result TextRead Unread
clear_of_by notes marks s =
    if begins_as_font s then stated_in (clear_turn_by notes) NoEexec marks [] Outside s else Err NoEexec

abbrev pub clear_of : Marks → List ℕ → Result TextRead Unread
clear_of marks s = clear_of_by all_notes marks s
