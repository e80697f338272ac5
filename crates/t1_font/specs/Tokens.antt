-- Tokens as the texts of a font are read by them.
use Rattle.std.specs.Prelude.{ℕ, ℤ, pos, Bool, true, false, Option, Some, None, Result, Ok, Err, List, ◌+◌, ◌/◌, ◌%◌, ◌==◌, ◌&&◌, ◌-◌, if◌then◌else◌, nat_lt, length, take, drop}
use Rattle.t1_scan.specs.declared.error.ScanError.{ScanError}
use Rattle.t1_scan.specs.declared.token.Kind.{Kind}
use Rattle.t1_scan.specs.declared.token.Kind.TheVariants.{Number, Name, Word, Array}
use Rattle.t1_scan.specs.Tokens.{Found, token_of}
use Rattle.t1_font.specs.declared.unread.Unread.{Unread}
use Rattle.t1_font.specs.declared.unread.Unread.TheVariants.{Unclosed, PastLimit}
use Rattle.t1_font.specs.Readings.{◌>>=◌}
use Rattle.t1_font.specs.Keys.{same_name}
use Rattle.t1_font.specs.Bounds.{longest_charstring}
use Rattle.t1_scan.specs.Numbers.{billion}

-- The first token of a text, and what follows it.
unfoldable pub token_at : List ℕ → Result (Option Found) ScanError
token_at s = token_of s

-- A token that is needed. One that isn't closed is refused as such, the end of the text as `ended` says.
unfoldable pub wanted : Unread → List ℕ → Result Found Unread
wanted ended s = elim (token_at s) [
  | Err _ ↦ Err Unclosed
  | Ok found ↦ elim found [ None ↦ Err ended | Some t ↦ Ok t ]
]

-- A token that is looked at, if there is one.
unfoldable pub token_ahead : List ℕ → Option Found
token_ahead s = elim (token_at s) [ Err _ ↦ None | Ok found ↦ found ]

abbrev pub is_word_kind : Kind → Bool
is_word_kind Word = true
is_word_kind _ = false

abbrev pub is_name_kind : Kind → Bool
is_name_kind Name = true
is_name_kind _ = false

abbrev pub is_number_kind : Kind → Bool
is_number_kind (Number _) = true
is_number_kind _ = false

abbrev pub is_array_kind : Kind → Bool
is_array_kind Array = true
is_array_kind _ = false

-- The whole number of 0 or more that so many billionths are.
abbrev pub whole_of : ℤ → Option ℕ
whole_of (pos n) = if n % billion == 0 then Some (n / billion) else None
whole_of _ = None

-- The whole number of 0 or more that a token is.
unfoldable pub whole : Kind → Option ℕ
whole (Number z) = whole_of z
whole _ = None

-- What is looked at next, if there is what was looked at first.
infixl 10 ◌>?◌
abbrev pub ◌>?◌ : {X Y : Type 0} → Option X → (X → Option Y) → Option Y
(Some x) >? f = f x
None >? f = None

-- The whole number from 0 to a limit that a token is.
unfoldable pub whole_up_to : ℕ → Kind → Option ℕ
whole_up_to limit kind = whole kind >? λ n. if nat_lt limit n then None else Some n

-- A whole number of 0 or more that is needed, at most this limit.
unfoldable pub natural : Unread → ℕ → Kind → Result ℕ Unread
natural bad limit kind = elim (whole kind) [
  | None ↦ Err bad
  | Some n ↦ if nat_lt limit n then Err PastLimit else Ok n
]

-- One byte of any value, and so many that follow it, and the rest.
unfoldable pub raw_of : ℕ → List ℕ → Option (List ℕ × List ℕ)
raw_of len s = if nat_lt (length s) (1 + len) then None else Some (take len (drop 1 s), drop (1 + len) s)

abbrev pub some_raw : Unread → Option (List ℕ × List ℕ) → Result (List ℕ × List ℕ) Unread
some_raw bad None = Err bad
some_raw bad (Some p) = Ok p

-- A token of this kind and text is this word.
abbrev pub spells : List ℕ → Kind → List ℕ → Bool
spells word kind text = is_word_kind kind && same_name text word

-- What follows a word that has to be here.
unfoldable pub past_word : Unread → List ℕ → List ℕ → Result (List ℕ) Unread
past_word bad word s = wanted bad s >>= λ t. if spells word t.kind t.text then Ok t.rest else Err bad

-- The bytes of a charstring: their count, any word, one byte, and so many; and the rest.
unfoldable pub charstring_at : Unread → List ℕ → Result (List ℕ × List ℕ) Unread
charstring_at bad s =
    wanted bad s >>= λ count. natural bad longest_charstring count.kind >>= λ len.
    wanted bad count.rest >>= λ word.
    if is_word_kind word.kind then some_raw bad (raw_of len word.rest) else Err bad

-- What is between the brackets of an array or a procedure.
abbrev pub inside_of : List ℕ → List ℕ
inside_of text = take (length text - 2) (drop 1 text)

-- A name without its slash.
abbrev pub name_of : List ℕ → List ℕ
name_of text = drop 1 text
