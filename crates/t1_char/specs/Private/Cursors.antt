-- What a cursor has left: the bytes that are left of a slice, deciphered from the cipher's state on.
use Rattle.std.specs.Prelude.{◌≡◌, ℕ, false, ◌/◌, if◌then◌else◌, Option, Some, None, List, [], ◌∷◌, bit_xor}
use Rattle.t1_seal.specs.declared.cipher.Cipher.{Cipher}
use Rattle.t1_seal.specs.Laws.Cipher.{next_state}
use Rattle.t1_char.specs.declared.cursor.Cursor.{Cursor}
use Rattle.t1_char.specs.declared.cursor.Ahead.{Ahead}
use Rattle.t1_char.specs.declared.token.CharToken.{CharToken}
use Rattle.t1_char.specs.declared.token.CharToken.TheVariants.{Short}
use Rattle.t1_char.specs.Tokens.{tokens_of}
use Rattle.t1_char.specs.Steps.{is_end}

-- The cipher's state, or none where charstrings aren't encrypted.
abbrev pub key_of : Option Cipher → Option ℕ
key_of None = None
key_of (Some cipher) = Some cipher.r

-- The plain byte of a byte, and the key after it.
abbrev pub plain_by : Option ℕ → ℕ → ℕ
plain_by None c = c
plain_by (Some r) c = bit_xor c (r / 256)

abbrev pub key_after : Option ℕ → ℕ → Option ℕ
key_after None c = None
key_after (Some r) c = Some (next_state r c)

unfoldable pub deciphered : Option ℕ → List ℕ → List ℕ
deciphered key [] = []
deciphered key (c ∷ rest) = plain_by key c ∷ deciphered (key_after key c) rest

-- The plain bytes and the tokens that a cursor has left.
abbrev pub bytes_left : Cursor → List ℕ
bytes_left cursor = deciphered (key_of cursor.cipher) cursor.left.now

abbrev pub tokens_left : Cursor → List CharToken
tokens_left cursor =
    if cursor.short then Short ∷ tokens_of (bytes_left cursor) else tokens_of (bytes_left cursor)

-- What follows a token: nothing after End.
abbrev pub behind_token : CharToken → List CharToken → List CharToken
behind_token token rest = if is_end token then [] else rest

-- What is left of a charstring that isn't short, as a cursor.
abbrev pub cursor_of : Ahead → Cursor
cursor_of ahead = record { left = ahead.left; cipher = ahead.cipher; short = false }

-- A cursor before a byte and one after it, neither of them short.
pub record AtFirst (first : ℕ) (before behind : Cursor) : Type 0 where
  pub bytes : bytes_left before ≡ first ∷ bytes_left behind
  pub before_short : before.short ≡ false
  pub behind_short : behind.short ≡ false
