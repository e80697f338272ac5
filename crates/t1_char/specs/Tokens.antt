-- The tokens of a charstring. Type 1 Font Format 1.1, chapter 6 (Charstring Number Encoding, Charstring Command
-- Encoding). Before them come as many random bytes as lenIV says, and all is enciphered, unless lenIV is -1: chapter 7
-- (Charstring Encryption).
use Rattle.std.specs.Prelude.{ℕ, zero, suc, ℤ, pos, negsuc, neg_ℤ, ◌+◌, ◌-◌, ◌*◌, ◌^◌, ◌-ℤ◌, ◌==◌, nat_lt, if◌then◌else◌, Option, Some, None, List, [], ◌∷◌, length, drop}
use Rattle.t1_seal.specs.Cipher.{charstring_start, decrypted}
use Rattle.t1_char.specs.declared.command.Command.{Command as Commands}
use Rattle.t1_char.specs.declared.token.CharToken.{CharToken}
use Rattle.t1_char.specs.declared.token.CharToken.TheVariants.{Number, Command, Unknown, Unknown12, Cut, Short, End}
use Rattle.t1_char.specs.Commands.{command_of, escaped_of}

-- The token of a byte below 32 other than 12, and that of 12 and a byte.
abbrev pub plain_code : ℕ → Option Commands → CharToken
plain_code v None = Unknown v
plain_code v (Some command) = Command command

abbrev pub escaped_code : ℕ → Option Commands → CharToken
escaped_code w None = Unknown12 w
escaped_code w (Some command) = Command command

-- How a token goes on after its first byte: it is whole; one byte more makes it; it is a number of four bytes more.
pub data Form : Type 0 where
  whole : CharToken → Form
  two : (ℕ → CharToken) → Form
  five : Form

abbrev pub form_of : ℕ → Form
form_of v =
    if nat_lt v 32
    then (if v == 12 then two (λ w. escaped_code w (escaped_of w)) else whole (plain_code v (command_of v)))
    else (if nat_lt v 247 then whole (Number (pos v -ℤ pos 139))
    else (if nat_lt v 251 then two (λ w. Number (pos ((v - 247) * 256 + w + 108)))
    else (if nat_lt v 255 then two (λ w. Number (neg_ℤ (pos ((v - 251) * 256 + w + 108))))
    else five)))

-- A number of 32 bits in two's complement.
abbrev pub signed_of : ℕ → ℤ
signed_of n = if nat_lt n (2 ^ 31) then pos n else pos n -ℤ pos (2 ^ 32)

-- What the bytes after the first make of a token; it is cut where they break off.
abbrev pub with_second : (ℕ → CharToken) → List ℕ → CharToken
with_second token [] = Cut
with_second token (w ∷ _) = token w

abbrev pub long_number : List ℕ → CharToken
long_number (a ∷ b ∷ c ∷ d ∷ _) = Number (signed_of (((a * 256 + b) * 256 + c) * 256 + d))
long_number _ = Cut

abbrev pub completed : Form → List ℕ → CharToken
completed (whole token) rest = token
completed (two token) rest = with_second token rest
completed five rest = long_number rest

abbrev pub more_in : Form → ℕ
more_in (whole token) = 0
more_in (two token) = 1
more_in five = 4

-- The token of a first byte and what follows it, and how many of the bytes that follow belong to it.
abbrev pub token_at : ℕ → List ℕ → CharToken
token_at v rest = completed (form_of v) rest

abbrev pub more_of : ℕ → ℕ
more_of v = more_in (form_of v)

-- The tokens after so many bytes; End follows the last.
unfoldable pub tokens_behind : ℕ → List ℕ → List CharToken
tokens_behind n [] = End ∷ []
tokens_behind (suc n) (b ∷ rest) = tokens_behind n rest
tokens_behind zero (v ∷ rest) = token_at v rest ∷ tokens_behind (more_of v) rest

abbrev pub tokens_of : List ℕ → List CharToken
tokens_of bytes = tokens_behind 0 bytes

-- How many random bytes lenIV says; none where charstrings aren't encrypted.
abbrev pub random_of : ℤ → Option ℕ
random_of (pos n) = Some n
random_of (negsuc _) = None

abbrev pub tokens_by : Option ℕ → List ℕ → List CharToken
tokens_by None code = tokens_of code
tokens_by (Some random) code =
    if nat_lt (length code) random then Short ∷ End ∷ []
    else tokens_of (drop random (decrypted charstring_start code))

-- The tokens of a charstring as it is in the font, by lenIV.
unfoldable pub charstring_tokens : ℤ → List ℕ → List CharToken
charstring_tokens len_iv code = tokens_by (random_of len_iv) code
