-- How charstrings are written, by Type 1 Font Format 1.1, chapter 6 (Charstring Number Encoding,
-- Charstring Command Encoding) and chapter 7 (Charstring Encryption); and that they are read as written.
use Rattle.std.specs.Prelude.{◌≡◌, ◌≢◌, ℕ, ℤ, pos, negsuc, neg_ℤ, ◌+◌, ◌/◌, ◌%◌, ◌^◌, ◌<◌, ◌≤◌, ◌-ℤ◌, ◌≤ℤ◌, ◌++◌, None, List, [], ◌∷◌, length}
use Rattle.std.specs.List.{All}
use Rattle.t1_seal.specs.Cipher.{charstring_start}
use Rattle.t1_seal.specs.Laws.Cipher.{encrypted}
use Rattle.t1_char.specs.declared.command.Command.{Command as Commands}
use Rattle.t1_char.specs.declared.token.CharToken.{CharToken}
use Rattle.t1_char.specs.declared.token.CharToken.TheVariants.{Number, Command, Unknown, Unknown12, Cut, End}
use Rattle.t1_char.specs.Commands.{row_of, command_of, escaped_of}
use Rattle.t1_char.specs.Tokens.{signed_of, charstring_tokens}

-- The bytes write the token. It is a number: from -107 to 107 in one byte, from 108 to 1131 or from -1131 to
-- -108 in two, any of 32 bits in five. Or it is a command; or a byte, or 12 and a byte, that is no command.
pub data IsWritten : CharToken → List ℕ → Type 0 where
  small : (n : ℕ) → n ≤ 214 → IsWritten (Number (pos n -ℤ pos 107)) ((n + 32) ∷ [])
  positive : (n : ℕ) → n < 1024 → IsWritten (Number (pos (n + 108))) ((n / 256 + 247) ∷ (n % 256) ∷ [])
  negative : (n : ℕ) → n < 1024 →
      IsWritten (Number (neg_ℤ (pos (n + 108)))) ((n / 256 + 251) ∷ (n % 256) ∷ [])
  long : (n : ℕ) → n < 2 ^ 32 →
      IsWritten (Number (signed_of n)) (255 ∷ (n / 2 ^ 24) ∷ (n / 2 ^ 16 % 256) ∷ (n / 2 ^ 8 % 256) ∷ (n % 256) ∷ [])
  command : (c : Commands) → IsWritten (Command c) (row_of c).bytes
  unknown : (v : ℕ) → v < 32 → v ≢ 12 → command_of v ≡ None → IsWritten (Unknown v) (v ∷ [])
  unknown_escape : (w : ℕ) → escaped_of w ≡ None → IsWritten (Unknown12 w) (12 ∷ w ∷ [])

-- The bytes write the tokens, one after another.
pub data AreWritten : List CharToken → List ℕ → Type 0 where
  nothing_left : AreWritten [] []
  then : (t : CharToken) (front : List ℕ) (ts : List CharToken) (rest : List ℕ) →
      IsWritten t front → AreWritten ts rest → AreWritten (t ∷ ts) (front ++ rest)

-- Each number of 32 bits can be written.
abbrev pub EachNumberIsWritten : Type 0
EachNumberIsWritten = (z : ℤ) → negsuc 2147483647 ≤ℤ z → z ≤ℤ pos 2147483647 →
    (bytes : List ℕ) × IsWritten (Number z) bytes

-- A charstring that isn't encrypted is read as it is written. So is one that was enciphered after so
-- many random bytes as lenIV says.
abbrev pub WrittenIsRead : Type 0
WrittenIsRead = (n : ℕ) (ts : List CharToken) (bytes : List ℕ) → AreWritten ts bytes →
    charstring_tokens (negsuc n) bytes ≡ ts ++ End ∷ []

abbrev pub EncipheredIsRead : Type 0
EncipheredIsRead = (random : List ℕ) (ts : List CharToken) (bytes : List ℕ) → AreWritten ts bytes →
    charstring_tokens (pos (length random)) (encrypted charstring_start (random ++ bytes)) ≡ ts ++ End ∷ []

-- Bytes.
abbrev pub AreBytes : List ℕ → Type 0
AreBytes bytes = All (λ b. b < 256) bytes

-- No token is cut.
abbrev pub AreWhole : List CharToken → Type 0
AreWhole ts = All (λ t. t ≢ Cut) ts

-- What is read, and doesn't break off, is so written.
abbrev pub ReadIsWritten : Type 0
ReadIsWritten = (n : ℕ) (ts : List CharToken) (bytes : List ℕ) → AreBytes bytes → AreWhole ts →
    charstring_tokens (negsuc n) bytes ≡ ts ++ End ∷ [] → AreWritten ts bytes
