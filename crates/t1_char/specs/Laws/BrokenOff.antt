-- Laws of charstrings that are too short: for the leading random bytes, or for their last token. Type 1 Font Format
-- 1.1, chapter 6 (Charstring Number Encoding, Charstring Command Encoding) and chapter 7 (Charstring Encryption).
use Rattle.std.specs.Prelude.{◌≡◌, ◌≢◌, ℕ, pos, negsuc, ◌<◌, ◌≤◌, ◌++◌, List, [], ◌∷◌, length}
use Rattle.std.specs.List.{All}
use Rattle.t1_char.specs.declared.token.CharToken.{CharToken}
use Rattle.t1_char.specs.declared.token.CharToken.TheVariants.{Cut, Short, End}
use Rattle.t1_char.specs.Tokens.{charstring_tokens}
use Rattle.t1_char.specs.Laws.Written.{AreBytes, AreWhole, AreWritten, IsWritten}

-- A charstring that is shorter than the random bytes that lenIV says has two tokens, which say just this.
abbrev pub TooFewAreShort : Type 0
TooFewAreShort = (len_iv : ℕ) (code : List ℕ) → length code < len_iv →
    charstring_tokens (pos len_iv) code ≡ Short ∷ End ∷ []

-- No other charstring has that token.
abbrev pub AreLong : List CharToken → Type 0
AreLong ts = All (λ t. t ≢ Short) ts

abbrev pub EnoughAreLong : Type 0
EnoughAreLong = (len_iv : ℕ) (code : List ℕ) → len_iv ≤ length code → AreLong (charstring_tokens (pos len_iv) code)

abbrev pub PlainAreLong : Type 0
PlainAreLong = (n : ℕ) (code : List ℕ) → AreLong (charstring_tokens (negsuc n) code)

-- Bytes that begin a token and don't end it: with some that are missing, they write one.
pub record BreaksOff (bytes : List ℕ) : Type 0 where
  pub token : CharToken
  pub missing : List ℕ
  pub begun : bytes ≢ []
  pub lacking : missing ≢ []
  pub written : IsWritten token (bytes ++ missing)

-- Where such bytes follow bytes that write tokens, these tokens are read, then Cut, then the end.
abbrev pub BrokenOffAreCut : Type 0
BrokenOffAreCut = (n : ℕ) (ts : List CharToken) (front bytes : List ℕ) → AreWritten ts front → BreaksOff bytes →
    charstring_tokens (negsuc n) (front ++ bytes) ≡ ts ++ Cut ∷ End ∷ []

-- And where Cut is read, after tokens that are whole, the charstring is such a one; only the end follows.
pub record IsBrokenOff (ts : List CharToken) (code : List ℕ) (rest : List CharToken) : Type 0 where
  pub front : List ℕ
  pub bytes : List ℕ
  pub split : code ≡ front ++ bytes
  pub before : AreWritten ts front
  pub cut : BreaksOff bytes
  pub ends : rest ≡ End ∷ []

abbrev pub CutsAreBrokenOff : Type 0
CutsAreBrokenOff = (n : ℕ) (ts rest : List CharToken) (code : List ℕ) → AreBytes code → AreWhole ts →
    charstring_tokens (negsuc n) code ≡ ts ++ Cut ∷ rest → IsBrokenOff ts code rest
