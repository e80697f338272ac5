-- Laws of the definitions.
use Rattle.std.specs.Prelude.{◌≡◌, ◌↔◌, ℕ, ℤ, true, Some, Ok, List, map}
use Rattle.t1_scan.specs.declared.token.Kind.TheVariants.{Number, Word}
use Rattle.t1_scan.specs.Texts.{IsReadAs, Lexeme}
use Rattle.t1_scan.specs.Tokens.{Found, token_of}
use Rattle.t1_words.specs.Nested.{IsNested}
use Rattle.t1_words.specs.Numbers.{is_number}
use Rattle.t1_words.specs.Pairs.{is_paired}
use Rattle.t1_words.specs.Readers.{are_words}

-- A token that t1_scan reads as a number is one for PostScript.
abbrev pub NumbersAreNumbers : Type 0
NumbersAreNumbers = (s : List ℕ) (found : Found) (v : ℤ) → token_of s ≡ Ok (Some found) → found.kind ≡ Number v → is_number found.text ≡ true

abbrev pub word_of : List ℕ → Lexeme
word_of word = record { kind = Word; text = word }

-- Brackets are paired exactly where the text is one spelled with pairs, nested at most so deep.
abbrev pub PairsAreNested : Type 0
PairsAreNested = (s : List ℕ) → (is_paired s ≡ true) ↔ IsNested s

-- The words of a text are these exactly where t1_scan reads the text as just these tokens.
abbrev pub WordsAreTokens : Type 0
WordsAreTokens = (words : List (List ℕ)) (s : List ℕ) → (are_words words s ≡ true) ↔ IsReadAs s (map word_of words)
