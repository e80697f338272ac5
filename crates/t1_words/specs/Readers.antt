-- The procedure that reads a charstring. Type 1 Font Format 1.1, chapters 2 and 10.
use Rattle.std.specs.Prelude.{ℕ, Bool, true, false, Option, Some, None, Result, Ok, Err, List, [], ◌∷◌, ◌-◌, ◌&&◌, length, slice_range, codes}
use Rattle.std.specs.Bool.{then_some}
use Rattle.std.specs.Str.{bytes_eq}
use Rattle.t1_scan.specs.declared.error.ScanError.{ScanError}
use Rattle.t1_scan.specs.declared.token.Kind.{Kind}
use Rattle.t1_scan.specs.declared.token.Kind.TheVariants.{Word, Proc}
use Rattle.t1_scan.specs.Tokens.{Found, token_of}
use Rattle.t1_words.specs.Pairs.{holds}

abbrev pub is_word : Kind → Bool
is_word Word = true
is_word _ = false

abbrev pub is_procedure : Kind → Bool
is_procedure Proc = true
is_procedure _ = false

-- What follows a word, if that is what was read.
abbrev pub after_word : List ℕ → Result (Option Found) ScanError → Option (List ℕ)
after_word word (Err e) = None
after_word word (Ok None) = None
after_word word (Ok (Some found)) = then_some (is_word found.kind && bytes_eq found.text word) found.rest

abbrev pub is_end : Result (Option Found) ScanError → Bool
is_end (Err e) = false
is_end (Ok None) = true
is_end (Ok (Some found)) = false

-- A text is read as these words, and nothing else.
abbrev pub are_words : List (List ℕ) → List ℕ → Bool
are_words [] s = is_end (token_of s)
are_words (word ∷ more) s = holds (λ rest. are_words more rest) (after_word word (token_of s))

-- The words that read a charstring from the font file into a string.
abbrev pub reader_words : List (List ℕ)
reader_words = codes "string" ∷ codes "currentfile" ∷ codes "exch" ∷ codes "readstring" ∷ codes "pop" ∷ []

-- Between the first brace and the last.
abbrev pub inside : List ℕ → List ℕ
inside text = slice_range text 1 (length text - 1)

abbrev pub reads_charstrings : Kind → List ℕ → Bool
reads_charstrings kind text = is_procedure kind && are_words reader_words (inside text)
