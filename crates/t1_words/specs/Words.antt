-- The words that the programs of fonts have without a definition of their own: PostScript's. Type 1 Font Format 1.1, chapter 2.
use Rattle.std.specs.Prelude.{ℕ, Bool, List, [], ◌∷◌, ◌&&◌, not, codes}
use Rattle.std.specs.List.{list_any}
use Rattle.std.specs.Str.{bytes_eq}
use Rattle.t1_scan.specs.declared.token.Kind.{Kind}
use Rattle.t1_words.specs.Numbers.{is_number}
use Rattle.t1_words.specs.Pairs.{is_lone_close}
use Rattle.t1_words.specs.Readers.{is_word}

abbrev pub known_words : List (List ℕ)
known_words =
    codes "array" ∷ codes "begin" ∷ codes "bind" ∷ codes "closefile" ∷ codes "copy" ∷ codes "currentdict" ∷ codes "currentfile" ∷
    codes "def" ∷ codes "definefont" ∷ codes "dict" ∷ codes "dup" ∷ codes "eexec" ∷ codes "end" ∷ codes "exch" ∷ codes "executeonly" ∷
    codes "false" ∷ codes "findfont" ∷ codes "FontDirectory" ∷ codes "for" ∷ codes "get" ∷ codes "getinterval" ∷ codes "if" ∷
    codes "ifelse" ∷ codes "index" ∷ codes "known" ∷ codes "length" ∷ codes "mark" ∷ codes "maxlength" ∷ codes "noaccess" ∷ codes "pop" ∷
    codes "put" ∷ codes "putinterval" ∷ codes "readonly" ∷ codes "readstring" ∷ codes "StandardEncoding" ∷ codes "string" ∷
    codes "systemdict" ∷ codes "true" ∷ codes "userdict" ∷ codes "<<" ∷ codes ">>" ∷ []

abbrev pub is_known : List ℕ → Bool
is_known word = list_any (λ known. bytes_eq known word) known_words

-- A word that means nothing until the font defines it: no number, none that is known, and no bracket alone.
abbrev pub wants_definition : Kind → List ℕ → Bool
wants_definition kind text = is_word kind && not (is_known text) && not (is_number text) && not (is_lone_close text)
