-- Where tokens are in a text: after which bytes, before which, and one after another.
use Rattle.std.specs.Prelude.{◌≡◌, ◌≤◌, ℕ, Bool, true, false, Some, None, Ok, List, [], ◌∷◌, ◌++◌, ◌&&◌, ◌||◌, ◌==◌, not, length}
use Rattle.t1_scan.specs.declared.token.Kind.{Kind}
use Rattle.t1_scan.specs.Bytes.{is_blank, is_regular}
use Rattle.t1_scan.specs.Lengths.{is_comment_after, begins_with_close, most_nested}
use Rattle.t1_scan.specs.Tokens.{Found, token_of}
use Rattle.t1_scan.specs.Spelling.{Plain, name, word, decimal, radix, single, spelled, meant, depth_of, is_plain}

-- blanks and comments alone
abbrev pub are_blanks : Bool → List ℕ → Bool
are_blanks in_comment [] = true
are_blanks in_comment (b ∷ s) =
    (in_comment || (is_blank b || b == 37)) && are_blanks (is_comment_after in_comment b) s

-- blanks and comments alone, the last comment with the end of its line
abbrev pub is_gap : Bool → List ℕ → Bool
is_gap in_comment [] = not in_comment
is_gap in_comment (b ∷ s) =
    (in_comment || (is_blank b || b == 37)) && is_gap (is_comment_after in_comment b) s

-- a run goes as far as it can, and `>` is alone only where no other follows
abbrev pub ends_run : List ℕ → Bool
ends_run [] = true
ends_run (b ∷ s) = not (is_regular b)

abbrev pub can_end : Plain → List ℕ → Bool
can_end (name _) rest = ends_run rest
can_end (word _) rest = ends_run rest
can_end (decimal _ _ _) rest = ends_run rest
can_end (radix _ _) rest = ends_run rest
can_end (single b) rest = not (b == 62 && begins_with_close rest)
can_end _ rest = true

-- a token that can be read: in its plain form, and not nested too deep
pub record IsReadable (t : Plain) : Type 0 where
  pub plain : is_plain t ≡ true
  pub shallow : depth_of t ≤ most_nested

abbrev pub AreReadable : List Plain → Type 0
AreReadable [] = Unit {0}
AreReadable (t ∷ ts) = IsReadable t × AreReadable ts

-- a text is blanks and comments, a token that can be read, and a rest
pub record BeginsWith (s : List ℕ) (t : Plain) (rest : List ℕ) : Type 0 where
  pub gap : List ℕ
  pub blanks : is_gap false gap ≡ true
  pub readable : IsReadable t
  pub ends : can_end t rest ≡ true
  pub whole : s ≡ gap ++ (spelled t ++ rest)

-- what was read is what the text begins with
pub record IsReading (s : List ℕ) (found : Found) : Type 0 where
  pub token : Plain
  pub begins : BeginsWith s token found.rest
  pub text : spelled token ≡ found.text
  pub kind : meant token ≡ found.kind

-- a token as it is in a text
pub record Lexeme : Type 0 where
  pub kind : Kind
  pub text : List ℕ

-- a text is read as just these tokens: each is the first of what the one before it left, and then
-- there is none
abbrev pub IsReadAs : List ℕ → List Lexeme → Type 0
IsReadAs s [] = token_of s ≡ Ok None
IsReadAs s (t ∷ ts) =
    (rest : List ℕ)
    × (token_of s ≡ Ok (Some (record { kind = t.kind; text = t.text; rest = rest })))
    × IsReadAs rest ts

-- the tokens are in the text in this order, with blanks and comments alone before, between and after them
abbrev pub IsCoveredBy : List ℕ → List Lexeme → Type 0
IsCoveredBy s [] = are_blanks false s ≡ true
IsCoveredBy s (t ∷ ts) =
    (gap rest : List ℕ)
    × (s ≡ gap ++ (t.text ++ rest))
    × (is_gap false gap ≡ true)
    × IsCoveredBy rest ts

-- tokens spelled one after another, with a blank between
abbrev pub continued : ℕ → List Plain → List ℕ
continued blank [] = []
continued blank (t ∷ ts) = blank ∷ (spelled t ++ continued blank ts)

abbrev pub written : ℕ → List Plain → List ℕ
written blank [] = []
written blank (t ∷ ts) = spelled t ++ continued blank ts

abbrev pub lexeme_of : Plain → Lexeme
lexeme_of t = record { kind = meant t; text = spelled t }

-- each is a byte or more
abbrev pub HaveBytes : List Lexeme → Type 0
HaveBytes [] = Unit {0}
HaveBytes (t ∷ ts) = (1 ≤ length t.text) × HaveBytes ts
