-- Plain values: a number; numbers, between the brackets of an array or a procedure; or another kind
-- (Type 1 Font Format, chapters 2 and 5). The numbers are counted, and the first 16 of them are kept.
use Rattle.std.specs.Prelude.{ℕ, zero, suc, ℤ, Option, Some, None, Ok, Err, List, [], ◌∷◌, ◌++◌, ◌+◌, length, take}
use Rattle.t1_scan.specs.declared.token.Kind.{Kind}
use Rattle.t1_scan.specs.declared.token.Kind.TheVariants.{Number, Name, Word, Text, Proc, Array}
use Rattle.t1_scan.specs.Texts.{Lexeme}
use Rattle.t1_font.specs.Tokens.{token_at, inside_of}
use Rattle.t1_font.specs.Bounds.{kept_numbers}

-- What a key has; numbers are counted in billionths.
pub data Value : Type 0 where
  absent : Value
  number : ℤ → Value
  numbers : ℕ → List ℤ → Value
  other : Value

-- What a list has next: nothing, a number and what follows it, or something else.
pub data ListItem : Type 0 where
  ends : ListItem
  is_number : ℤ → List ℕ → ListItem
  is_other : ListItem

abbrev pub item_of : Kind → List ℕ → ListItem
item_of (Number z) rest = is_number z rest
item_of _ rest = is_other

unfoldable pub item_at : List ℕ → ListItem
item_at s = elim (token_at s) [
  | Err _ ↦ is_other
  | Ok found ↦ elim found [ None ↦ ends | Some t ↦ item_of t.kind t.rest ]
]

-- A number before numbers.
abbrev pub number_first : ℤ → Option (List ℤ) → Option (List ℤ)
number_first z None = None
number_first z (Some zs) = Some (z ∷ zs)

abbrev pub numbers_from : (List ℕ → Option (List ℤ)) → ListItem → Option (List ℤ)
numbers_from after ends = Some []
numbers_from after (is_number z rest) = number_first z (after rest)
numbers_from after is_other = None

-- The numbers that a text is, if it is nothing else: of at most n tokens.
unfoldable pub numbers_within : ℕ → List ℕ → Option (List ℤ)
numbers_within zero s = None
numbers_within (suc n) s = numbers_from (numbers_within n) (item_at s)

-- A token takes a byte or more.
abbrev pub numbers_of : List ℕ → Option (List ℤ)
numbers_of s = numbers_within (suc (length s)) s

-- The value of a list, where so many numbers were passed, and these of them kept.
abbrev pub list_after : ℕ → List ℤ → Option (List ℤ) → Value
list_after count first None = other
list_after count first (Some zs) = numbers (count + length zs) (take kept_numbers (first ++ zs))

unfoldable pub list_value : List ℕ → Value
list_value inside = list_after 0 [] (numbers_of inside)

-- The value that a token is.
unfoldable pub value_of_token : Lexeme → Value
value_of_token t = elim (t.kind) [
  | Number z ↦ number z
  | Name ↦ other
  | Word ↦ other
  | Text ↦ other
  | Proc ↦ list_value (inside_of t.text)
  | Array ↦ list_value (inside_of t.text)
]

abbrev pub value_of_entry : Option Lexeme → Value
value_of_entry None = absent
value_of_entry (Some t) = value_of_token t
