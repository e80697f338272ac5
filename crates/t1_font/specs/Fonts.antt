-- The value of a font: what was stated last, looked up in the whole list of what its texts state.
use Rattle.std.specs.Prelude.{ℕ, zero, suc, Bool, true, false, not, Option, Some, None, List, [], ◌∷◌, ◌==◌, nat_eq, count_by, length, if◌then◌else◌, map, flat_map, filter, ◌++◌, slice_get, slice_index_or}
use Rattle.std.specs.Option.{option_or, unwrap_or}
use Rattle.std.specs.List.{list_any}
use Rattle.t1_scan.specs.Texts.{Lexeme}
use Rattle.t1_font.specs.declared.encoding.Encoding.{Encoding}
use Rattle.t1_font.specs.declared.encoding.Encoding.TheVariants.{Absent}
use Rattle.t1_font.specs.declared.key.Key.{Key}
use Rattle.t1_font.specs.Keys.{same_name, index_of, key_places}
use Rattle.t1_font.specs.Values.{Value, value_of_entry}

-- What a text states: a plain key with its value; that an Encoding of a form begins; in a custom one a
-- code with its name, or a code that isn't whole from 0 to 255; the size of the Subrs; a Subr or a
-- glyph with its charstring.
pub data Stated : Type 0 where
  plain : Key → Lexeme → Stated
  encoding : Encoding → Stated
  code : ℕ → List ℕ → Stated
  bad_code : Stated
  size : ℕ → Stated
  subr : ℕ → List ℕ → Stated
  glyph : List ℕ → List ℕ → Stated

-- Of a PFB file: it has no end segment; bytes follow that segment.
pub record Marks : Type 0 where
  pub no_end : Bool
  pub extra : Bool

-- The keys have their places, each with its value. Codes, Subrs and glyphs are in the order of their
-- first appearance, each with what was stated last. The numbers and names that were stated again are in
-- the order in which they first were. Of a key and of the Encoding it is known how often they were stated, where two stands
-- for more as well. The texts are there when both are read: the clear one to the end of its word
-- eexec, and all of the private one.
pub record FontValue : Type 0 where
  pub plain : List Value
  pub encoding : Encoding
  pub codes : List (ℕ × List ℕ)
  pub bad_code : Bool
  pub size : Option ℕ
  pub subrs : List (ℕ × List ℕ)
  pub subrs_twice : List ℕ
  pub glyphs : List (List ℕ × List ℕ)
  pub glyphs_twice : List (List ℕ)
  pub no_end : Bool
  pub extra : Bool
  pub key_times : List ℕ
  pub encoding_times : ℕ
  pub clear_text : List ℕ
  pub private_text : List ℕ

-- What each kind of statement says.
abbrev pub plain_of : Stated → List (ℕ × Lexeme)
plain_of (plain k t) = (index_of k, t) ∷ []
plain_of _ = []

abbrev pub encoding_of : Stated → List Encoding
encoding_of (encoding form) = form ∷ []
encoding_of _ = []

abbrev pub code_of : Stated → List (ℕ × List ℕ)
code_of (code n name) = (n, name) ∷ []
code_of _ = []

abbrev pub size_of : Stated → List ℕ
size_of (size n) = n ∷ []
size_of _ = []

abbrev pub subr_of : Stated → List (ℕ × List ℕ)
subr_of (subr n bytes) = (n, bytes) ∷ []
subr_of _ = []

abbrev pub glyph_of : Stated → List (List ℕ × List ℕ)
glyph_of (glyph name bytes) = (name, bytes) ∷ []
glyph_of _ = []

abbrev pub is_encoding : Stated → Bool
is_encoding (encoding _) = true
is_encoding _ = false

abbrev pub is_bad_code : Stated → Bool
is_bad_code bad_code = true
is_bad_code _ = false

-- The last of a list.
abbrev pub last_of : {A : Type 0} → List A → Option A
last_of [] = None
last_of (x ∷ xs) = option_or (last_of xs) (Some x)

-- What is after the last such, or all where there is none.
abbrev pub after_last : {A : Type 0} → (A → Bool) → List A → List A
after_last a [] = []
after_last a (x ∷ xs) = if list_any a xs then after_last a xs else (if a x then xs else x ∷ xs)

-- Each key in the order of its first appearance.
abbrev pub firsts : {K : Type 0} → (K → K → Bool) → List K → List K
firsts eq [] = []
firsts eq (k ∷ ks) = k ∷ filter (λ j. not (eq k j)) (firsts eq ks)

-- What was set last under a key.
abbrev pub last_under : {K V : Type 0} → (K → K → Bool) → K → List (K × V) → Option V
last_under eq k [] = None
last_under eq k (p ∷ ps) = option_or (last_under eq k ps) (if eq k p.0 then Some p.1 else None)

abbrev pub keys_of : {K V : Type 0} → List (K × V) → List K
keys_of ps = map (λ p. p.0) ps

-- Each key in the order of its first appearance, with what was set last under it.
abbrev pub table_of : {K V : Type 0} → (K → K → Bool) → V → List (K × V) → List (K × V)
table_of eq v ps = map (λ k. (k, unwrap_or (last_under eq k ps) v)) (firsts eq (keys_of ps))

-- Of these keys, each that is among those before it, once for each time it is stated again.
abbrev pub repeats : {K : Type 0} → (K → K → Bool) → List K → List K → List K
repeats eq before [] = []
repeats eq before (k ∷ ks) =
    (if list_any (eq k) before then k ∷ [] else []) ++ repeats eq (before ++ k ∷ []) ks

-- The keys that are stated more than once, each once, in the order of their second statement.
abbrev pub twice_of : {K : Type 0} → (K → K → Bool) → List K → List K
twice_of eq ks = firsts eq (repeats eq [] ks)

-- The codes that were set since the last Encoding began.
abbrev pub codes_of : List Stated → List (ℕ × List ℕ)
codes_of es = table_of nat_eq [] (flat_map code_of (after_last is_encoding es))

-- How often, where two stands for more as well; and once more than that.
abbrev pub at_most_two : ℕ → ℕ
at_most_two (suc (suc n)) = 2
at_most_two n = n

abbrev pub once_more : ℕ → ℕ
once_more n = at_most_two (suc n)

abbrev pub times_in : List ℕ → ℕ → ℕ
times_in ks k = at_most_two (count_by (nat_eq k) ks)

-- The value of all that was stated.
unfoldable pub value_of : Marks → List Stated → FontValue
value_of marks es =
    let subrs = flat_map subr_of es in
    let glyphs = flat_map glyph_of es in
    record {
      plain = map (λ k. value_of_entry (last_under nat_eq k (flat_map plain_of es))) key_places;
      encoding = unwrap_or (last_of (flat_map encoding_of es)) Absent;
      codes = codes_of es;
      bad_code = list_any is_bad_code (after_last is_encoding es);
      size = last_of (flat_map size_of es);
      subrs = table_of nat_eq [] subrs;
      subrs_twice = twice_of nat_eq (keys_of subrs);
      glyphs = table_of same_name [] glyphs;
      glyphs_twice = twice_of same_name (keys_of glyphs);
      no_end = marks.no_end;
      extra = marks.extra;
      key_times = map (times_in (keys_of (flat_map plain_of es))) key_places;
      encoding_times = at_most_two (length (flat_map encoding_of es));
      clear_text = [];
      private_text = [];
    }

-- A key is stated twice or more; so is the Encoding.
abbrev pub is_key_twice : FontValue → Key → Bool
is_key_twice v key = slice_index_or v.key_times (index_of key) 0 == 2

abbrev pub is_encoding_twice : FontValue → Bool
is_encoding_twice v = v.encoding_times == 2

-- With the texts that it was read from.
abbrev pub with_texts : List ℕ → List ℕ → FontValue → FontValue
with_texts clear private v = record v { clear_text = clear; private_text = private }

-- A Subr, by its number, is stated twice; a glyph, by its place, where nothing is past the end.
abbrev pub is_subr_twice : FontValue → ℕ → Bool
is_subr_twice v number = list_any (nat_eq number) v.subrs_twice

abbrev pub is_glyph_twice : FontValue → ℕ → Bool
is_glyph_twice v place = elim (slice_get v.glyphs place) [
  | None ↦ false
  | Some p ↦ list_any (same_name p.0) v.glyphs_twice
]

-- The name of a glyph, by its place; empty past the last.
abbrev pub name_in : Option (List ℕ × List ℕ) → List ℕ
name_in None = []
name_in (Some p) = p.0

abbrev pub glyph_name : FontValue → ℕ → List ℕ
glyph_name font place = name_in (slice_get font.glyphs place)
