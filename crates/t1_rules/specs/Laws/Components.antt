-- Laws of StandardEncoding and the components of accented characters.
use Rattle.std.specs.Prelude.{◌≡◌, ℕ, ◌<◌, ◌==◌, not, Bool, List, [], ◌∷◌, ◌++◌, length, map, take}
use Rattle.std.specs.List.{AllPass, count_by, range_with_len}
use Rattle.t1_char.specs.Charstrings.{tokens_in}
use Rattle.t1_char.specs.Effects.{most_calls}
use Rattle.t1_char.specs.Steps.{StepView, at_start, expansion}
use Rattle.t1_font.specs.declared.encoding.Encoding.{Encoding}
use Rattle.t1_font.specs.Fonts.{FontValue}
use Rattle.t1_font.specs.Keys.{same_name}
use Rattle.t1_rules.specs.Components.{component_in, component_named, components_of}
use Rattle.t1_rules.specs.StandardEncoding.{standard_encoding, standard_name}
use Rattle.t1_font.specs.Bounds.{code_count}

-- StandardEncoding has 256 codes, of which 149 have a name, and no name is at two codes.
abbrev pub has_letters : List ℕ → Bool
has_letters name = not (length name == 0)

abbrev pub CodesAreCounted : Type 0
CodesAreCounted = length standard_encoding ≡ code_count

abbrev pub NamesAreCounted : Type 0
NamesAreCounted = count_by has_letters standard_encoding ≡ 149

abbrev pub NoNameStandsTwice : Type 0
NoNameStandsTwice =
    (one other : ℕ) → standard_name one ≡ standard_name other → 0 < length (standard_name one) → one ≡ other

-- The name of a letter's code, from A to Z and from a to z, is the letter.
abbrev pub letter : ℕ → List ℕ
letter c = c ∷ []

abbrev pub CapitalsNameThemselves : Type 0
CapitalsNameThemselves = map standard_name (range_with_len 65 26) ≡ map letter (range_with_len 65 26)

abbrev pub SmallLettersNameThemselves : Type 0
SmallLettersNameThemselves = map standard_name (range_with_len 97 26) ≡ map letter (range_with_len 97 26)

-- The font with another Encoding, and other codes in it.
abbrev pub encoded_anew : FontValue → Encoding → List (ℕ × List ℕ) → Bool → FontValue
encoded_anew font encoding codes bad_code =
    record font { encoding = encoding; codes = codes; bad_code = bad_code }

-- Components are looked up in StandardEncoding: the font's own Encoding has no say.
abbrev pub OwnEncodingHasNoSay : Type 0
OwnEncodingHasNoSay =
    (limit : ℕ) (font : FontValue) (encoding : Encoding) (codes : List (ℕ × List ℕ)) (bad_code : Bool) →
    components_of limit (encoded_anew font encoding codes bad_code) ≡ components_of limit font

-- The steps of a glyph with this charstring, wherever it is among the glyphs.
abbrev pub steps_by_code : FontValue → List ℕ → List StepView
steps_by_code font code = (expansion font most_calls [] (tokens_in font code) at_start).steps

-- A component is what its charstring is: which glyphs are before it and after it has no say.
abbrev pub PlacesHaveNoSay : Type 0
PlacesHaveNoSay =
    (limit : ℕ) (font : FontValue) (front rest : List (List ℕ × List ℕ)) (name code : List ℕ) →
    0 < length name → AllPass (λ glyph. not (same_name name glyph.0)) front →
    component_named limit (record font { glyphs = front ++ (name, code) ∷ rest }) name
    ≡ component_in (take limit (steps_by_code font code))
