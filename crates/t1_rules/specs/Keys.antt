-- The keys that a font's faults are at: their numbers, what they are called, and how many indexes each has. Key 0
-- is the file. Keys 4, 20 and 21 are entries of a form of their own. The others are plain keys (Type 1 Font
-- Format, chapters 2 and 5).
use Rattle.std.specs.Prelude.{ℕ, ◌+◌, ◌==◌, min, max, if◌then◌else◌, Option, List, [], ◌∷◌, codes, length, map, slice_index_or}
use Rattle.std.specs.List.{find}
use Rattle.t1_char.specs.Editions.{has_later_rules, has_latest_rules}
use Rattle.t1_char.specs.declared.edition.Edition.{Edition}
use Rattle.t1_font.specs.declared.key.Key.{Key}
use Rattle.t1_font.specs.declared.key.Key.TheVariants.{FontType, PaintType, UniqueId, PrivateUniqueId, Password, MinFeature, LenIv, BlueValues, OtherBlues, FamilyBlues, FamilyOtherBlues, BlueScale, BlueShift, BlueFuzz, StdHw, StdVw, StemSnapH, StemSnapV, FontMatrix, FontBBox, Xuid, LanguageGroup}
use Rattle.t1_font.specs.Keys.{index_of}
use Rattle.t1_font.specs.Fonts.{FontValue}
use Rattle.t1_font.specs.Values.{Value, absent}
use Rattle.t1_font.specs.Bounds.{code_count}
use Rattle.t1_rules.specs.declared.keys.KeyKind.{KeyKind}
use Rattle.t1_rules.specs.declared.keys.KeyKind.TheVariants.{File, Value as ValueOf, Encoding, Subrs, CharStrings}

-- How many keys there are, and how many indexes a key has at most.
abbrev pub key_count : ℕ
key_count = 26

abbrev pub index_count : ℕ
index_count = 65536

-- What is said of the file as a whole.
abbrev pub file_key : ℕ
file_key = 0

-- The Encoding; its indexes are codes.
abbrev pub encoding_key : ℕ
encoding_key = 4

-- The Subrs; its indexes are their numbers.
abbrev pub subrs_key : ℕ
subrs_key = 20

-- The CharStrings; its indexes are the glyphs' numbers.
abbrev pub glyphs_key : ℕ
glyphs_key = 21

-- The number of a plain key.
abbrev pub key_number : Key → ℕ
key_number FontType = 1
key_number PaintType = 2
key_number UniqueId = 3
key_number PrivateUniqueId = 5
key_number Password = 6
key_number MinFeature = 7
key_number LenIv = 8
key_number BlueValues = 9
key_number OtherBlues = 10
key_number FamilyBlues = 11
key_number FamilyOtherBlues = 12
key_number BlueScale = 13
key_number BlueShift = 14
key_number BlueFuzz = 15
key_number StdHw = 16
key_number StdVw = 17
key_number StemSnapH = 18
key_number StemSnapV = 19
key_number FontMatrix = 22
key_number FontBBox = 23
key_number Xuid = 24
key_number LanguageGroup = 25

-- The number of the key that a kind is.
abbrev pub kind_number : KeyKind → ℕ
kind_number File = file_key
kind_number (ValueOf key) = key_number key
kind_number Encoding = encoding_key
kind_number Subrs = subrs_key
kind_number CharStrings = glyphs_key

-- Which of some plain keys has a number, if one has.
abbrev pub key_among : List Key → ℕ → Option Key
key_among keys number = find (λ key. number == key_number key) keys

-- What a font's plain key has.
abbrev pub value_at : FontValue → Key → Value
value_at font key = slice_index_or font.plain (index_of key) absent

-- How many numbers a list of zones or stem snaps has at most.
abbrev pub list_limit_of : Key → ℕ
list_limit_of BlueValues = 14
list_limit_of OtherBlues = 10
list_limit_of FamilyBlues = 14
list_limit_of FamilyOtherBlues = 10
list_limit_of StemSnapH = 12
list_limit_of StemSnapV = 12
list_limit_of _ = 0

-- How many numbers of an XUID are looked at.
abbrev pub xuid_limit : ℕ
xuid_limit = 16

-- How many indexes the Subrs have: past the greatest number of one, and at most 65,536.
abbrev pub subr_places : List (ℕ × List ℕ) → ℕ
subr_places [] = 0
subr_places (subr ∷ subrs) = max (min (subr.0 + 1) index_count) (subr_places subrs)

-- One for each glyph, and index 0 where there is none.
abbrev pub glyph_places : FontValue → ℕ
glyph_places font = max 1 (min (length font.glyphs) index_count)

-- A key: what it is called, and how many indexes it has, from 0 on, at which a font can have a fault.
pub record KeyRow : Type 0 where
  pub text : List ℕ
  pub places : Edition → FontValue → ℕ

abbrev pub key_row : List ℕ → (Edition → FontValue → ℕ) → KeyRow
key_row text places = record { text = text; places = places }

-- One index, for what is said of an entry as a whole.
abbrev pub of_entry : Edition → FontValue → ℕ
of_entry edition font = 1

-- So many, where the edition has the rules after number 70.
abbrev pub of_later : ℕ → Edition → FontValue → ℕ
of_later count edition font = if has_later_rules edition then count else 0

-- The same of the rules after number 93.
abbrev pub of_latest : ℕ → Edition → FontValue → ℕ
of_latest count edition font = if has_latest_rules edition then count else 0

-- One for each number that a list can have, and one more, for the first that is too much.
abbrev pub of_list : Key → Edition → FontValue → ℕ
of_list key edition font = list_limit_of key + 1

-- The keys in the order of their numbers, from 0 on. Of lenIV the rules after number 93 alone speak; an Encoding's indexes
-- are its codes. Of FontBBox the indexes are the corners' coordinates, of XUID its numbers.
abbrev pub key_rows : List KeyRow
key_rows =
    key_row (codes "file") of_entry
    ∷ key_row (codes "FontType") of_entry
    ∷ key_row (codes "PaintType") of_entry
    ∷ key_row (codes "UniqueID") of_entry
    ∷ key_row (codes "Encoding") (λ edition font. code_count)
    ∷ key_row (codes "PrivateUniqueID") of_entry
    ∷ key_row (codes "password") of_entry
    ∷ key_row (codes "MinFeature") of_entry
    ∷ key_row (codes "lenIV") (of_latest 1)
    ∷ key_row (codes "BlueValues") (of_list BlueValues)
    ∷ key_row (codes "OtherBlues") (of_list OtherBlues)
    ∷ key_row (codes "FamilyBlues") (of_list FamilyBlues)
    ∷ key_row (codes "FamilyOtherBlues") (of_list FamilyOtherBlues)
    ∷ key_row (codes "BlueScale") of_entry
    ∷ key_row (codes "BlueShift") of_entry
    ∷ key_row (codes "BlueFuzz") of_entry
    ∷ key_row (codes "StdHW") of_entry
    ∷ key_row (codes "StdVW") of_entry
    ∷ key_row (codes "StemSnapH") (of_list StemSnapH)
    ∷ key_row (codes "StemSnapV") (of_list StemSnapV)
    ∷ key_row (codes "Subrs") (λ edition font. subr_places font.subrs)
    ∷ key_row (codes "CharStrings") (λ edition font. glyph_places font)
    ∷ key_row (codes "FontMatrix") (of_later 1)
    ∷ key_row (codes "FontBBox") (of_later 2)
    ∷ key_row (codes "XUID") (of_later xuid_limit)
    ∷ key_row (codes "LanguageGroup") (of_later 1)
    ∷ []

abbrev pub key_texts : List (List ℕ)
key_texts = map (λ key. key.text) key_rows

-- What a key is called; it is empty past the last one.
abbrev pub key_text_of : ℕ → List ℕ
key_text_of key = slice_index_or key_texts key []

abbrev pub places_by_key : Edition → FontValue → List ℕ
places_by_key edition font = map (λ key. key.places edition font) key_rows

-- How many indexes a key can have a fault at, from 0 on; none past the last key.
abbrev pub places_of : Edition → FontValue → ℕ → ℕ
places_of edition font key = slice_index_or (places_by_key edition font) key 0
