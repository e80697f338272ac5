-- The font rules as a table: where a font's value breaks which of them, each by a key and an index.
pub mod Dictionaries
pub mod Encoding
pub mod Glyphs
pub mod Hints
pub mod Ids
pub mod Stems
pub mod Subrs
pub mod Texts
pub mod Values
pub mod Zones
use Rattle.std.specs.Prelude.{ℕ, ◌==◌, ◌&&◌, ◌||◌, Bool, false, not, List, [], ◌∷◌, ◌++◌, map, if◌then◌else◌}
use Rattle.std.specs.List.{list_any}
use Rattle.t1_char.specs.Editions.{has_later_rules, has_latest_rules}
use Rattle.t1_char.specs.declared.edition.Edition.{Edition}
use Rattle.t1_font.specs.declared.key.Key.{Key}
use Rattle.t1_font.specs.declared.key.Key.TheVariants.{FontType, PaintType, PrivateUniqueId, Password, MinFeature, BlueValues, BlueScale, BlueShift, BlueFuzz, FontMatrix, FontBBox, Xuid, LanguageGroup}
use Rattle.t1_font.specs.Fonts.{FontValue, is_encoding_twice, is_key_twice}
use Rattle.t1_font.specs.Values.{Value}
use Rattle.t1_rules.specs.declared.rule.Rule.{Rule}
use Rattle.t1_rules.specs.declared.rule.Rule.TheVariants.{F01, F02, F03, F04, F05, F06, F07, F08, F09, F10, F11, F12, F13, F14, Z01, Z02, Z03, Z04, Z05, Z06, Z07, Z08, Z09, Z10, Z11, F15, F16, F17, F18, F19, F20, F21, Z12, Z13, Z14, Z15, Z16, Z17, Z18, Z19, F22, F23, F24, F25, F26, F27, F28, F29}
use Rattle.t1_rules.specs.Book.{number_of}
use Rattle.t1_rules.specs.Keys.{file_key, encoding_key, subrs_key, glyphs_key, key_number, value_at}
use Rattle.t1_rules.specs.FontRules.Values.{first_in, is_absent, is_number_so, is_so_many, is_the_number, is_sixteen_twice}
use Rattle.t1_words.specs.Headers.{begins_as_type1, has_high_byte}
use Rattle.t1_rules.specs.FontRules.Dictionaries.{has_corners_exchanged, has_number_past_range, is_malformed, is_no_group, is_singular}
use Rattle.t1_rules.specs.FontRules.Texts.{has_unknown_word, has_unpaired, has_unread_charstring, lacks_private, plain_keys}
use Rattle.t1_rules.specs.FontRules.Ids.{id_keys, is_past_range, ids_differ}
use Rattle.t1_rules.specs.FontRules.Glyphs.{not_defined, has_glyph, is_glyph_given_twice}
use Rattle.t1_rules.specs.FontRules.Encoding.{is_no_form, encodes_missing}
use Rattle.t1_rules.specs.FontRules.Subrs.{is_wrong_subr, lacks_return}
use Rattle.t1_rules.specs.FontRules.Hints.{hint_keys, is_of_another_kind, numbers_at, has_too_many, falls_at, has_fraction_at, is_past_fuzzes, is_past_scales, is_past_shifts, repeats_at}
use Rattle.t1_rules.specs.FontRules.Zones.{low_zone_keys, zone_keys, has_odd_count, distance, scale, is_too_near, comes_near_high, is_too_high}
use Rattle.t1_rules.specs.FontRules.Stems.{width_keys, snap_keys, has_no_snap, is_not_above_zero, is_not_one_width, width_is_apart}

-- What is broken at one key: whether a font breaks it there at an index.
pub record KeyTest : Type 0 where
  pub key : ℕ
  pub is_broken : FontValue → ℕ → Bool

-- A row of the table: a rule, with its test at each of its keys.
pub record FontRule : Type 0 where
  pub rule : Rule
  pub tests : List KeyTest

abbrev pub font_row : Rule → List KeyTest → FontRule
font_row rule tests = record { rule = rule; tests = tests }

-- At each index of a key.
abbrev pub each : ℕ → (FontValue → ℕ → Bool) → List KeyTest
each key test = record { key = key; is_broken = test } ∷ []

-- Of a key as a whole, which has index 0.
abbrev pub once : ℕ → (FontValue → Bool) → List KeyTest
once key test = each key (λ font index. index == 0 && test font)

-- Of the value of a plain key, as a whole.
abbrev pub value : Key → (Value → Bool) → List KeyTest
value k test = once (key_number k) (λ font. test (value_at font k))

-- At each index of each of these plain keys.
abbrev pub each_of : List Key → (FontValue → Key → ℕ → Bool) → List KeyTest
each_of keys test = map (λ k. record { key = key_number k; is_broken = λ font index. test font k index }) keys

-- The first part of the rule book on fonts, in the order of the rules' numbers.
unfoldable pub first_font_rules : List FontRule
first_font_rules =
    -- A PFB file has no end segment. Technical Note 5040, section 3.3.
    font_row F01 (once file_key (λ font. font.no_end))
    -- Bytes follow the end segment. Technical Note 5040, section 3.3.
    ∷ font_row F02 (once file_key (λ font. font.extra))
    -- FontType isn't 1. Type 1 Font Format, chapter 2.
    ∷ font_row F03 (value FontType (λ v. not (is_the_number 1 v)))
    -- PaintType is neither 0, filled, nor 2, outlined. Type 1 Font Format, chapter 2.
    ∷ font_row F04 (value PaintType (λ v. not (is_the_number 0 v || is_the_number 2 v)))
    -- A UniqueID is out of its range. Type 1 Font Format, chapter 2.
    ∷ font_row F05 (each_of id_keys (λ font k index. index == 0 && is_past_range (value_at font k)))
    -- The two UniqueIDs differ. Type 1 Font Format, chapter 5.
    ∷ font_row F06 (once (key_number PrivateUniqueId) ids_differ)
    -- The password isn't 5839. Type 1 Font Format, chapter 5.
    ∷ font_row F07 (value Password (λ v. not (is_the_number 5839 v)))
    -- MinFeature isn't {16 16}. Type 1 Font Format, chapter 5.
    ∷ font_row F08 (value MinFeature (λ v. not (is_sixteen_twice v)))
    -- No glyph is called .notdef. Type 1 Font Format, chapter 2.
    ∷ font_row F09 (once glyphs_key (λ font. not (has_glyph font not_defined)))
    -- A glyph is given twice; the index is its number. Own.
    ∷ font_row F10 (each glyphs_key is_glyph_given_twice)
    -- The Encoding isn't there, or of another form. Type 1 Font Format, chapter 2.
    ∷ font_row F11 (once encoding_key (λ font. is_no_form font.encoding))
    -- A code of the Encoding isn't whole from 0 to 255. Type 1 Font Format, chapter 2.
    ∷ font_row F12 (once encoding_key (λ font. font.bad_code))
    -- A custom Encoding names a glyph that isn't there; the index is the code. Own.
    ∷ font_row F13 (each encoding_key encodes_missing)
    -- A Subr is given twice or past its array; the index is its number. Type 1 Font Format, chapter 8.
    ∷ font_row F14 (each subrs_key is_wrong_subr)
    -- A hint entry isn't a number, or numbers, as it should be. Type 1 Font Format, chapter 5.
    ∷ font_row Z01 (each_of hint_keys (λ font k index. is_of_another_kind k (value_at font k) index))
    -- There are more zone numbers than the limit. Type 1 Font Format, chapter 5.
    ∷ font_row Z02 (each_of zone_keys (λ font k index. has_too_many k (value_at font k) index))
    -- A zone number has no second one. Type 1 Font Format, chapter 5.
    ∷ font_row Z03 (each_of zone_keys (λ font k index. has_odd_count (value_at font k) index))
    -- A zone number is less than the one before it; the index is its place. Type 1 Font Format, chapter 5.
    ∷ font_row Z04 (each_of zone_keys (λ font k index. falls_at (numbers_at font k) index))
    -- A zone is too near to the one before it; its lower edge is the index. Type 1 Font Format, chapter 5.
    ∷ font_row Z05 (each_of zone_keys (λ font k index. is_too_near (distance font) (numbers_at font k) index))
    -- A low zone is too near to a high one; its lower edge is the index. Type 1 Font Format, chapter 5.
    ∷ font_row Z06 (each_of low_zone_keys comes_near_high)
    -- A zone is too high for BlueScale; its upper edge is the index. Type 1 Font Format, chapter 5.
    ∷ font_row Z07 (each_of zone_keys (λ font k index. is_too_high (scale font) (numbers_at font k) index))
    -- A standard width has none or several numbers. Type 1 Font Format, chapter 5.
    ∷ font_row Z08 (each_of width_keys (λ font k index. index == 0 && is_not_one_width (value_at font k)))
    -- There are more stem snaps than 12. Type 1 Font Format, chapter 5.
    ∷ font_row Z09 (each_of snap_keys (λ font k index. has_too_many k (value_at font k) index))
    -- A stem snap is less than the one before it; the index is its place. Type 1 Font Format, chapter 5.
    ∷ font_row Z10 (each_of snap_keys (λ font k index. falls_at (numbers_at font k) index))
    -- The first number of the standard width isn't one of the stem snaps. Type 1 Font Format, chapter 5.
    ∷ font_row Z11 (each_of snap_keys (λ font k index. index == 0 && width_is_apart font k))
    ∷ []

-- The part after number 70.
unfoldable pub later_font_rules : List FontRule
later_font_rules =
    -- FontMatrix isn't six numbers. Type 1 Font Format, chapter 2.
    font_row F15 (value FontMatrix (λ v. not (is_so_many 6 v)))
    -- FontBBox isn't four numbers. Type 1 Font Format, chapter 2.
    ∷ font_row F16 (value FontBBox (λ v. not (is_so_many 4 v)))
    -- The corners of FontBBox are exchanged; the index is the place of the first one's coordinate. Type 1 Font Format, chapter 2.
    ∷ font_row F17 (each (key_number FontBBox) (λ font index. has_corners_exchanged (value_at font FontBBox) index))
    -- XUID isn't numbers, or has none. Own.
    ∷ font_row F18 (value Xuid is_malformed)
    -- A number of XUID isn't whole from 0 to 16777215; the index is its place. Own.
    ∷ font_row F19 (each (key_number Xuid) (λ font index. has_number_past_range (value_at font Xuid) index))
    -- LanguageGroup is neither 0 nor 1. Type 1 Font Format, chapter 5.
    ∷ font_row F20 (value LanguageGroup is_no_group)
    -- A Subr has no return; the index is its number. Type 1 Font Format, chapter 6.
    ∷ font_row F21 (each subrs_key lacks_return)
    -- BlueValues isn't there. Type 1 Font Format, chapter 5.
    ∷ font_row Z12 (value BlueValues is_absent)
    -- The first number of a standard width is 0 or less. Own.
    ∷ font_row Z13 (each_of width_keys (λ font k index. index == 0 && is_not_above_zero (first_in 1 (value_at font k))))
    -- A zone number has a fraction; the index is its place. Type 1 Font Format, chapter 5.
    ∷ font_row Z14 (each_of zone_keys (λ font k index. has_fraction_at (numbers_at font k) index))
    -- A stem snap is that before it; the index is its place. Type 1 Font Format, chapter 5.
    ∷ font_row Z15 (each_of snap_keys (λ font k index. repeats_at (numbers_at font k) index))
    -- There is no stem snap beside a standard width. Own.
    ∷ font_row Z16 (each_of snap_keys (λ font k index. index == 0 && has_no_snap font k))
    -- BlueScale is 0 or less, or above 0.5. Own.
    ∷ font_row Z17 (value BlueScale (is_number_so is_past_scales))
    -- BlueShift is negative or has a fraction. Type 1 Font Format, chapter 5.
    ∷ font_row Z18 (value BlueShift (is_number_so is_past_shifts))
    -- BlueFuzz isn't whole from 0 to 10. Type 1 Font Format, chapter 5.
    ∷ font_row Z19 (value BlueFuzz (is_number_so is_past_fuzzes))
    ∷ []

-- The part after number 93.
unfoldable pub latest_font_rules : List FontRule
latest_font_rules =
    -- A byte of the clear text is above 126. Type 1 Font Format, chapter 2.
    font_row F22 (once file_key (λ font. has_high_byte font.clear_text))
    -- An entry is given twice. Own.
    ∷ font_row F23 (once encoding_key is_encoding_twice ++ each_of plain_keys (λ font k index. index == 0 && is_key_twice font k))
    -- A word before a charstring isn't defined to read it. Type 1 Font Format, chapter 2.
    ∷ font_row F24 (once file_key has_unread_charstring)
    -- A brace or a bracket has no partner. Own.
    ∷ font_row F25 (once file_key has_unpaired)
    -- A word is neither known nor given. Own.
    ∷ font_row F26 (once file_key has_unknown_word)
    -- FontMatrix has no inverse. Type 1 Font Format, chapter 2.
    ∷ font_row F27 (value FontMatrix is_singular)
    -- No Private dictionary is begun before the Subrs and the CharStrings. Type 1 Font Format, chapter 2.
    ∷ font_row F28 (once file_key lacks_private)
    -- The file begins as no Type 1 font does. Type 1 Font Format, chapter 2.
    ∷ font_row F29 (once file_key (λ font. not (begins_as_type1 font.clear_text)))
    ∷ []

-- The rules on fonts of an edition: the later ones and the latest too, where it has them.
abbrev pub later_rules_in : Edition → List FontRule
later_rules_in edition = if has_later_rules edition then later_font_rules else []

abbrev pub latest_rules_in : Edition → List FontRule
latest_rules_in edition = if has_latest_rules edition then latest_font_rules else []

abbrev pub font_rules : Edition → List FontRule
font_rules edition = first_font_rules ++ (later_rules_in edition ++ latest_rules_in edition)

-- What the tests of a rule say at a key and an index; nothing at a key that none of them has.
abbrev pub says : List KeyTest → FontValue → ℕ → ℕ → Bool
says [] font key index = false
says (t ∷ ts) font key index = if key == t.key then t.is_broken font index else says ts font key index

-- One of the rules is broken by the font at a key and an index, and has this number.
abbrev pub violated : List FontRule → ℕ → FontValue → ℕ → ℕ → Bool
violated rules n font key index = list_any (λ r. says r.tests font key index && number_of r.rule == n) rules
