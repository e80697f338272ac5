-- Why a font breaks a rule at a key and an index: what the rule compares there, and which of that is against it.
use Rattle.std.specs.Prelude.{ℕ, suc, ◌+◌, ◌-◌, ◌*◌, ◌/◌, ◌%◌, ◌==◌, ◌&&◌, ◌||◌, not, Bool, true, false, if◌then◌else◌, nat_eq, nat_lt, int_le, int_lt, ℤ, pos, ◌-ℤ◌, ◌*ℤ◌, unsigned_abs, Option, Some, None, is_some, List, [], ◌∷◌, ◌++◌, length, map}
use Rattle.std.specs.List.{find}
use Rattle.std.specs.Map.{lookup}
use Rattle.std.specs.Option.{unwrap_or}
use Rattle.std.specs.Ordering.{int_eq}
use Rattle.t1_char.specs.declared.edition.Edition.{Edition}
use Rattle.t1_char.specs.Charstrings.{tokens_in}
use Rattle.t1_char.specs.Editions.{has_later_rules, has_latest_rules}
use Rattle.t1_char.specs.Endings.{last_token}
use Rattle.t1_font.specs.declared.key.Key.{Key}
use Rattle.t1_font.specs.declared.key.Key.TheVariants.{FontType, PaintType, UniqueId, PrivateUniqueId, Password, MinFeature, BlueValues, BlueScale, BlueShift, BlueFuzz, FontMatrix, FontBBox, Xuid, LanguageGroup}
use Rattle.t1_font.specs.Fonts.{FontValue, is_subr_twice}
use Rattle.t1_font.specs.Values.{Value, absent, number as one_number, numbers as several_numbers, other as another}
use Rattle.t1_rules.specs.declared.rule.Rule.{Rule}
use Rattle.t1_rules.specs.declared.rule.Rule.TheVariants.{F01, F02, F03, F04, F05, F06, F07, F08, F09, F10, F11, F12, F13, F14, F15, F16, F17, F18, F19, F20, F21, Z01, Z02, Z03, Z04, Z05, Z06, Z07, Z08, Z09, Z10, Z11, Z12, Z13, Z14, Z15, Z16, Z17, Z18, Z19, F22, F23, F24, F25, F26, F27, F28, F29}
use Rattle.t1_rules.specs.Book.{number_of}
use Rattle.t1_rules.specs.FontRules.{font_rules, violated}
use Rattle.t1_rules.specs.FontRules.Encoding.{is_no_form}
use Rattle.t1_rules.specs.FontRules.Hints.{hint_keys, is_past_fuzzes, is_past_scales, is_past_shifts, number_at, numbers_at}
use Rattle.t1_rules.specs.FontRules.Ids.{id_keys, is_whole_to}
use Rattle.t1_rules.specs.FontRules.Stems.{snap_keys, width_keys, width_of}
use Rattle.t1_rules.specs.FontRules.Texts.{plain_keys}
use Rattle.t1_rules.specs.FontRules.Values.{count_in, first_in, is_so_many, is_whole, product_one, whole}
use Rattle.t1_rules.specs.FontRules.Zones.{begins_zone, distance, high_of, low_zone_keys, scale, zone_keys}
use Rattle.t1_rules.specs.Keys.{encoding_key, file_key, index_count, key_among, list_limit_of, subrs_key, value_at, xuid_limit}
use Rattle.t1_scan.specs.Numbers.{billion}
use Rattle.t1_rules.specs.declared.font_rules.zones.Edges.{Edges}
use Rattle.t1_reasons.specs.declared.reason.EntryKind.{EntryKind}
use Rattle.t1_reasons.specs.declared.reason.EntryKind.TheVariants.{Number as OneNumber, Numbers as ManyNumbers}
use Rattle.t1_reasons.specs.declared.reason.Found.{Found}
use Rattle.t1_reasons.specs.declared.reason.Found.TheVariants.{Absent, One, Other, Several}
use Rattle.t1_reasons.specs.declared.reason.Reason.{Reason}
use Rattle.t1_reasons.specs.declared.reason.Reason.TheVariants.{Code, Corners, Entry, FirstLine, Following, Features, Form, Gap, Glyph, Glyphs, Ids, Kind, LastToken, Nothing, Number, Numbers, SubrEntry, TooMany, Width, Zone, Zones}
use Rattle.t1_reasons.specs.StepReasons.{is_any, only_where}
use Rattle.t1_reasons.specs.TextReasons.{bytes_at, determinants_at, is_high_byte, is_zero_determinant, private_unbegun, unknown_word, unpaired_word, unread_word}

-- ---- candidates

-- What an entry is, and its number where it is one.
abbrev pub found_in : Value → Found
found_in absent = Absent
found_in (one_number z) = One z
found_in (several_numbers count first) = Several count
found_in another = Other

abbrev pub entries_at : FontValue → Key → ℕ → List Reason
entries_at font k index = only_where (index == 0) (Entry (found_in (value_at font k)))

-- The two UniqueIDs, where both are numbers.
abbrev pub ids_of : Value → Value → List Reason
ids_of (one_number one) (one_number two) = Ids one two ∷ []
ids_of _ _ = []

abbrev pub ids_at : FontValue → Key → ℕ → List Reason
ids_at font k index = if index == 0 then ids_of (value_at font UniqueId) (value_at font k) else []

-- How many numbers MinFeature has, and the first two of them, where there are two.
abbrev pub features_in : Value → Reason
features_in (several_numbers count (one ∷ (two ∷ first))) = Features (Several count) one two
features_in value = Features (found_in value) (pos 0) (pos 0)

abbrev pub features_at : FontValue → Key → ℕ → List Reason
features_at font k index = only_where (index == 0) (features_in (value_at font k))

-- The form of the Encoding.
abbrev pub forms_at : FontValue → ℕ → List Reason
forms_at font index = only_where (index == 0) (Form font.encoding)

-- A Subr that is there, whether it is given twice, and the size of the array.
abbrev pub subrs_in : FontValue → ℕ → List Reason
subrs_in font n =
    only_where (nat_lt n index_count && is_some (lookup (nat_eq n) font.subrs)) (SubrEntry n (is_subr_twice font n) (unwrap_or font.size 0))

-- What a hint entry that is there is, and what it should be.
abbrev pub wanted_at : Key → EntryKind
wanted_at BlueScale = OneNumber
wanted_at BlueShift = OneNumber
wanted_at BlueFuzz = OneNumber
wanted_at _ = ManyNumbers

abbrev pub is_nothing : Found → Bool
is_nothing Absent = true
is_nothing _ = false

abbrev pub kinds_of : Found → EntryKind → List Reason
kinds_of found wanted = only_where (not (is_nothing found)) (Kind found wanted)

abbrev pub kinds_at : FontValue → Key → ℕ → List Reason
kinds_at font k index = if index == 0 then kinds_of (found_in (value_at font k)) (wanted_at k) else []

-- The two coordinates of one direction that FontBBox's corners have, where it has four numbers.
abbrev pub corners_of : List ℤ → ℕ → List Reason
corners_of (left ∷ (lower ∷ (right ∷ (upper ∷ [])))) index =
    only_where (index == 0) (Corners left right) ++ only_where (index == 1) (Corners lower upper)
corners_of _ index = []

abbrev pub corners_at : FontValue → Key → ℕ → List Reason
corners_at font k index = if is_so_many 4 (value_at font k) then corners_of (first_in 4 (value_at font k)) index else []

-- A number of a list.
abbrev pub listed_in : List ℤ → ℕ → List Reason
listed_in v index = only_where (nat_lt index (length v)) (Number (number_at v index))

-- The first of a standard width, at its own entry, and at stem snaps without a number.
abbrev pub first_of : List ℤ → List Reason
first_of [] = []
first_of (width ∷ widths) = Number width ∷ []

abbrev pub first_widths_at : FontValue → Key → ℕ → List Reason
first_widths_at font k index = if index == 0 then first_of (first_in 1 (value_at font k)) else []

abbrev pub unsnapped_at : FontValue → Key → ℕ → List Reason
unsnapped_at font k index =
    if index == 0 && is_so_many 0 (value_at font k) then first_of (first_in 1 (value_at font (width_of k))) else []

-- The last token of a Subr.
abbrev pub last_token_of : FontValue → Option (List ℕ) → Reason
last_token_of font None = Nothing
last_token_of font (Some code) = LastToken (last_token (tokens_in font code))

-- How many numbers a list has; at the first place that is too much, with its limit.
abbrev pub excess_at : FontValue → Key → ℕ → List Reason
excess_at font k index = only_where (index == list_limit_of k) (TooMany (count_in (value_at font k)) (list_limit_of k))

abbrev pub counts_at : FontValue → Key → ℕ → List Reason
counts_at font k index = only_where (index == 0) (Numbers (count_in (value_at font k)))

-- A number of a list, and the one before it.
abbrev pub falls_in : List ℤ → ℕ → List Reason
falls_in v index = only_where (nat_lt 0 index && nat_lt index (length v)) (Following (number_at v (index - 1)) (number_at v index))

-- A zone that begins here, the one before it, and the distance that zones keep.
abbrev pub gap_in : ℤ → List ℤ → ℕ → List Reason
gap_in d v index = only_where (nat_lt 0 index && begins_zone v index) (Gap (number_at v (index - 1)) (number_at v index) d)

-- The zone that ends here, and BlueScale.
abbrev pub zone_in : ℤ → List ℤ → ℕ → List Reason
zone_in s v index =
    only_where (index % 2 == 1 && nat_lt index (length v)) (Zone (number_at v (index - 1)) (number_at v index) s)

-- A low zone that begins here beside each high one, and the distance that zones keep.
abbrev pub zone_from : List ℤ → ℕ → Edges
zone_from v index = record { lower = number_at v index; upper = number_at v (index + 1) }

abbrev pub zones_in : List ℤ → List Edges
zones_in [] = []
zones_in (a ∷ []) = []
zones_in (a ∷ (b ∷ v)) = record { lower = a; upper = b } ∷ zones_in v

abbrev pub beside_zones : ℤ → Edges → List Edges → List Reason
beside_zones d own others = map (λ other. Zones own other d) others

abbrev pub meetings_in : ℤ → List ℤ → List ℤ → ℕ → List Reason
meetings_in d v others index = if begins_zone v index then beside_zones d (zone_from v index) (zones_in others) else []

abbrev pub meetings_at : FontValue → Key → ℕ → List Reason
meetings_at font k index = meetings_in (distance font) (numbers_at font k) (numbers_at font (high_of k)) index

-- The snap that is nearest to a width, the first of these.
abbrev pub apart : ℤ → ℤ → ℕ
apart one other = unsigned_abs (one -ℤ other)

abbrev pub nearer : ℤ → ℤ → ℤ → ℤ
nearer width one other = if nat_lt (apart width other) (apart width one) then other else one

abbrev pub nearest : ℤ → ℤ → List ℤ → ℤ
nearest width snap [] = snap
nearest width snap (other ∷ snaps) = nearest width (nearer width snap other) snaps

-- The first standard width, and the snap that is nearest.
abbrev pub widths_in : List ℤ → List ℤ → List Reason
widths_in (width ∷ widths) (snap ∷ snaps) = Width width (nearest width snap snaps) ∷ []
widths_in _ _ = []

abbrev pub widths_at : FontValue → Key → ℕ → List Reason
widths_at font k index = if index == 0 then widths_in (first_in 1 (value_at font (width_of k))) (numbers_at font k) else []

-- ---- tests

-- It is this whole number.
abbrev pub is_found_number : ℕ → Found → Bool
is_found_number n (One z) = int_eq z (whole n)
is_found_number n _ = false

-- It is there, and no whole number from 0 to 16777215.
abbrev pub is_no_id : Found → Bool
is_no_id Absent = false
is_no_id (One z) = not (is_whole_to 16777215 z)
is_no_id (Several count) = true
is_no_id Other = true

-- Numbers, and not one.
abbrev pub are_not_one : Found → Bool
are_not_one (Several count) = not (count == 1)
are_not_one _ = false

-- It is so many numbers.
abbrev pub are_so_many : ℕ → Found → Bool
are_so_many n (Several count) = count == n
are_so_many n _ = false

-- It is there, and no list with a number.
abbrev pub has_no_number : Found → Bool
has_no_number Absent = false
has_no_number (One z) = true
has_no_number (Several count) = not (nat_lt 0 count)
has_no_number Other = true

-- It is a number of which this is so.
abbrev pub is_found_so : (ℤ → Bool) → Found → Bool
is_found_so test (One z) = test z
is_found_so test _ = false

-- What an entry isn't by a rule on it alone.
abbrev pub is_wrong_found : Rule → Found → Bool
is_wrong_found F03 found = not (is_found_number 1 found)
is_wrong_found F04 found = not (is_found_number 0 found || is_found_number 2 found)
is_wrong_found F05 found = is_no_id found
is_wrong_found F07 found = not (is_found_number 5839 found)
is_wrong_found F15 found = not (are_so_many 6 found)
is_wrong_found F16 found = not (are_so_many 4 found)
is_wrong_found F18 found = has_no_number found
is_wrong_found F20 found = not (is_nothing found) && not (is_found_number 0 found || is_found_number 1 found)
is_wrong_found Z08 found = are_not_one found
is_wrong_found Z12 found = is_nothing found
is_wrong_found Z17 found = is_found_so is_past_scales found
is_wrong_found Z18 found = is_found_so is_past_shifts found
is_wrong_found Z19 found = is_found_so is_past_fuzzes found
is_wrong_found _ found = false

abbrev pub is_wrong_entry : Rule → Reason → Bool
is_wrong_entry rule (Entry found) = is_wrong_found rule found
is_wrong_entry rule _ = false

-- The same of a number of an entry.
abbrev pub is_wrong_number : Rule → ℤ → Bool
is_wrong_number F19 z = not (is_whole_to 16777215 z)
is_wrong_number Z13 z = int_le z (pos 0)
is_wrong_number Z14 z = not (is_whole z)
is_wrong_number _ z = false

abbrev pub is_wrong_listed : Rule → Reason → Bool
is_wrong_listed rule (Number z) = is_wrong_number rule z
is_wrong_listed rule _ = false

-- A coordinate of one corner is above that of the other.
abbrev pub are_exchanged : Reason → Bool
are_exchanged (Corners first last) = int_lt last first
are_exchanged _ = false

abbrev pub are_two_ids : Reason → Bool
are_two_ids (Ids one other) = not (int_eq one other)
are_two_ids _ = false

abbrev pub are_two : Found → Bool
are_two (Several count) = count == 2
are_two _ = false

abbrev pub is_unusual_feature : Reason → Bool
is_unusual_feature (Features found one two) = not (are_two found && int_eq one (whole 16) && int_eq two (whole 16))
is_unusual_feature _ = false

abbrev pub are_near : Reason → Bool
are_near (Zones own other d) = int_lt (other.lower -ℤ own.upper) d && int_lt (own.lower -ℤ other.upper) d
are_near _ = false

abbrev pub is_apart : Reason → Bool
is_apart (Width width snap) = not (int_eq width snap)
is_apart _ = false

abbrev pub is_unknown_form : Reason → Bool
is_unknown_form (Form encoding) = is_no_form encoding
is_unknown_form _ = false

abbrev pub is_wrong_subr : Reason → Bool
is_wrong_subr (SubrEntry number twice size) = twice || not (nat_lt number size)
is_wrong_subr _ = false

abbrev pub fits : EntryKind → Found → Bool
fits OneNumber (One z) = true
fits ManyNumbers (Several count) = true
fits _ _ = false

abbrev pub is_misfit : Reason → Bool
is_misfit (Kind found wanted) = not (fits wanted found)
is_misfit _ = false

abbrev pub is_excess : Reason → Bool
is_excess (TooMany count most) = nat_lt most count
is_excess _ = false

abbrev pub is_odd : Reason → Bool
is_odd (Numbers count) = count % 2 == 1
is_odd _ = false

abbrev pub falls : Reason → Bool
falls (Following before number) = int_lt number before
falls _ = false

abbrev pub repeats : Reason → Bool
repeats (Following before number) = int_eq number before
repeats _ = false

abbrev pub is_near : Reason → Bool
is_near (Gap upper lower d) = int_lt (lower -ℤ upper) d
is_near _ = false

-- Its height times BlueScale is 1 or more.
abbrev pub reaches_one : Reason → Bool
reaches_one (Zone lower upper s) = int_le product_one ((upper -ℤ lower) *ℤ s)
reaches_one _ = false

-- The greatest BlueScale by which a zone of this height is no longer too high, in units of 10^-9.
abbrev pub scale_for : ℤ → Option ℤ
scale_for (pos (suc height)) = Some (pos ((billion * billion - 1) / suc height))
scale_for _ = None

-- ---- the table

abbrev pub of_key : (Key → List Reason) → Option Key → List Reason
of_key candidates None = []
of_key candidates (Some k) = candidates k

-- At one of these keys, and at no other.
abbrev pub at_keys : List Key → (FontValue → Key → ℕ → List Reason) → FontValue → ℕ → ℕ → List Reason
at_keys keys candidates font key index = of_key (λ k. candidates font k index) (key_among keys key)

abbrev pub at_key : ℕ → (FontValue → ℕ → List Reason) → FontValue → ℕ → ℕ → List Reason
at_key own candidates font key index = if key == own then candidates font index else []

-- What a rule compares at a key and an index, in the order in which it is looked at, and which of it is against the rule.
pub record FontReasonRow : Type 0 where
  pub candidates : FontValue → ℕ → ℕ → List Reason
  pub is_against : Reason → Bool

abbrev pub font_reason_row : (FontValue → ℕ → ℕ → List Reason) → (Reason → Bool) → FontReasonRow
font_reason_row candidates is_against = record { candidates = candidates; is_against = is_against }

-- The row of a rule on entries alone.
abbrev pub entry_row : Rule → List Key → FontReasonRow
entry_row rule keys = font_reason_row (at_keys keys entries_at) (is_wrong_entry rule)

-- What was taken last of an entry that is given twice.
abbrev pub last_of : FontValue → Option Key → Reason
last_of font (Some k) = Entry (found_in (value_at font k))
last_of font None = Form font.encoding

abbrev pub last_given : FontValue → ℕ → Reason
last_given font key = last_of font (key_among plain_keys key)

-- A rule that tells where the font breaks it, and of what.
abbrev pub told_in_font : Rule → FontValue → ℕ → ℕ → Reason
told_in_font F09 font key index = Glyphs (length font.glyphs)
told_in_font F10 font key index = Glyph index
told_in_font F13 font key index = Code index
told_in_font F21 font key index = last_token_of font (lookup (nat_eq index) font.subrs)
told_in_font F23 font key index = last_given font key
told_in_font F24 font key index = unread_word font
told_in_font F25 font key index = unpaired_word font
told_in_font F26 font key index = unknown_word font
told_in_font F28 font key index = private_unbegun font
told_in_font F29 font key index = FirstLine
told_in_font _ font key index = Nothing

abbrev pub told_in_fonts : Edition → Rule → FontValue → ℕ → ℕ → List Reason
told_in_fonts edition rule font key index =
    only_where (violated (font_rules edition) (number_of rule) font key index) (told_in_font rule font key index)

abbrev pub told_font_row : Edition → Rule → FontReasonRow
told_font_row edition rule = font_reason_row (told_in_fonts edition rule) is_any

-- Of a rule that isn't on fonts, or not in the edition.
abbrev pub no_font_row : FontReasonRow
no_font_row = font_reason_row (λ font key index. []) (λ reason. false)

-- The rules on fonts that compare nothing. Z16 tells the standard width that has no snap beside it.
abbrev pub font_rules_that_only_tell : List Rule
font_rules_that_only_tell = F01 ∷ F02 ∷ F09 ∷ F10 ∷ F12 ∷ F13 ∷ F21 ∷ Z16 ∷ F23 ∷ F24 ∷ F25 ∷ F26 ∷ F28 ∷ F29 ∷ []

-- The rows of the rules after number 70, in an edition that has them.
abbrev pub later_font_row : Edition → Rule → FontReasonRow
later_font_row edition F15 = entry_row F15 (FontMatrix ∷ [])
later_font_row edition F16 = entry_row F16 (FontBBox ∷ [])
later_font_row edition F17 = font_reason_row (at_keys (FontBBox ∷ []) corners_at) are_exchanged
later_font_row edition F18 = entry_row F18 (Xuid ∷ [])
later_font_row edition F19 =
    font_reason_row (at_keys (Xuid ∷ []) (λ font k index. listed_in (first_in xuid_limit (value_at font k)) index)) (is_wrong_listed F19)
later_font_row edition F20 = entry_row F20 (LanguageGroup ∷ [])
later_font_row edition F21 = told_font_row edition F21
later_font_row edition Z12 = entry_row Z12 (BlueValues ∷ [])
later_font_row edition Z13 = font_reason_row (at_keys width_keys first_widths_at) (is_wrong_listed Z13)
later_font_row edition Z14 = font_reason_row (at_keys zone_keys (λ font k index. listed_in (numbers_at font k) index)) (is_wrong_listed Z14)
later_font_row edition Z15 = font_reason_row (at_keys snap_keys (λ font k index. falls_in (numbers_at font k) index)) repeats
later_font_row edition Z16 = font_reason_row (at_keys snap_keys unsnapped_at) is_any
later_font_row edition Z17 = entry_row Z17 (BlueScale ∷ [])
later_font_row edition Z18 = entry_row Z18 (BlueShift ∷ [])
later_font_row edition Z19 = entry_row Z19 (BlueFuzz ∷ [])
later_font_row edition _ = no_font_row

-- The rows of the rules after number 93 that compare numbers, in an edition that has them.
abbrev pub latest_font_row : Rule → FontReasonRow
latest_font_row F22 = font_reason_row (at_key file_key bytes_at) is_high_byte
latest_font_row F27 = font_reason_row (at_keys (FontMatrix ∷ []) determinants_at) is_zero_determinant
latest_font_row _ = no_font_row

-- Each rule's row: those of the rules up to number 70, of those after number 93, and the others.
abbrev pub font_row_of : Edition → Rule → FontReasonRow
font_row_of edition F01 = told_font_row edition F01
font_row_of edition F02 = told_font_row edition F02
font_row_of edition F03 = entry_row F03 (FontType ∷ [])
font_row_of edition F04 = entry_row F04 (PaintType ∷ [])
font_row_of edition F05 = entry_row F05 id_keys
font_row_of edition F06 = font_reason_row (at_keys (PrivateUniqueId ∷ []) ids_at) are_two_ids
font_row_of edition F07 = entry_row F07 (Password ∷ [])
font_row_of edition F08 = font_reason_row (at_keys (MinFeature ∷ []) features_at) is_unusual_feature
font_row_of edition F09 = told_font_row edition F09
font_row_of edition F10 = told_font_row edition F10
font_row_of edition F11 = font_reason_row (at_key encoding_key forms_at) is_unknown_form
font_row_of edition F12 = told_font_row edition F12
font_row_of edition F13 = told_font_row edition F13
font_row_of edition F14 = font_reason_row (at_key subrs_key subrs_in) is_wrong_subr
font_row_of edition Z01 = font_reason_row (at_keys hint_keys kinds_at) is_misfit
font_row_of edition Z02 = font_reason_row (at_keys zone_keys excess_at) is_excess
font_row_of edition Z03 = font_reason_row (at_keys zone_keys counts_at) is_odd
font_row_of edition Z04 = font_reason_row (at_keys zone_keys (λ font k index. falls_in (numbers_at font k) index)) falls
font_row_of edition Z05 = font_reason_row (at_keys zone_keys (λ font k index. gap_in (distance font) (numbers_at font k) index)) is_near
font_row_of edition Z06 = font_reason_row (at_keys low_zone_keys meetings_at) are_near
font_row_of edition Z07 = font_reason_row (at_keys zone_keys (λ font k index. zone_in (scale font) (numbers_at font k) index)) reaches_one
font_row_of edition Z08 = entry_row Z08 width_keys
font_row_of edition Z09 = font_reason_row (at_keys snap_keys excess_at) is_excess
font_row_of edition Z10 = font_reason_row (at_keys snap_keys (λ font k index. falls_in (numbers_at font k) index)) falls
font_row_of edition Z11 = font_reason_row (at_keys snap_keys widths_at) is_apart
font_row_of edition F22 = if has_latest_rules edition then latest_font_row F22 else no_font_row
font_row_of edition F23 = told_font_row edition F23
font_row_of edition F24 = told_font_row edition F24
font_row_of edition F25 = told_font_row edition F25
font_row_of edition F26 = told_font_row edition F26
font_row_of edition F27 = if has_latest_rules edition then latest_font_row F27 else no_font_row
font_row_of edition F28 = told_font_row edition F28
font_row_of edition F29 = told_font_row edition F29
font_row_of edition rule = if has_later_rules edition then later_font_row edition rule else no_font_row

-- The first candidate that is against the rule.
abbrev pub first_in_font_row : FontReasonRow → FontValue → ℕ → ℕ → Option Reason
first_in_font_row row font key index = find row.is_against (row.candidates font key index)

abbrev pub font_reason : Edition → FontValue → Rule → ℕ → ℕ → Option Reason
font_reason edition font rule key index = first_in_font_row (font_row_of edition rule) font key index
