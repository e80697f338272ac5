-- Laws of reasons in the entries of a font.
use Rattle.std.proofs.Common.{◌≡◌, ℕ, zero, suc, ◌-◌, ◌*◌, ◌/◌, ◌%◌, ◌<◌, ◌≤◌, ◌==◌, ◌&&◌, ◌||◌, not, Bool, true, false, Some, None, is_some, List, [], ◌∷◌, length, take, drop, slice_get, nat_eq, nat_le, nat_lt, if◌then◌else◌, ℤ, pos, negsuc, neg_ℤ, ◌-ℤ◌, ◌*ℤ◌, ◌≤ℤ◌, ◌↔◌, int_le, refl, sym, ap, ◌∙◌, arith}
use Rattle.std.specs.List.{find, list_all, list_any}
use Rattle.std.specs.Map.{lookup}
use Rattle.std.specs.Option.{unwrap_or}
use Rattle.std.specs.Ordering.{int_eq}
use Rattle.std.proofs.Math.Bool.{and-false, or-false}
use Rattle.std.proofs.lemmas.Bool.{leb-true}
use Rattle.std.proofs.lemmas.Int.{ints}
use Rattle.std.proofs.Math.Nat.{le-div_iff_mul-le, mul_comm}
use Rattle.t1_char.specs.declared.edition.Edition.{Edition}
use Rattle.t1_char.specs.declared.edition.Edition.TheVariants.{Four, One, Three, Two}
use Rattle.t1_char.specs.Editions.{has_later_rules, has_latest_rules}
use Rattle.t1_font.specs.declared.key.Key.{Key}
use Rattle.t1_font.specs.declared.key.Key.TheVariants.{FontType, PaintType, UniqueId, PrivateUniqueId, Password, MinFeature, BlueValues, BlueScale, BlueShift, BlueFuzz, FontMatrix, FontBBox, Xuid, LanguageGroup}
use Rattle.t1_font.specs.Fonts.{FontValue, is_subr_twice}
use Rattle.t1_font.specs.Values.{Value, absent, number as one_number, numbers as several_numbers, other as another}
use Rattle.t1_scan.specs.Numbers.{billion}
use Rattle.t1_rules.specs.declared.rule.Rule.{Rule}
use Rattle.t1_rules.specs.declared.rule.Rule.TheVariants.{F01, F02, F03, F04, F05, F06, F07, F08, F09, F10, F11, F12, F13, F14, F15, F16, F17, F18, F19, F20, F21, Z01, Z02, Z03, Z04, Z05, Z06, Z07, Z08, Z09, Z10, Z11, Z12, Z13, Z14, Z15, Z16, Z17, Z18, Z19, F22, F23, F24, F25, F26, F27, F28, F29}
use Rattle.t1_rules.specs.Book.{last_number_before, number_of}
use Rattle.t1_rules.specs.FontRules.{FontRule, each, each_of, first_font_rules, font_rules, later_font_rules, latest_font_rules, says, violated}
use Rattle.t1_rules.specs.FontRules.Dictionaries.{are_exchanged as corners_exchanged, has_corners_exchanged, has_equal_products, has_number_past_range, is_malformed, is_no_group, is_singular}
use Rattle.t1_rules.specs.FontRules.Encoding.{is_no_form}
use Rattle.t1_rules.specs.FontRules.Hints.{falls_at, has_fraction_at, has_too_many, hint_keys, is_of_another_kind, is_of_kind, is_past_fuzzes, is_past_scales, is_past_shifts, number_at, numbers_at, repeats_at}
use Rattle.t1_rules.specs.FontRules.Ids.{differ, id_keys, is_past_range}
use Rattle.t1_rules.specs.FontRules.Stems.{has_no_snap, is_not_above_zero, is_not_among, is_not_one_width, lacks_snap, snap_keys, width_is_apart, width_keys, width_of}
use Rattle.t1_rules.specs.FontRules.Subrs.{is_wrong_subr as wrong_subr}
use Rattle.t1_rules.specs.FontRules.Values.{count_in, first_in, is_absent, is_number_so, is_numbers, is_one_number, is_sixteen_twice, is_so_many, is_the_number, product_one}
use Rattle.t1_rules.specs.FontRules.Zones.{begins_zone, come_near, comes_near_high, distance, has_odd_count, high_of, is_too_high, is_too_near, low_zone_keys, meets, scale, zone_keys, zones}
use Rattle.t1_rules.specs.Keys.{index_count, key_among, key_number, list_limit_of, value_at, xuid_limit}
use Rattle.t1_rules.proofs.Lemmas.Book.{both}
use Rattle.t1_rules.proofs.Lemmas.FontRules.{in_parts, later_rules_change_no_other}
use Rattle.t1_rules.specs.declared.font_rules.zones.Edges.{Edges}
use Rattle.t1_reasons.specs.declared.reason.EntryKind.TheVariants.{Number as OneNumber, Numbers as ManyNumbers}
use Rattle.t1_reasons.specs.declared.reason.Reason.{Reason}
use Rattle.t1_reasons.specs.declared.reason.Reason.TheVariants.{Corners, Determinant, Entry, Following, Form, Gap, HighByte, Ids, Kind, Number, Numbers, SubrEntry, TooMany, Width, Zone, Zones}
use Rattle.t1_reasons.specs.FontReasons.{FontReasonRow, are_exchanged, are_so_many, corners_at, corners_of, first_of, first_widths_at, is_found_so, is_wrong_entry, is_wrong_found, is_wrong_listed, is_wrong_number, later_font_row, latest_font_row, listed_in, repeats, unsnapped_at, are_near, are_two_ids, at_key, at_keys, counts_at, excess_at, fits, forms_at, is_excess, is_misfit, is_nothing, is_odd, is_unknown_form, is_wrong_subr, kinds_at, kinds_of, subrs_in, wanted_at, beside_zones, entries_at, falls, falls_in, features_at, features_in, first_in_font_row, font_row_of, found_in, gap_in, ids_at, ids_of, is_apart, is_found_number, is_near, is_unusual_feature, meetings_at, meetings_in, nearer, nearest, no_font_row, of_key, reaches_one, scale_for, told_font_row, told_in_font, widths_at, widths_in, zone_from, zone_in, zones_in}
use Rattle.t1_reasons.specs.Laws.{FontReasonsAreAgainstTheirRules, FontsBreakWhereThereIsAReason, OthersCompareNumbersInFonts, ScalesDo}
use Rattle.t1_reasons.specs.StepReasons.{is_any, only_where}
use Rattle.t1_reasons.specs.TextReasons.{bytes_at, bytes_from, determinants_at, determinants_of, is_high_byte, is_zero_determinant, line_after}
use Rattle.t1_words.specs.Headers.{has_high_byte, is_high}
use Rattle.t1_reasons.proofs.LawProofs.{found_such, found_there, one_such, such_in_both, such_where, where_so}

-- No rule of a table has this number.
abbrev without_number : ℕ → List FontRule → Bool
without_number n rules = list_all (λ r. not (number_of r.rule == n)) rules

none_says : (n : ℕ) (rules : List FontRule) → without_number n rules ≡ true → (font : FontValue) (key index : ℕ) → violated rules n font key index ≡ false
none_says n [] other font key index = refl
none_says n (r ∷ rs) other font key index =
    let parts = both (not (number_of r.rule == n)) (without_number n rs) other in
    go (number_of r.rule == n) parts.0 (none_says n rs parts.1 font key index)
  where
    go : (b : Bool) → not b ≡ true → violated rs n font key index ≡ false → (says r.tests font key index && b || violated rs n font key index) ≡ false
    go true e rest = let no : false ≡ true = e in cc
    go false e rest = rw (and-false (says r.tests font key index)) rest

-- The row that alone has its number decides.
pub font_row_decides : (n : ℕ) (rules : List FontRule) (place : ℕ) (r : FontRule) → slice_get rules place ≡ Some r → (number_of r.rule == n) ≡ true
    → without_number n (take place rules) ≡ true → without_number n (drop (suc place) rules) ≡ true
    → (font : FontValue) (key index : ℕ) → violated rules n font key index ≡ says r.tests font key index
font_row_decides n [] place r there own front rest font key index = let no : None ≡ Some r = there in cc
font_row_decides n (q ∷ qs) zero r there own front rest font key index =
    let same : q ≡ r = cc in
    rw (same, own, none_says n qs rest font key index) (last (says r.tests font key index))
  where
    last : (b : Bool) → (b && true || false) ≡ b
    last true = refl
    last false = refl
font_row_decides n (q ∷ qs) (suc place) r there own front rest font key index =
    let parts = both (not (number_of q.rule == n)) (without_number n (take place qs)) front in
    go (number_of q.rule == n) parts.0 (font_row_decides n qs place r there own parts.1 rest font key index)
  where
    go : (b : Bool) → not b ≡ true → violated qs n font key index ≡ says r.tests font key index
        → (says q.tests font key index && b || violated qs n font key index) ≡ says r.tests font key index
    go true e later = let no : false ≡ true = e in cc
    go false e later = rw (and-false (says q.tests font key index)) later

and_true : (b : Bool) → b ≡ (b && true)
and_true true = refl
and_true false = refl

or_false : (b : Bool) → b ≡ (b || false)
or_false true = refl
or_false false = refl

or_assoc : (a b c : Bool) → ((a || b) || c) ≡ (a || (b || c))
or_assoc true b c = refl
or_assoc false b c = refl

unequal : (b : Bool) → not ((b && false) && false) ≡ true
unequal true = refl
unequal false = refl

-- A row that speaks of several keys, and one that speaks of one.
keys_agree : (p : Reason → Bool) (test : FontValue → Key → ℕ → Bool) (candidates : FontValue → Key → ℕ → List Reason)
    → ((font : FontValue) (k : Key) (index : ℕ) → test font k index ≡ is_some (find p (candidates font k index)))
    → (keys : List Key) (font : FontValue) (key index : ℕ)
    → says (each_of keys test) font key index ≡ is_some (find p (at_keys keys candidates font key index))
keys_agree p test candidates agree [] font key index = refl
keys_agree p test candidates agree (k ∷ ks) font key index =
    go (key == key_number k) (agree font k index) (keys_agree p test candidates agree ks font key index)
  where
    go : (b : Bool) → test font k index ≡ is_some (find p (candidates font k index))
        → says (each_of ks test) font key index ≡ is_some (find p (at_keys ks candidates font key index))
        → (if b then test font k index else says (each_of ks test) font key index)
        ≡ is_some (find p (of_key (λ k. candidates font k index) (if b then Some k else key_among ks key)))
    go true here rest = here
    go false here rest = rest

key_agrees : (p : Reason → Bool) (test : FontValue → ℕ → Bool) (candidates : FontValue → ℕ → List Reason)
    → ((font : FontValue) (index : ℕ) → test font index ≡ is_some (find p (candidates font index)))
    → (own : ℕ) (font : FontValue) (key index : ℕ)
    → says (each own test) font key index ≡ is_some (find p (at_key own candidates font key index))
key_agrees p test candidates agree own font key index = go (key == own) (agree font index)
  where
    go : (b : Bool) → test font index ≡ is_some (find p (candidates font index))
        → (if b then test font index else false) ≡ is_some (find p (if b then candidates font index else []))
    go true here = here
    go false here = refl

number_agrees : (n : ℕ) (v : Value) → is_the_number n v ≡ is_found_number n (found_in v)
number_agrees n absent = refl
number_agrees n (one_number z) = refl
number_agrees n (several_numbers count first) = refl
number_agrees n another = refl

-- A rule on an entry alone sees what the entry is.
entry_agrees : (rule : Rule) (test : Value → Bool) → ((v : Value) → test v ≡ is_wrong_found rule (found_in v))
    → (font : FontValue) (k : Key) (index : ℕ) → (index == 0 && test (value_at font k)) ≡ is_some (find (is_wrong_entry rule) (entries_at font k index))
entry_agrees rule test agree font k index =
    rw (agree (value_at font k)) (sym (such_where (index == 0) (is_wrong_entry rule) (Entry (found_in (value_at font k)))))

not_one : (v : Value) → not (is_the_number 1 v) ≡ is_wrong_found F03 (found_in v)
not_one v = ap not (number_agrees 1 v)

not_painted : (v : Value) → not (is_the_number 0 v || is_the_number 2 v) ≡ is_wrong_found F04 (found_in v)
not_painted v = rw (number_agrees 0 v, number_agrees 2 v) refl

not_password : (v : Value) → not (is_the_number 5839 v) ≡ is_wrong_found F07 (found_in v)
not_password v = ap not (number_agrees 5839 v)

id_agrees : (v : Value) → is_past_range v ≡ is_wrong_found F05 (found_in v)
id_agrees absent = refl
id_agrees (one_number z) = refl
id_agrees (several_numbers count first) = refl
id_agrees another = refl

ids_agree : (one two : Value) → differ one two ≡ is_some (find are_two_ids (ids_of one two))
ids_agree absent two = refl
ids_agree (one_number a) absent = refl
ids_agree (one_number a) (one_number b) = sym (one_such are_two_ids (Ids a b))
ids_agree (one_number a) (several_numbers count first) = refl
ids_agree (one_number a) another = refl
ids_agree (several_numbers count first) two = refl
ids_agree another two = refl

differing : (font : FontValue) (k : Key) (index : ℕ)
    → (index == 0 && differ (value_at font UniqueId) (value_at font k)) ≡ is_some (find are_two_ids (ids_at font k index))
differing font k index = where_so (index == 0) are_two_ids (ids_of (value_at font UniqueId) (value_at font k)) (ids_agree (value_at font UniqueId) (value_at font k))

pub feature_agrees : (v : Value) → not (is_sixteen_twice v) ≡ is_unusual_feature (features_in v)
feature_agrees absent = refl
feature_agrees (one_number z) = refl
feature_agrees (several_numbers count []) = sym (unequal (count == 2))
feature_agrees (several_numbers count (a ∷ [])) = sym (unequal (count == 2))
feature_agrees (several_numbers count (a ∷ (b ∷ first))) = refl
feature_agrees another = refl

unusual : (font : FontValue) (k : Key) (index : ℕ)
    → (index == 0 && not (is_sixteen_twice (value_at font k))) ≡ is_some (find is_unusual_feature (features_at font k index))
unusual font k index =
    rw (feature_agrees (value_at font k)) (sym (such_where (index == 0) is_unusual_feature (features_in (value_at font k))))

formed : (font : FontValue) (index : ℕ) → (index == 0 && is_no_form font.encoding) ≡ is_some (find is_unknown_form (forms_at font index))
formed font index = sym (such_where (index == 0) is_unknown_form (Form font.encoding))

wrong : (font : FontValue) (index : ℕ) → wrong_subr font index ≡ is_some (find is_wrong_subr (subrs_in font index))
wrong font n =
    sym (such_where (nat_lt n index_count && is_some (lookup (nat_eq n) font.subrs)) is_wrong_subr
    (SubrEntry n (is_subr_twice font n) (unwrap_or font.size 0)))

one_fits : (v : Value) → is_one_number v ≡ fits OneNumber (found_in v)
one_fits absent = refl
one_fits (one_number z) = refl
one_fits (several_numbers count first) = refl
one_fits another = refl

many_fit : (v : Value) → is_numbers v ≡ fits ManyNumbers (found_in v)
many_fit absent = refl
many_fit (one_number z) = refl
many_fit (several_numbers count first) = refl
many_fit another = refl

kind_fits : (k : Key) (v : Value) → is_of_kind k v ≡ fits (wanted_at k) (found_in v)
kind_fits BlueScale v = one_fits v
kind_fits BlueShift v = one_fits v
kind_fits BlueFuzz v = one_fits v
kind_fits _ v = many_fit v

nothing_there : (v : Value) → is_absent v ≡ is_nothing (found_in v)
nothing_there absent = refl
nothing_there (one_number z) = refl
nothing_there (several_numbers count first) = refl
nothing_there another = refl

of_kind : (font : FontValue) (k : Key) (index : ℕ) → is_of_another_kind k (value_at font k) index ≡ is_some (find is_misfit (kinds_at font k index))
of_kind font k index = go (index == 0)
  where
    v : Value
    v = value_at font k

    here : (not (is_absent v) && not (is_of_kind k v)) ≡ is_some (find is_misfit (kinds_of (found_in v) (wanted_at k)))
    here =
        rw (nothing_there v, kind_fits k v) (sym (such_where (not (is_nothing (found_in v))) is_misfit (Kind (found_in v) (wanted_at k))))

    go : (b : Bool) → ((b && not (is_absent v)) && not (is_of_kind k v))
        ≡ is_some (find is_misfit (if b then kinds_of (found_in v) (wanted_at k) else []))
    go true = here
    go false = refl

many : (font : FontValue) (k : Key) (index : ℕ) → has_too_many k (value_at font k) index ≡ is_some (find is_excess (excess_at font k index))
many font k index = sym (such_where (index == list_limit_of k) is_excess (TooMany (count_in (value_at font k)) (list_limit_of k)))

odd : (font : FontValue) (k : Key) (index : ℕ) → has_odd_count (value_at font k) index ≡ is_some (find is_odd (counts_at font k index))
odd font k index = sym (such_where (index == 0) is_odd (Numbers (count_in (value_at font k))))

width_agrees : (v : Value) → is_not_one_width v ≡ is_wrong_found Z08 (found_in v)
width_agrees absent = refl
width_agrees (one_number z) = refl
width_agrees (several_numbers count first) = refl
width_agrees another = refl

fallen : (v : List ℤ) (index : ℕ) → falls_at v index ≡ is_some (find falls (falls_in v index))
fallen v index = sym (such_where (nat_lt 0 index && nat_lt index (length v)) falls (Following (number_at v (index - 1)) (number_at v index)))

near : (d : ℤ) (v : List ℤ) (index : ℕ) → is_too_near d v index ≡ is_some (find is_near (gap_in d v index))
near d v index = sym (such_where (nat_lt 0 index && begins_zone v index) is_near (Gap (number_at v (index - 1)) (number_at v index) d))

high : (s : ℤ) (v : List ℤ) (index : ℕ) → is_too_high s v index ≡ is_some (find reaches_one (zone_in s v index))
high s v index =
    sym (such_where (index % 2 == 1 && nat_lt index (length v)) reaches_one (Zone (number_at v (index - 1)) (number_at v index) s))

beside_agrees : (d : ℤ) (own : Edges) (others : List ℤ)
    → list_any (come_near d (record { lower = own.lower; upper = own.upper })) (zones others)
    ≡ is_some (find are_near (beside_zones d own (zones_in others)))
beside_agrees d own [] = refl
beside_agrees d own (a ∷ []) = refl
beside_agrees d own (a ∷ (b ∷ v)) =
    sym (such_in_both are_near (Zones own (record { lower = a; upper = b }) d ∷ []) (beside_zones d own (zones_in v))
    ∙ rw (one_such are_near (Zones own (record { lower = a; upper = b }) d), ← beside_agrees d own v) refl)

met : (d : ℤ) (v others : List ℤ) (index : ℕ) → meets d v others index ≡ is_some (find are_near (meetings_in d v others index))
met d v others index = where_so (begins_zone v index) are_near (beside_zones d (zone_from v index) (zones_in others)) (beside_agrees d (zone_from v index) others)

nearer_is : (width one other : ℤ) → int_eq width (nearer width one other) ≡ (int_eq width one || int_eq width other)
nearer_is width one other = grind (arith, ints)

nearest_is : (width snap : ℤ) (snaps : List ℤ) → int_eq width (nearest width snap snaps) ≡ list_any (int_eq width) (snap ∷ snaps)
nearest_is width snap [] = or_false (int_eq width snap)
nearest_is width snap (other ∷ snaps) =
    nearest_is width (nearer width snap other) snaps
    ∙ rw (nearer_is width snap other) (or_assoc (int_eq width snap) (int_eq width other) (list_any (int_eq width) snaps))

among : (widths snaps : List ℤ) → is_not_among widths snaps ≡ is_some (find is_apart (widths_in widths snaps))
among [] snaps = refl
among (width ∷ widths) [] = refl
among (width ∷ widths) (snap ∷ snaps) =
    ap not (sym (nearest_is width snap snaps)) ∙ sym (one_such is_apart (Width width (nearest width snap snaps)))

snapped : (font : FontValue) (k : Key) (index : ℕ)
    → (index == 0 && width_is_apart font k) ≡ is_some (find is_apart (widths_at font k index))
snapped font k index =
    where_so (index == 0) is_apart (widths_in (first_in 1 (value_at font (width_of k))) (numbers_at font k))
    (among (first_in 1 (value_at font (width_of k))) (numbers_at font k))

-- ---- the rules after number 70

so_many_agree : (n : ℕ) (v : Value) → is_so_many n v ≡ are_so_many n (found_in v)
so_many_agree n absent = refl
so_many_agree n (one_number z) = refl
so_many_agree n (several_numbers count first) = refl
so_many_agree n another = refl

not_six : (v : Value) → not (is_so_many 6 v) ≡ is_wrong_found F15 (found_in v)
not_six v = ap not (so_many_agree 6 v)

not_four : (v : Value) → not (is_so_many 4 v) ≡ is_wrong_found F16 (found_in v)
not_four v = ap not (so_many_agree 4 v)

malformed : (v : Value) → is_malformed v ≡ is_wrong_found F18 (found_in v)
malformed absent = refl
malformed (one_number z) = refl
malformed (several_numbers count first) = refl
malformed another = refl

no_group : (v : Value) → is_no_group v ≡ is_wrong_found F20 (found_in v)
no_group v = rw (nothing_there v, number_agrees 0 v, number_agrees 1 v) refl

number_so : (test : ℤ → Bool) (v : Value) → is_number_so test v ≡ is_found_so test (found_in v)
number_so test absent = refl
number_so test (one_number z) = refl
number_so test (several_numbers count first) = refl
number_so test another = refl

exchanged : (v : List ℤ) (index : ℕ) → corners_exchanged v index ≡ is_some (find are_exchanged (corners_of v index))
exchanged [] index = refl
exchanged (a ∷ []) index = refl
exchanged (a ∷ (b ∷ [])) index = refl
exchanged (a ∷ (b ∷ (c ∷ []))) index = refl
exchanged (left ∷ (lower ∷ (right ∷ (upper ∷ [])))) index =
    sym (such_in_both are_exchanged (only_where (index == 0) (Corners left right)) (only_where (index == 1) (Corners lower upper))
    ∙ rw (such_where (index == 0) are_exchanged (Corners left right), such_where (index == 1) are_exchanged (Corners lower upper)) refl)
exchanged (a ∷ (b ∷ (c ∷ (d ∷ (e ∷ v))))) index = refl

exchanged_at : (font : FontValue) (k : Key) (index : ℕ) → has_corners_exchanged (value_at font k) index ≡ is_some (find are_exchanged (corners_at font k index))
exchanged_at font k index =
    where_so (is_so_many 4 (value_at font k)) are_exchanged (corners_of (first_in 4 (value_at font k)) index)
    (exchanged (first_in 4 (value_at font k)) index)

listed : (rule : Rule) (v : List ℤ) (index : ℕ)
    → (nat_lt index (length v) && is_wrong_number rule (number_at v index)) ≡ is_some (find (is_wrong_listed rule) (listed_in v index))
listed rule v index = sym (such_where (nat_lt index (length v)) (is_wrong_listed rule) (Number (number_at v index)))

not_above_zero : (v : List ℤ) → is_not_above_zero v ≡ is_some (find (is_wrong_listed Z13) (first_of v))
not_above_zero [] = refl
not_above_zero (width ∷ widths) = sym (one_such (is_wrong_listed Z13) (Number width))

not_above : (font : FontValue) (k : Key) (index : ℕ)
    → (index == 0 && is_not_above_zero (first_in 1 (value_at font k))) ≡ is_some (find (is_wrong_listed Z13) (first_widths_at font k index))
not_above font k index =
    where_so (index == 0) (is_wrong_listed Z13) (first_of (first_in 1 (value_at font k))) (not_above_zero (first_in 1 (value_at font k)))

repeated : (v : List ℤ) (index : ℕ) → repeats_at v index ≡ is_some (find repeats (falls_in v index))
repeated v index = sym (such_where (nat_lt 0 index && nat_lt index (length v)) repeats (Following (number_at v (index - 1)) (number_at v index)))

unsnapped : (font : FontValue) (k : Key) (index : ℕ) → (index == 0 && has_no_snap font k) ≡ is_some (find is_any (unsnapped_at font k index))
unsnapped font k index = go (index == 0) (first_in 1 (value_at font (width_of k))) (is_so_many 0 (value_at font k)) (lacks (first_in 1 (value_at font (width_of k))) (value_at font k))
  where
    lacks : (widths : List ℤ) (v : Value) → lacks_snap widths v ≡ (is_so_many 0 v && is_some (find is_any (first_of widths)))
    lacks [] v = sym (and-false (is_so_many 0 v))
    lacks (width ∷ widths) v = and_true (is_so_many 0 v)

    go : (b : Bool) (widths : List ℤ) (c : Bool) {test : Bool} → test ≡ (c && is_some (find is_any (first_of widths)))
        → (b && test) ≡ is_some (find is_any (if b && c then first_of widths else []))
    go true widths true same = same
    go true widths false same = same
    go false widths c same = refl

-- A rule that only tells.
told_decides : (edition : Edition) (font : FontValue) (rule : Rule) (key index : ℕ)
    → violated (font_rules edition) (number_of rule) font key index ≡ is_some (first_in_font_row (told_font_row edition rule) font key index)
told_decides edition font rule key index = and_true is_broken ∙ sym (such_where is_broken is_any (told_in_font rule font key index))
  where
    is_broken : Bool
    is_broken = violated (font_rules edition) (number_of rule) font key index

-- A rule that neither the first part of the book has nor the latest says what the later part does, where the edition has that.
later_says : (edition : Edition) (n : ℕ) → without_number n first_font_rules ≡ true → without_number n latest_font_rules ≡ true
    → (font : FontValue) (key index : ℕ)
    → violated (font_rules edition) n font key index ≡ (has_later_rules edition && violated later_font_rules n font key index)
later_says edition n other apart font key index =
    in_parts edition n font key index
    ∙ rw (
      none_says n first_font_rules other font key index,
      none_says n latest_font_rules apart font key index,
      and-false (has_latest_rules edition),
    ) (or-false (has_later_rules edition && violated later_font_rules n font key index))

later_decides : (edition : Edition) (rule : Rule) → without_number (number_of rule) first_font_rules ≡ true
    → without_number (number_of rule) latest_font_rules ≡ true → (font : FontValue) (key index : ℕ) (row : FontReasonRow)
    → violated later_font_rules (number_of rule) font key index ≡ is_some (first_in_font_row row font key index)
    → violated (font_rules edition) (number_of rule) font key index
    ≡ is_some (first_in_font_row (if has_later_rules edition then row else no_font_row) font key index)
later_decides edition rule other apart font key index row same = later_says edition (number_of rule) other apart font key index ∙ go (has_later_rules edition)
  where
    go : (b : Bool) → (b && violated later_font_rules (number_of rule) font key index) ≡ is_some (first_in_font_row (if b then row else no_font_row) font key index)
    go true = same
    go false = refl

-- One of them that only tells.
told_later : (edition : Edition) (rule : Rule) → without_number (number_of rule) first_font_rules ≡ true
    → without_number (number_of rule) latest_font_rules ≡ true → (font : FontValue) (key index : ℕ)
    → violated (font_rules edition) (number_of rule) font key index
    ≡ is_some (first_in_font_row (if has_later_rules edition then told_font_row edition rule else no_font_row) font key index)
told_later edition rule other apart font key index = go (has_later_rules edition) refl
  where
    go : (b : Bool) → has_later_rules edition ≡ b → violated (font_rules edition) (number_of rule) font key index
        ≡ is_some (first_in_font_row (if b then told_font_row edition rule else no_font_row) font key index)
    go true has = told_decides edition font rule key index
    go false has =
        later_says edition (number_of rule) other apart font key index ∙ ap (λ b. b && violated later_font_rules (number_of rule) font key index) has

-- The same of the latest part.
pub latest_says : (edition : Edition) (n : ℕ) → without_number n first_font_rules ≡ true → without_number n later_font_rules ≡ true
    → (font : FontValue) (key index : ℕ)
    → violated (font_rules edition) n font key index ≡ (has_latest_rules edition && violated latest_font_rules n font key index)
latest_says edition n other apart font key index =
    in_parts edition n font key index
    ∙ rw (
      none_says n first_font_rules other font key index,
      none_says n later_font_rules apart font key index,
      and-false (has_later_rules edition),
    ) refl

latest_decides : (edition : Edition) (rule : Rule) → without_number (number_of rule) first_font_rules ≡ true
    → without_number (number_of rule) later_font_rules ≡ true → (font : FontValue) (key index : ℕ) (row : FontReasonRow)
    → violated latest_font_rules (number_of rule) font key index ≡ is_some (first_in_font_row row font key index)
    → violated (font_rules edition) (number_of rule) font key index
    ≡ is_some (first_in_font_row (if has_latest_rules edition then row else no_font_row) font key index)
latest_decides edition rule other apart font key index row same = latest_says edition (number_of rule) other apart font key index ∙ go (has_latest_rules edition)
  where
    go : (b : Bool) → (b && violated latest_font_rules (number_of rule) font key index) ≡ is_some (first_in_font_row (if b then row else no_font_row) font key index)
    go true = same
    go false = refl

high_in : (line : ℕ) (is_behind : Bool) (text : List ℕ) → has_high_byte text ≡ is_some (find is_high_byte (bytes_from line is_behind text))
high_in line is_behind [] = refl
high_in line is_behind (byte ∷ bytes) = go (is_high byte) (high_in (line_after line is_behind byte) (byte == 13) bytes)
  where
    rest : List Reason
    rest = bytes_from (line_after line is_behind byte) (byte == 13) bytes

    go : (b : Bool) → has_high_byte bytes ≡ is_some (find is_high_byte rest)
        → (b || has_high_byte bytes) ≡ is_some (if b then Some (HighByte line byte) else find is_high_byte rest)
    go true later = refl
    go false later = later

high_at : (font : FontValue) (index : ℕ) → (index == 0 && has_high_byte font.clear_text) ≡ is_some (find is_high_byte (bytes_at font index))
high_at font index = where_so (index == 0) is_high_byte (bytes_from 1 false font.clear_text) (high_in 1 false font.clear_text)

equal_products : (v : List ℤ) → has_equal_products v ≡ is_some (find is_zero_determinant (determinants_of v))
equal_products [] = refl
equal_products (a ∷ []) = refl
equal_products (a ∷ (b ∷ [])) = refl
equal_products (a ∷ (b ∷ (c ∷ []))) = refl
equal_products (a ∷ (b ∷ (c ∷ (d ∷ more)))) = sym (one_such is_zero_determinant (Determinant a b c d))

singular_at : (font : FontValue) (k : Key) (index : ℕ)
    → (index == 0 && is_singular (value_at font k)) ≡ is_some (find is_zero_determinant (determinants_at font k index))
singular_at font k index =
    go (index == 0)
    (where_so (is_so_many 6 (value_at font k)) is_zero_determinant (determinants_of (first_in 6 (value_at font k)))
    (equal_products (first_in 6 (value_at font k))))
  where
    v : List Reason
    v = determinants_of (first_in 6 (value_at font k))

    go : (b : Bool) → is_singular (value_at font k) ≡ is_some (find is_zero_determinant (if is_so_many 6 (value_at font k) then v else []))
        → (b && is_singular (value_at font k)) ≡ is_some (find is_zero_determinant (if b && is_so_many 6 (value_at font k) then v else []))
    go true same = same
    go false same = refl

-- The row of a rule up to number 70 decides, in the first part of the book.
first_decides : (edition : Edition) (n place : ℕ) (r : FontRule) → nat_le n last_number_before ≡ true → slice_get first_font_rules place ≡ Some r
    → (number_of r.rule == n) ≡ true → without_number n (take place first_font_rules) ≡ true → without_number n (drop (suc place) first_font_rules) ≡ true
    → (font : FontValue) (key index : ℕ) → violated (font_rules edition) n font key index ≡ says r.tests font key index
first_decides edition n place r few there own front rest font key index =
    later_rules_change_no_other edition n font key index (leb-true n last_number_before few)
    ∙ font_row_decides n first_font_rules place r there own front rest font key index

-- ---- all of them

pub fonts_broken_where_reason : FontsBreakWhereThereIsAReason
unfolding first_font_rules later_font_rules latest_font_rules
fonts_broken_where_reason edition font F03 key index =
    first_decides edition 3 2 _ refl refl refl refl refl font key index
    ∙ keys_agree (is_wrong_entry F03) (λ font k index. index == 0 && not (is_the_number 1 (value_at font k))) entries_at (entry_agrees F03 (λ v. not (is_the_number 1 v)) not_one) (FontType ∷ []) font key index
fonts_broken_where_reason edition font F04 key index =
    first_decides edition 4 3 _ refl refl refl refl refl font key index
    ∙ keys_agree (is_wrong_entry F04) (λ font k index. index == 0 && not (is_the_number 0 (value_at font k) || is_the_number 2 (value_at font k))) entries_at (entry_agrees F04 (λ v. not (is_the_number 0 v || is_the_number 2 v)) not_painted) (PaintType ∷ []) font key index
fonts_broken_where_reason edition font F05 key index =
    first_decides edition 5 4 _ refl refl refl refl refl font key index
    ∙ keys_agree (is_wrong_entry F05) (λ font k index. index == 0 && is_past_range (value_at font k)) entries_at (entry_agrees F05 is_past_range id_agrees) id_keys font key index
fonts_broken_where_reason edition font F06 key index =
    first_decides edition 6 5 _ refl refl refl refl refl font key index
    ∙ keys_agree are_two_ids (λ font k index. index == 0 && differ (value_at font UniqueId) (value_at font k)) ids_at differing (PrivateUniqueId ∷ []) font key index
fonts_broken_where_reason edition font F07 key index =
    first_decides edition 7 6 _ refl refl refl refl refl font key index
    ∙ keys_agree (is_wrong_entry F07) (λ font k index. index == 0 && not (is_the_number 5839 (value_at font k))) entries_at (entry_agrees F07 (λ v. not (is_the_number 5839 v)) not_password) (Password ∷ []) font key index
fonts_broken_where_reason edition font F08 key index =
    first_decides edition 8 7 _ refl refl refl refl refl font key index
    ∙ keys_agree is_unusual_feature (λ font k index. index == 0 && not (is_sixteen_twice (value_at font k))) features_at unusual (MinFeature ∷ []) font key index
fonts_broken_where_reason edition font F11 key index =
    first_decides edition 11 10 _ refl refl refl refl refl font key index
    ∙ key_agrees is_unknown_form (λ font index. index == 0 && is_no_form font.encoding) forms_at formed 4 font key index
fonts_broken_where_reason edition font F14 key index =
    first_decides edition 14 13 _ refl refl refl refl refl font key index ∙ key_agrees is_wrong_subr wrong_subr subrs_in wrong 20 font key index
fonts_broken_where_reason edition font Z01 key index =
    first_decides edition 15 14 _ refl refl refl refl refl font key index
    ∙ keys_agree is_misfit (λ font k index. is_of_another_kind k (value_at font k) index) kinds_at of_kind hint_keys font key index
fonts_broken_where_reason edition font Z02 key index =
    first_decides edition 16 15 _ refl refl refl refl refl font key index
    ∙ keys_agree is_excess (λ font k index. has_too_many k (value_at font k) index) excess_at many zone_keys font key index
fonts_broken_where_reason edition font Z03 key index =
    first_decides edition 17 16 _ refl refl refl refl refl font key index
    ∙ keys_agree is_odd (λ font k index. has_odd_count (value_at font k) index) counts_at odd zone_keys font key index
fonts_broken_where_reason edition font Z04 key index =
    first_decides edition 18 17 _ refl refl refl refl refl font key index
    ∙ keys_agree falls (λ font k index. falls_at (numbers_at font k) index) (λ font k index. falls_in (numbers_at font k) index) (λ font k index. fallen (numbers_at font k) index) zone_keys font key index
fonts_broken_where_reason edition font Z05 key index =
    first_decides edition 19 18 _ refl refl refl refl refl font key index
    ∙ keys_agree is_near (λ font k index. is_too_near (distance font) (numbers_at font k) index) (λ font k index. gap_in (distance font) (numbers_at font k) index) (λ font k index. near (distance font) (numbers_at font k) index) zone_keys font key index
fonts_broken_where_reason edition font Z06 key index =
    first_decides edition 20 19 _ refl refl refl refl refl font key index
    ∙ keys_agree are_near comes_near_high meetings_at (λ font k index. met (distance font) (numbers_at font k) (numbers_at font (high_of k)) index) low_zone_keys font key index
fonts_broken_where_reason edition font Z07 key index =
    first_decides edition 21 20 _ refl refl refl refl refl font key index
    ∙ keys_agree reaches_one (λ font k index. is_too_high (scale font) (numbers_at font k) index) (λ font k index. zone_in (scale font) (numbers_at font k) index) (λ font k index. high (scale font) (numbers_at font k) index) zone_keys font key index
fonts_broken_where_reason edition font Z08 key index =
    first_decides edition 22 21 _ refl refl refl refl refl font key index
    ∙ keys_agree (is_wrong_entry Z08) (λ font k index. index == 0 && is_not_one_width (value_at font k)) entries_at (entry_agrees Z08 is_not_one_width width_agrees) width_keys font key index
fonts_broken_where_reason edition font Z09 key index =
    first_decides edition 23 22 _ refl refl refl refl refl font key index
    ∙ keys_agree is_excess (λ font k index. has_too_many k (value_at font k) index) excess_at many snap_keys font key index
fonts_broken_where_reason edition font Z10 key index =
    first_decides edition 24 23 _ refl refl refl refl refl font key index
    ∙ keys_agree falls (λ font k index. falls_at (numbers_at font k) index) (λ font k index. falls_in (numbers_at font k) index) (λ font k index. fallen (numbers_at font k) index) snap_keys font key index
fonts_broken_where_reason edition font Z11 key index =
    first_decides edition 25 24 _ refl refl refl refl refl font key index
    ∙ keys_agree is_apart (λ font k index. index == 0 && width_is_apart font k) widths_at snapped snap_keys font key index
fonts_broken_where_reason edition font F15 key index = later_decides edition F15 refl refl font key index (later_font_row edition F15)
    (font_row_decides 71 later_font_rules 0 _ refl refl refl refl font key index
    ∙ keys_agree (is_wrong_entry F15) (λ font k index. index == 0 && not (is_so_many 6 (value_at font k))) entries_at (entry_agrees F15 (λ v. not (is_so_many 6 v)) not_six) (FontMatrix ∷ []) font key index)
fonts_broken_where_reason edition font F16 key index = later_decides edition F16 refl refl font key index (later_font_row edition F16)
    (font_row_decides 72 later_font_rules 1 _ refl refl refl refl font key index
    ∙ keys_agree (is_wrong_entry F16) (λ font k index. index == 0 && not (is_so_many 4 (value_at font k))) entries_at (entry_agrees F16 (λ v. not (is_so_many 4 v)) not_four) (FontBBox ∷ []) font key index)
fonts_broken_where_reason edition font F17 key index = later_decides edition F17 refl refl font key index (later_font_row edition F17)
    (font_row_decides 73 later_font_rules 2 _ refl refl refl refl font key index
    ∙ keys_agree are_exchanged (λ font k index. has_corners_exchanged (value_at font k) index) corners_at exchanged_at (FontBBox ∷ []) font key index)
fonts_broken_where_reason edition font F18 key index = later_decides edition F18 refl refl font key index (later_font_row edition F18)
    (font_row_decides 74 later_font_rules 3 _ refl refl refl refl font key index
    ∙ keys_agree (is_wrong_entry F18) (λ font k index. index == 0 && is_malformed (value_at font k)) entries_at (entry_agrees F18 is_malformed malformed) (Xuid ∷ []) font key index)
fonts_broken_where_reason edition font F19 key index = later_decides edition F19 refl refl font key index (later_font_row edition F19)
    (font_row_decides 75 later_font_rules 4 _ refl refl refl refl font key index
    ∙ keys_agree (is_wrong_listed F19) (λ font k index. has_number_past_range (value_at font k) index) (λ font k index. listed_in (first_in xuid_limit (value_at font k)) index) (λ font k index. listed F19 (first_in xuid_limit (value_at font k)) index) (Xuid ∷ []) font key index)
fonts_broken_where_reason edition font F20 key index = later_decides edition F20 refl refl font key index (later_font_row edition F20)
    (font_row_decides 76 later_font_rules 5 _ refl refl refl refl font key index
    ∙ keys_agree (is_wrong_entry F20) (λ font k index. index == 0 && is_no_group (value_at font k)) entries_at (entry_agrees F20 is_no_group no_group) (LanguageGroup ∷ []) font key index)
fonts_broken_where_reason edition font Z12 key index = later_decides edition Z12 refl refl font key index (later_font_row edition Z12)
    (font_row_decides 78 later_font_rules 7 _ refl refl refl refl font key index
    ∙ keys_agree (is_wrong_entry Z12) (λ font k index. index == 0 && is_absent (value_at font k)) entries_at (entry_agrees Z12 is_absent nothing_there) (BlueValues ∷ []) font key index)
fonts_broken_where_reason edition font Z13 key index = later_decides edition Z13 refl refl font key index (later_font_row edition Z13)
    (font_row_decides 79 later_font_rules 8 _ refl refl refl refl font key index
    ∙ keys_agree (is_wrong_listed Z13) (λ font k index. index == 0 && is_not_above_zero (first_in 1 (value_at font k))) first_widths_at not_above width_keys font key index)
fonts_broken_where_reason edition font Z14 key index = later_decides edition Z14 refl refl font key index (later_font_row edition Z14)
    (font_row_decides 80 later_font_rules 9 _ refl refl refl refl font key index
    ∙ keys_agree (is_wrong_listed Z14) (λ font k index. has_fraction_at (numbers_at font k) index) (λ font k index. listed_in (numbers_at font k) index) (λ font k index. listed Z14 (numbers_at font k) index) zone_keys font key index)
fonts_broken_where_reason edition font Z15 key index = later_decides edition Z15 refl refl font key index (later_font_row edition Z15)
    (font_row_decides 81 later_font_rules 10 _ refl refl refl refl font key index
    ∙ keys_agree repeats (λ font k index. repeats_at (numbers_at font k) index) (λ font k index. falls_in (numbers_at font k) index) (λ font k index. repeated (numbers_at font k) index) snap_keys font key index)
fonts_broken_where_reason edition font Z16 key index = later_decides edition Z16 refl refl font key index (later_font_row edition Z16)
    (font_row_decides 82 later_font_rules 11 _ refl refl refl refl font key index
    ∙ keys_agree is_any (λ font k index. index == 0 && has_no_snap font k) unsnapped_at unsnapped snap_keys font key index)
fonts_broken_where_reason edition font Z17 key index = later_decides edition Z17 refl refl font key index (later_font_row edition Z17)
    (font_row_decides 83 later_font_rules 12 _ refl refl refl refl font key index
    ∙ keys_agree (is_wrong_entry Z17) (λ font k index. index == 0 && (is_number_so is_past_scales) (value_at font k)) entries_at (entry_agrees Z17 (is_number_so is_past_scales) (number_so is_past_scales)) (BlueScale ∷ []) font key index)
fonts_broken_where_reason edition font Z18 key index = later_decides edition Z18 refl refl font key index (later_font_row edition Z18)
    (font_row_decides 84 later_font_rules 13 _ refl refl refl refl font key index
    ∙ keys_agree (is_wrong_entry Z18) (λ font k index. index == 0 && (is_number_so is_past_shifts) (value_at font k)) entries_at (entry_agrees Z18 (is_number_so is_past_shifts) (number_so is_past_shifts)) (BlueShift ∷ []) font key index)
fonts_broken_where_reason edition font Z19 key index = later_decides edition Z19 refl refl font key index (later_font_row edition Z19)
    (font_row_decides 85 later_font_rules 14 _ refl refl refl refl font key index
    ∙ keys_agree (is_wrong_entry Z19) (λ font k index. index == 0 && (is_number_so is_past_fuzzes) (value_at font k)) entries_at (entry_agrees Z19 (is_number_so is_past_fuzzes) (number_so is_past_fuzzes)) (BlueFuzz ∷ []) font key index)
fonts_broken_where_reason edition font F01 key index = told_decides edition font F01 key index
fonts_broken_where_reason edition font F02 key index = told_decides edition font F02 key index
fonts_broken_where_reason edition font F09 key index = told_decides edition font F09 key index
fonts_broken_where_reason edition font F10 key index = told_decides edition font F10 key index
fonts_broken_where_reason edition font F12 key index = told_decides edition font F12 key index
fonts_broken_where_reason edition font F13 key index = told_decides edition font F13 key index
fonts_broken_where_reason edition font F22 key index = latest_decides edition F22 refl refl font key index (latest_font_row F22)
    (font_row_decides 94 latest_font_rules 0 _ refl refl refl refl font key index
    ∙ key_agrees is_high_byte (λ font index. index == 0 && has_high_byte font.clear_text) bytes_at high_at 0 font key index)
fonts_broken_where_reason edition font F23 key index = told_decides edition font F23 key index
fonts_broken_where_reason edition font F24 key index = told_decides edition font F24 key index
fonts_broken_where_reason edition font F25 key index = told_decides edition font F25 key index
fonts_broken_where_reason edition font F26 key index = told_decides edition font F26 key index
fonts_broken_where_reason edition font F27 key index = latest_decides edition F27 refl refl font key index (latest_font_row F27)
    (font_row_decides 99 latest_font_rules 5 _ refl refl refl refl font key index
    ∙ keys_agree is_zero_determinant (λ font k index. index == 0 && is_singular (value_at font k)) determinants_at singular_at (FontMatrix ∷ []) font key index)
fonts_broken_where_reason edition font F28 key index = told_decides edition font F28 key index
fonts_broken_where_reason edition font F29 key index = told_decides edition font F29 key index
fonts_broken_where_reason edition font F21 key index = told_later edition F21 refl refl font key index
fonts_broken_where_reason edition font rule key index =
    later_decides edition rule refl refl font key index no_font_row (none_says (number_of rule) later_font_rules refl font key index)

-- The rules that compare nothing.
pub others_compare : OthersCompareNumbersInFonts
others_compare _ F21 is = refl
others_compare _ Z16 is = refl
others_compare _ F23 is = refl
others_compare _ F24 is = refl
others_compare _ F25 is = refl
others_compare _ F26 is = refl
others_compare _ F28 is = refl
others_compare _ F29 is = refl
others_compare One _ is = is
others_compare Two _ is = is
others_compare Three _ is = is
others_compare Four _ is = is

pub reasons_are_against : FontReasonsAreAgainstTheirRules
reasons_are_against edition font rule key index reason e = record {
  there = found_there (font_row_of edition rule).is_against ((font_row_of edition rule).candidates font key index) reason e;
  against = found_such (font_row_of edition rule).is_against ((font_row_of edition rule).candidates font key index) reason e;
}

-- ---- what would do

fits_below : (k n one : ℕ) → 0 < k → k * n < one → n ≤ (one - 1) / k
fits_below k n one some less = (le-div_iff_mul-le some).1 (omega (arith, less, mul_comm n k))

under : (k n one : ℕ) → 0 < k → 0 < one → n ≤ (one - 1) / k → k * n < one
under k n one some more most =
    let product : n * k ≤ one - 1 = (le-div_iff_mul-le some).0 most in
    omega (arith, product, mul_comm n k)

product_is : (k n : ℕ) → (pos k *ℤ pos n) ≡ pos (k * n)
product_is k n = refl

never : (one m : ℕ) → 0 < one → int_le (pos one) (neg_ℤ (pos m)) ≡ false
never one zero more = grind (arith, ints)
never one (suc m) more = refl

does : (k one : ℕ) → 0 < k → 0 < one → (s : ℤ) → (int_le (pos one) (pos k *ℤ s) ≡ false) ↔ (s ≤ℤ pos ((one - 1) / k))
does k one some more (pos n) = (
  λ e. let less : k * n < one = grind (arith, ints, e) in let within : n ≤ (one - 1) / k = fits_below k n one some less in grind (arith, ints, within),
  λ le. let within : n ≤ (one - 1) / k = grind (arith, ints, le) in let less : k * n < one = under k n one some more within in grind (arith, ints, less),
)
does k one some more (negsuc n) = (λ e. grind (arith, ints), λ le. never one (k * suc n) more)

pub scales_do : ScalesDo
scales_do lower upper scale e s = go (upper -ℤ lower) e
  where
    go : (height : ℤ) → scale_for height ≡ Some scale → (int_le product_one (height *ℤ s) ≡ false) ↔ (s ≤ℤ scale)
    go (pos zero) e = let no : None ≡ Some scale = e in cc
    go (pos (suc h)) e =
        let same : pos ((billion * billion - 1) / suc h) ≡ scale = cc in
        rw (← same) (does (suc h) (billion * billion) (omega arith) (omega arith) s)
    go (negsuc h) e = let no : None ≡ Some scale = e in cc

-- A zone that isn't higher than 0 never reaches one by a BlueScale from 0 on.
pub low_never_reaches : (height s : ℤ) → scale_for height ≡ None → pos 0 ≤ℤ s → int_le product_one (height *ℤ s) ≡ false
low_never_reaches (pos zero) (pos n) is least = grind (arith, ints)
low_never_reaches (pos zero) (negsuc n) is least = absurd (grind (arith, ints, least))
low_never_reaches (pos (suc h)) s is least = let other : Some _ ≡ None = is in cc
low_never_reaches (negsuc h) (pos n) is least = never (billion * billion) (suc h * n) (omega arith)
low_never_reaches (negsuc h) (negsuc n) is least = absurd (grind (arith, ints, least))
