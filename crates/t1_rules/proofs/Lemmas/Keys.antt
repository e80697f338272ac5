-- No rule is broken past the places of a key.
use Rattle.std.proofs.Common.{nat_le, if◌then◌else◌, ◌||◌, ap, inl, inr, slice_index_or, ◌≡◌, ℕ, zero, suc, ◌+◌, ◌%◌, ◌<◌, ◌≤◌, ◌==◌, ◌&&◌, Bool, true, false, None, nat_eq, nat_lt, ℤ, List, [], ◌∷◌, length, refl, ◌∙◌, arith}
use Rattle.std.proofs.Math.Bool.{and-false}
use Rattle.std.proofs.lemmas.Bool.{ne_eqb, le-ltb, ltb-true, le-leb, leb-true}
use Rattle.std.proofs.lemmas.List.{length-take}
use Rattle.std.specs.Map.{lookup}
use Rattle.std.specs.List.{list_all}
use Rattle.t1_char.specs.Editions.{has_later_rules, has_latest_rules}
use Rattle.t1_char.specs.declared.edition.Edition.{Edition}
use Rattle.t1_char.specs.declared.edition.Edition.TheVariants.{Four, One, Three, Two}
use Rattle.t1_font.specs.Fonts.{FontValue, is_key_twice}
use Rattle.t1_font.specs.Values.{Value, absent, number, numbers, other}
use Rattle.t1_font.specs.declared.key.Key.{Key}
use Rattle.t1_font.specs.declared.key.Key.TheVariants as keys
use Rattle.t1_rules.specs.Laws.FontRules.{NothingIsBrokenPastLast, NothingIsBrokenPastPlaces}
use Rattle.t1_rules.specs.Keys.{value_at, subr_places, glyph_places, places_of, places_by_key}
use Rattle.t1_rules.specs.FontRules.Dictionaries.{are_exchanged}
use Rattle.t1_rules.specs.FontRules.Texts.{plain_keys}
use Rattle.t1_rules.specs.FontRules.Values.{first_in, is_so_many}
use Rattle.t1_rules.specs.FontRules.Hints.{falls_at, has_fraction_at, numbers_at, repeats_at}
use Rattle.t1_rules.specs.FontRules.Zones.{distance, scale, is_too_near, meets, is_too_high}
use Rattle.t1_rules.specs.FontRules.Subrs.{is_wrong_subr, lacks_return}
use Rattle.t1_rules.specs.FontRules.Glyphs.{is_glyph_given_twice}
use Rattle.t1_rules.specs.FontRules.{FontRule, KeyTest, each_of, first_font_rules, later_font_rules, latest_font_rules, says, violated}
use Rattle.t1_rules.proofs.Lemmas.Book.{both}
use Rattle.t1_rules.proofs.Lemmas.FontRules.{first_past, in_parts, later_past, past_last}

differs : (m n : ℕ) → n < m → (m == n) ≡ false
differs m n less = ne_eqb m n (λ e. omega arith)

within : (limit : ℕ) (value : Value) → length (first_in limit value) ≤ limit
within limit absent = omega arith
within limit (number z) = omega arith
within limit (numbers count first) = let taken = length-take limit first in omega arith
within limit other = omega arith

pub falls_past : (v : List ℤ) (index : ℕ) → length v ≤ index → falls_at v index ≡ false
falls_past v index past = rw (le-ltb index (length v) past, and-false (nat_lt 0 index)) refl

pub near_past : (d : ℤ) (v : List ℤ) (index : ℕ) → length v ≤ index → is_too_near d v index ≡ false
near_past d v index past = rw (le-ltb (index + 1) (length v) (omega arith), and-false (index % 2 == 0), and-false (nat_lt 0 index)) refl

pub meets_past : (d : ℤ) (v others : List ℤ) (index : ℕ) → length v ≤ index → meets d v others index ≡ false
meets_past d v others index past = rw (le-ltb (index + 1) (length v) (omega arith), and-false (index % 2 == 0)) refl

pub high_past : (s : ℤ) (v : List ℤ) (index : ℕ) → length v ≤ index → is_too_high s v index ≡ false
high_past s v index past = rw (le-ltb index (length v) past, and-false (index % 2 == 1)) refl

-- The numbers of a list of zones say nothing past their last place.
pub zones_past : (font : FontValue) (v : List ℤ) (index : ℕ) → length v ≤ index →
    (falls_at v index ≡ false) × (is_too_near (distance font) v index ≡ false) × (is_too_high (scale font) v index ≡ false)
zones_past font v index past =
    (falls_past v index past, near_past (distance font) v index past, high_past (scale font) v index past)

pub fraction_past : (v : List ℤ) (index : ℕ) → length v ≤ index → has_fraction_at v index ≡ false
fraction_past v index past = rw (le-ltb index (length v) past) refl

exchanged_past : (v : List ℤ) (index : ℕ) → 2 ≤ index → are_exchanged v index ≡ false
exchanged_past [] index past = refl
exchanged_past (a ∷ []) index past = refl
exchanged_past (a ∷ (b ∷ [])) index past = refl
exchanged_past (a ∷ (b ∷ (c ∷ []))) index past = refl
exchanged_past (a ∷ (b ∷ (c ∷ (d ∷ [])))) index past = rw (differs index 0 (omega arith), differs index 1 (omega arith)) refl
exchanged_past (a ∷ (b ∷ (c ∷ (d ∷ (e ∷ v))))) index past = refl

pub repeats_past : (v : List ℤ) (index : ℕ) → length v ≤ index → repeats_at v index ≡ false
repeats_past v index past = rw (le-ltb index (length v) past, and-false (nat_lt 0 index)) refl

lookup_past : (subrs : List (ℕ × List ℕ)) (index : ℕ) → index < 65536 → subr_places subrs ≤ index → lookup (nat_eq index) subrs ≡ None
lookup_past [] index small past = refl
lookup_past (subr ∷ subrs) index small past =
    let apart : nat_eq index subr.0 ≡ false = ne_eqb index subr.0 (λ e. omega arith) in
    rw apart (lookup_past subrs index small (omega arith))

wrong_subr_past : (font : FontValue) (index : ℕ) → subr_places font.subrs ≤ index → is_wrong_subr font index ≡ false
wrong_subr_past font index past = go (nat_lt index 65536) refl
  where
    go : (b : Bool) → nat_lt index 65536 ≡ b → is_wrong_subr font index ≡ false
    go true e = rw (lookup_past font.subrs index (ltb-true index 65536 e) past, and-false (nat_lt index 65536)) refl
    go false e = rw e refl

no_return_past : (font : FontValue) (index : ℕ) → subr_places font.subrs ≤ index → lacks_return font index ≡ false
no_return_past font index past = go (nat_lt index 65536) refl
  where
    go : (b : Bool) → nat_lt index 65536 ≡ b → lacks_return font index ≡ false
    go true e = rw (lookup_past font.subrs index (ltb-true index 65536 e) past, and-false (nat_lt index 65536)) refl
    go false e = rw e refl

glyph_twice_past : (font : FontValue) (index : ℕ) → glyph_places font ≤ index → is_glyph_given_twice font index ≡ false
glyph_twice_past font index past = go (nat_lt index 65536) refl
  where
    go : (b : Bool) → nat_lt index 65536 ≡ b → is_glyph_given_twice font index ≡ false
    go true e =
        let small = ltb-true index 65536 e in
        rw (le-ltb index (length font.glyphs) (omega arith), and-false (nat_lt index 65536)) refl
    go false e = rw e refl

-- The rules that are said of an entry as a whole are at index 0.
first_past_places : (edition : Edition) (font : FontValue) (key index : ℕ) → places_of edition font key ≤ index → (n : ℕ)
    → violated first_font_rules n font key index ≡ false
unfolding first_font_rules
first_past_places edition font zero index past n = rw (differs index 0 past) refl
first_past_places edition font (suc zero) index past n = rw (differs index 0 past) refl
first_past_places edition font (suc (suc zero)) index past n = rw (differs index 0 past) refl
first_past_places edition font (suc (suc (suc zero))) index past n = rw (differs index 0 past) refl
first_past_places edition font (suc (suc (suc (suc zero)))) index past n = rw (differs index 0 (omega arith), le-ltb index 256 past) refl
first_past_places edition font (suc (suc (suc (suc (suc zero))))) index past n = rw (differs index 0 past) refl
first_past_places edition font (suc (suc (suc (suc (suc (suc zero)))))) index past n = rw (differs index 0 past) refl
first_past_places edition font (suc (suc (suc (suc (suc (suc (suc zero))))))) index past n = rw (differs index 0 past) refl
first_past_places edition font (suc (suc (suc (suc (suc (suc (suc (suc zero)))))))) index past n = refl
first_past_places edition font (suc (suc (suc (suc (suc (suc (suc (suc (suc zero))))))))) index past n =
    let few = within 14 (value_at font keys.BlueValues) in
    let zones = zones_past font (numbers_at font keys.BlueValues) index (omega arith) in
    rw (differs index 0 (omega arith), differs index 14 past, zones.0, zones.1, zones.2) refl
first_past_places edition font (suc (suc (suc (suc (suc (suc (suc (suc (suc (suc zero)))))))))) index past n =
    let few = within 10 (value_at font keys.OtherBlues) in
    let zones = zones_past font (numbers_at font keys.OtherBlues) index (omega arith) in
    let meeting =
    meets_past (distance font) (numbers_at font keys.OtherBlues) (numbers_at font keys.BlueValues) index (omega arith) in
    rw (differs index 0 (omega arith), differs index 10 past, zones.0, zones.1, zones.2, meeting) refl
first_past_places edition font (suc (suc (suc (suc (suc (suc (suc (suc (suc (suc (suc zero))))))))))) index past n =
    let few = within 14 (value_at font keys.FamilyBlues) in
    let zones = zones_past font (numbers_at font keys.FamilyBlues) index (omega arith) in
    rw (differs index 0 (omega arith), differs index 14 past, zones.0, zones.1, zones.2) refl
first_past_places edition font (suc (suc (suc (suc (suc (suc (suc (suc (suc (suc (suc (suc zero)))))))))))) index past n =
    let few = within 10 (value_at font keys.FamilyOtherBlues) in
    let zones = zones_past font (numbers_at font keys.FamilyOtherBlues) index (omega arith) in
    let meeting =
    meets_past (distance font) (numbers_at font keys.FamilyOtherBlues) (numbers_at font keys.FamilyBlues) index (omega arith) in
    rw (differs index 0 (omega arith), differs index 10 past, zones.0, zones.1, zones.2, meeting) refl
first_past_places edition font (suc (suc (suc (suc (suc (suc (suc (suc (suc (suc (suc (suc (suc zero))))))))))))) index past n = rw (differs index 0 past) refl
first_past_places edition font (suc (suc (suc (suc (suc (suc (suc (suc (suc (suc (suc (suc (suc (suc zero)))))))))))))) index past n = rw (differs index 0 past) refl
first_past_places edition font (suc (suc (suc (suc (suc (suc (suc (suc (suc (suc (suc (suc (suc (suc (suc zero))))))))))))))) index past n = rw (differs index 0 past) refl
first_past_places edition font (suc (suc (suc (suc (suc (suc (suc (suc (suc (suc (suc (suc (suc (suc (suc (suc zero)))))))))))))))) index past n =
    rw (differs index 0 past) refl
first_past_places edition font (suc (suc (suc (suc (suc (suc (suc (suc (suc (suc (suc (suc (suc (suc (suc (suc (suc zero))))))))))))))))) index past n =
    rw (differs index 0 past) refl
first_past_places edition font (suc (suc (suc (suc (suc (suc (suc (suc (suc (suc (suc (suc (suc (suc (suc (suc (suc (suc zero)))))))))))))))))) index past n =
    let few = within 12 (value_at font keys.StemSnapH) in
    let v = numbers_at font keys.StemSnapH in
    rw (differs index 0 (omega arith), differs index 12 past, falls_past v index (omega arith)) refl
first_past_places edition font (suc (suc (suc (suc (suc (suc (suc (suc (suc (suc (suc (suc (suc (suc (suc (suc (suc (suc (suc zero))))))))))))))))))) index past n =
    let few = within 12 (value_at font keys.StemSnapV) in
    let v = numbers_at font keys.StemSnapV in
    rw (differs index 0 (omega arith), differs index 12 past, falls_past v index (omega arith)) refl
first_past_places edition font (suc (suc (suc (suc (suc (suc (suc (suc (suc (suc (suc (suc (suc (suc (suc (suc (suc (suc (suc (suc zero)))))))))))))))))))) index past n =
    rw (wrong_subr_past font index past) refl
first_past_places edition font (suc (suc (suc (suc (suc (suc (suc (suc (suc (suc (suc (suc (suc (suc (suc (suc (suc (suc (suc (suc (suc zero))))))))))))))))))))) index past
    n = rw (differs index 0 (omega arith), glyph_twice_past font index past) refl
first_past_places edition font (suc (suc (suc (suc (suc (suc (suc (suc (suc (suc (suc (suc (suc (suc (suc (suc (suc (suc (suc (suc (suc (suc key)))))))))))))))))))))) index
    past n = first_past (suc (suc (suc (suc (suc (suc (suc (suc (suc (suc (suc (suc (suc (suc (suc (suc (suc (suc (suc (suc (suc (suc key))))))))))))))))))))))
    (omega arith) font index n

-- So it is of the later rules, where the edition has them.
later_past_places : (font : FontValue) (key index : ℕ) → places_of Three font key ≤ index → (n : ℕ) → violated later_font_rules n font key index ≡ false
unfolding later_font_rules
later_past_places font zero index past n = refl
later_past_places font (suc zero) index past n = refl
later_past_places font (suc (suc zero)) index past n = refl
later_past_places font (suc (suc (suc zero))) index past n = refl
later_past_places font (suc (suc (suc (suc zero)))) index past n = refl
later_past_places font (suc (suc (suc (suc (suc zero))))) index past n = refl
later_past_places font (suc (suc (suc (suc (suc (suc zero)))))) index past n = refl
later_past_places font (suc (suc (suc (suc (suc (suc (suc zero))))))) index past n = refl
later_past_places font (suc (suc (suc (suc (suc (suc (suc (suc zero)))))))) index past n = refl
later_past_places font (suc (suc (suc (suc (suc (suc (suc (suc (suc zero))))))))) index past n =
    let few = within 14 (value_at font keys.BlueValues) in
    rw (differs index 0 (omega arith), fraction_past (numbers_at font keys.BlueValues) index (omega arith)) refl
later_past_places font (suc (suc (suc (suc (suc (suc (suc (suc (suc (suc zero)))))))))) index past n =
    let few = within 10 (value_at font keys.OtherBlues) in
    rw (fraction_past (numbers_at font keys.OtherBlues) index (omega arith)) refl
later_past_places font (suc (suc (suc (suc (suc (suc (suc (suc (suc (suc (suc zero))))))))))) index past n =
    let few = within 14 (value_at font keys.FamilyBlues) in
    rw (fraction_past (numbers_at font keys.FamilyBlues) index (omega arith)) refl
later_past_places font (suc (suc (suc (suc (suc (suc (suc (suc (suc (suc (suc (suc zero)))))))))))) index past n =
    let few = within 10 (value_at font keys.FamilyOtherBlues) in
    rw (fraction_past (numbers_at font keys.FamilyOtherBlues) index (omega arith)) refl
later_past_places font (suc (suc (suc (suc (suc (suc (suc (suc (suc (suc (suc (suc (suc zero))))))))))))) index past n = rw (differs index 0 past) refl
later_past_places font (suc (suc (suc (suc (suc (suc (suc (suc (suc (suc (suc (suc (suc (suc zero)))))))))))))) index past n = rw (differs index 0 past) refl
later_past_places font (suc (suc (suc (suc (suc (suc (suc (suc (suc (suc (suc (suc (suc (suc (suc zero))))))))))))))) index past n = rw (differs index 0 past) refl
later_past_places font (suc (suc (suc (suc (suc (suc (suc (suc (suc (suc (suc (suc (suc (suc (suc (suc zero)))))))))))))))) index past n = rw (differs index 0 past) refl
later_past_places font (suc (suc (suc (suc (suc (suc (suc (suc (suc (suc (suc (suc (suc (suc (suc (suc (suc zero))))))))))))))))) index past n = rw (differs index 0 past) refl
later_past_places font (suc (suc (suc (suc (suc (suc (suc (suc (suc (suc (suc (suc (suc (suc (suc (suc (suc (suc zero)))))))))))))))))) index past n =
    let few = within 12 (value_at font keys.StemSnapH) in
    rw (differs index 0 (omega arith), repeats_past (numbers_at font keys.StemSnapH) index (omega arith)) refl
later_past_places font (suc (suc (suc (suc (suc (suc (suc (suc (suc (suc (suc (suc (suc (suc (suc (suc (suc (suc (suc zero))))))))))))))))))) index past n =
    let few = within 12 (value_at font keys.StemSnapV) in
    rw (differs index 0 (omega arith), repeats_past (numbers_at font keys.StemSnapV) index (omega arith)) refl
later_past_places font (suc (suc (suc (suc (suc (suc (suc (suc (suc (suc (suc (suc (suc (suc (suc (suc (suc (suc (suc (suc zero)))))))))))))))))))) index past n = rw (no_return_past font index past) refl
later_past_places font (suc (suc (suc (suc (suc (suc (suc (suc (suc (suc (suc (suc (suc (suc (suc (suc (suc (suc (suc (suc (suc zero))))))))))))))))))))) index past n = refl
later_past_places font (suc (suc (suc (suc (suc (suc (suc (suc (suc (suc (suc (suc (suc (suc (suc (suc (suc (suc (suc (suc (suc (suc zero)))))))))))))))))))))) index past n = rw (differs index 0 past) refl
later_past_places font (suc (suc (suc (suc (suc (suc (suc (suc (suc (suc (suc (suc (suc (suc (suc (suc (suc (suc (suc (suc (suc (suc (suc zero))))))))))))))))))))))) index past n = rw (differs index 0 (omega arith), exchanged_past (first_in 4 (value_at font keys.FontBBox)) index past, and-false (is_so_many 4 (value_at font keys.FontBBox))) refl
later_past_places font (suc (suc (suc (suc (suc (suc (suc (suc (suc (suc (suc (suc (suc (suc (suc (suc (suc (suc (suc (suc (suc (suc (suc (suc zero)))))))))))))))))))))))) index past n =
    let few = within 16 (value_at font keys.Xuid) in
    rw (differs index 0 (omega arith), le-ltb index (length (first_in 16 (value_at font keys.Xuid))) (omega arith)) refl
later_past_places font (suc (suc (suc (suc (suc (suc (suc (suc (suc (suc (suc (suc (suc (suc (suc (suc (suc (suc (suc (suc (suc (suc (suc (suc (suc zero))))))))))))))))))))))))) index past n = rw (differs index 0 past) refl
later_past_places font (suc (suc (suc (suc (suc (suc (suc (suc (suc (suc (suc (suc (suc (suc (suc (suc (suc (suc (suc (suc (suc (suc (suc (suc (suc (suc key)))))))))))))))))))))))))) index past n =
    later_past (suc (suc (suc (suc (suc (suc (suc (suc (suc (suc (suc (suc (suc (suc (suc (suc (suc (suc (suc (suc (suc (suc (suc (suc (suc (suc key))))))))))))))))))))))))))
    (omega arith) font index n

-- ---- the latest rules

-- Each of their tests is of a key that has a place.
says_nowhere : (font : FontValue) (tests : List KeyTest) → list_all (λ t. nat_le 1 (places_of Four font t.key)) tests ≡ true → (key index : ℕ)
    → places_of Four font key ≡ 0 → says tests font key index ≡ false
says_nowhere font [] some key index none = refl
says_nowhere font (t ∷ ts) some key index none =
    let parts = both (nat_le 1 (places_of Four font t.key)) (list_all (λ u. nat_le 1 (places_of Four font u.key)) ts) some in
    let one : 1 ≤ places_of Four font t.key = leb-true 1 (places_of Four font t.key) parts.0 in
    let other : (key == t.key) ≡ false =
    ne_eqb key t.key (λ e. let same : places_of Four font key ≡ places_of Four font t.key = ap (places_of Four font) e in omega (arith, same, none, one)) in
    rw other (says_nowhere font ts parts.1 key index none)

nowhere : (font : FontValue) (rules : List FontRule) → list_all (λ r. list_all (λ t. nat_le 1 (places_of Four font t.key)) r.tests) rules ≡ true
    → (key index n : ℕ) → places_of Four font key ≡ 0 → violated rules n font key index ≡ false
nowhere font [] some key index n none = refl
nowhere font (r ∷ rs) some key index n none =
    let parts =
    both (list_all (λ t. nat_le 1 (places_of Four font t.key)) r.tests) (list_all (λ q. list_all (λ t. nat_le 1 (places_of Four font t.key)) q.tests) rs) some in
    rw (says_nowhere font r.tests parts.0 key index none) (nowhere font rs parts.1 key index n none)

-- None says anything past index 0.
abbrev AreOff : FontValue → ℕ → List KeyTest → Type 0
AreOff font index [] = Unit {0}
AreOff font index (t ∷ ts) = (t.is_broken font index ≡ false) × AreOff font index ts

abbrev RulesAreOff : FontValue → ℕ → List FontRule → Type 0
RulesAreOff font index [] = Unit {0}
RulesAreOff font index (r ∷ rs) = AreOff font index r.tests × RulesAreOff font index rs

either : (b here there : Bool) → here ≡ false → there ≡ false → (if b then here else there) ≡ false
either true here there is so = is
either false here there is so = so

says_off : (font : FontValue) (key index : ℕ) (tests : List KeyTest) → AreOff font index tests → says tests font key index ≡ false
says_off font key index [] off = refl
says_off font key index (t ∷ ts) off =
    either (key == t.key) (t.is_broken font index) (says ts font key index) off.0 (says_off font key index ts off.1)

all_off : (font : FontValue) (key index n : ℕ) (rules : List FontRule) → RulesAreOff font index rules → violated rules n font key index ≡ false
all_off font key index n [] off = refl
all_off font key index n (r ∷ rs) off = rw (says_off font key index r.tests off.0) (all_off font key index n rs off.1)

each_off : (font : FontValue) (index : ℕ) → (index == 0) ≡ false → (ks : List Key)
    → AreOff font index (each_of ks (λ font k index. index == 0 && is_key_twice font k))
each_off font index past [] = tt
each_off font index past (k ∷ ks) = (rw past refl, each_off font index past ks)

latest_off : (font : FontValue) (index : ℕ) → (index == 0) ≡ false → RulesAreOff font index latest_font_rules
unfolding latest_font_rules
latest_off font index past = (
  (rw past refl, tt),
  (
    (rw past refl, each_off font index past plain_keys),
    (
      (rw past refl, tt),
      (
        (rw past refl, tt),
        (
          (rw past refl, tt),
          ((rw past refl, tt), ((rw past refl, tt), ((rw past refl, tt), tt))),
        ),
      ),
    ),
  ),
)

latest_nowhere : (font : FontValue) (key n : ℕ) → places_of Four font key ≡ 0 → violated latest_font_rules n font key 0 ≡ false
unfolding latest_font_rules
latest_nowhere font key n none = nowhere font latest_font_rules refl key 0 n none

latest_past_places : (font : FontValue) (key index : ℕ) → places_of Four font key ≤ index → (n : ℕ) → violated latest_font_rules n font key index ≡ false
latest_past_places font key zero past n = latest_nowhere font key n (omega (arith, past))
latest_past_places font key (suc i) past n =
    all_off font key (suc i) n latest_font_rules (latest_off font (suc i) (differs (suc i) 0 (omega arith)))

-- ---- all of them

-- The third edition has no more places than the fourth.
fewer_places : (font : FontValue) (key : ℕ) → places_of Three font key ≤ places_of Four font key
fewer_places font key =
    go key (places_by_key Three font) (places_by_key Four font)
    (rw (le-leb (subr_places font.subrs) (subr_places font.subrs) (omega arith), le-leb (glyph_places font) (glyph_places font) (omega arith)) refl)
  where
    are_fewer : List ℕ → List ℕ → Bool
    are_fewer [] qs = true
    are_fewer (p ∷ ps) [] = false
    are_fewer (p ∷ ps) (q ∷ qs) = nat_le p q && are_fewer ps qs

    go : (key : ℕ) (ps qs : List ℕ) → are_fewer ps qs ≡ true → slice_index_or ps key 0 ≤ slice_index_or qs key 0
    go key [] qs fewer = omega arith
    go key (p ∷ ps) [] fewer = let no : false ≡ true = fewer in cc
    go zero (p ∷ ps) (q ∷ qs) fewer = leb-true p q (both (nat_le p q) (are_fewer ps qs) fewer).0
    go (suc key) (p ∷ ps) (q ∷ qs) fewer = go key ps qs (both (nat_le p q) (are_fewer ps qs) fewer).1

further_past_places : (edition : Edition) (font : FontValue) (key index : ℕ) → places_of edition font key ≤ index → (n : ℕ)
    → (has_later_rules edition && violated later_font_rules n font key index || has_latest_rules edition && violated latest_font_rules n font key index) ≡ false
further_past_places One font key index past n = refl
further_past_places Two font key index past n = refl
further_past_places Three font key index past n = rw (later_past_places font key index past n) refl
further_past_places Four font key index past n =
    let fewer = fewer_places font key in
    rw (later_past_places font key index (omega (arith, past, fewer)) n) (latest_past_places font key index past n)

pub past_places : NothingIsBrokenPastPlaces
past_places edition font key index past n =
    in_parts edition n font key index
    ∙ rw (first_past_places edition font key index past n) (further_past_places edition font key index past n)

subr_places_bound : (subrs : List (ℕ × List ℕ)) → subr_places subrs ≤ 65536
subr_places_bound [] = omega arith
subr_places_bound (subr ∷ subrs) = let rest = subr_places_bound subrs in omega arith

none_over : (m : ℕ) (ps : List ℕ) → list_all (λ p. nat_le p m) ps ≡ true → (key : ℕ) → slice_index_or ps key 0 ≤ m
none_over m [] few key = omega arith
none_over m (p ∷ ps) few zero = leb-true p m (both (nat_le p m) (list_all (λ q. nat_le q m) ps) few).0
none_over m (p ∷ ps) few (suc key) = none_over m ps (both (nat_le p m) (list_all (λ q. nat_le q m) ps) few).1 key

pub few_places : (edition : Edition) (font : FontValue) (key : ℕ) → places_of edition font key ≤ 65536
few_places edition font key = none_over 65536 (places_by_key edition font) (few edition) key
  where
    subrs_few : nat_le (subr_places font.subrs) 65536 ≡ true
    subrs_few = le-leb (subr_places font.subrs) 65536 (subr_places_bound font.subrs)

    glyphs_few : nat_le (glyph_places font) 65536 ≡ true
    glyphs_few = le-leb (glyph_places font) 65536 (omega arith)

    few : (edition : Edition) → list_all (λ p. nat_le p 65536) (places_by_key edition font) ≡ true
    few One = simp (subrs_few, glyphs_few) refl
    few Two = simp (subrs_few, glyphs_few) refl
    few Three = simp (subrs_few, glyphs_few) refl
    few Four = simp (subrs_few, glyphs_few) refl

pub none_past_last : NothingIsBrokenPastLast
none_past_last edition font key index (inl past) n = past_last edition key (omega arith) font index n
none_past_last edition font key index (inr past) n = past_places edition font key index (let few = few_places edition font key in omega arith) n
