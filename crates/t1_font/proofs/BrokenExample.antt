-- Small texts that break off, or hold one wrong thing.
use Rattle.std.proofs.Common.{◌≡◌, ◌<◌, ◌≤◌, ℕ, true, None, Err, List, [], ◌∷◌, codes, refl, arith}
use Rattle.std.proofs.lemmas.List.Elements.{All-nil}
use Rattle.t1_scan.specs.Numbers.{scaled, value_of, magnitude_of, decimal_of, radix_of}
use Rattle.t1_scan.specs.Spelling.{Plain, decimal, minus, meant}
use Rattle.t1_font.specs.declared.key.Key.TheVariants.{LenIv, BlueFuzz}
use Rattle.t1_scan.specs.Texts.{BeginsWith}
use Rattle.t1_font.specs.declared.unread.Unread.TheVariants.{BadSubrs, BadCharStrings, PastLimit}
use Rattle.t1_font.specs.Fonts.{Marks}
use Rattle.t1_font.specs.PrivateText.{private_of}
use Rattle.t1_font.specs.Keys.{private_key, private_note}
use Rattle.t1_font.specs.Tokens.{is_number_kind, whole}
use Rattle.t1_font.specs.Laws.BrokenPrivateText.{IsBegun, Opening, IsOpening, key_name, SubrStart, IsSubrStart, lone_dup, subr_number, no_length, glyph_name, Begun, in_keys, among_subrs, among_glyphs, begun_pieces}
use Rattle.t1_font.specs.Laws.BrokenTexts.{SmallTextsBreak}
use Rattle.t1_font.specs.Laws.Example.{digits}
use Rattle.t1_font.specs.Laws.UsualPrivateText.{IsPrivateItem, IsNoDup, IsSubrItem, IsSubrsPart, IsCount, no_subrs, some_subrs, IsGlyphItem, StatesNoCharstring}
use Rattle.t1_font.specs.Laws.Written.{token, IsWhole}
use Rattle.t1_font.proofs.BrokenRead.{ends_too_soon, subr_too_long, glyph_too_long, subr_number_first}
use Rattle.t1_font.proofs.UsualExample.{text_with, are_apart, is_written}
use Rattle.t1_font.proofs.WrittenRead.{last_token}

-- Nothing is stated or written before.
nothing_before : StatesNoCharstring []
nothing_before = record { no_size = refl; no_glyph = refl }

abbrev nothing : Opening
nothing = record { front = []; subrs = no_subrs; back = [] }

is_nothing : IsOpening nothing
is_nothing = record { front = All-nil IsPrivateItem; subrs = tt; back = All-nil IsPrivateItem; no_dup = All-nil IsNoDup }

-- A space, before a token and after the last one.
abbrev space : List ℕ
space = codes " "

abbrev among : SubrStart → Begun
among k = among_subrs [] 1 (digits (codes "1")) [] k

len_iv_begun : IsBegun (in_keys nothing (key_name LenIv (codes "lenIV"))) (codes "/lenIV ") space
unfolding private_key private_note
len_iv_begun = record {
  parts = (is_nothing, refl);
  written = is_written ([] ∷ []) (begun_pieces (in_keys nothing (key_name LenIv (codes "lenIV")))) space refl;
}

blue_fuzz_begun : IsBegun (in_keys nothing (key_name BlueFuzz (codes "BlueFuzz"))) (codes "/BlueFuzz ") space
unfolding private_key private_note
blue_fuzz_begun = record {
  parts = (is_nothing, refl);
  written = is_written ([] ∷ []) (begun_pieces (in_keys nothing (key_name BlueFuzz (codes "BlueFuzz")))) space refl;
}

-- Among the Subrs of a font that says that it has one.
one_subr : IsSubrsPart (some_subrs 1 (digits (codes "1")) [])
unfolding scaled magnitude_of value_of decimal_of radix_of
one_subr = (refl, omega arith, All-nil IsSubrItem)

abbrev to_dup : List (List ℕ)
to_dup = [] ∷ space ∷ space ∷ space ∷ []

dup_begun : (left : List ℕ) → are_apart to_dup (begun_pieces (among lone_dup)) left ≡ true
    → IsBegun (among lone_dup) (text_with to_dup (begun_pieces (among lone_dup)) left) left
dup_begun left h = record { parts = (All-nil IsPrivateItem, one_subr, tt); written = is_written to_dup (begun_pieces (among lone_dup)) left h }

abbrev to_number : List (List ℕ)
to_number = [] ∷ space ∷ space ∷ space ∷ space ∷ []

abbrev zero_subr : Begun
zero_subr = among (subr_number 0 (digits (codes "0")) no_length)

zero_is_good : IsSubrStart (subr_number 0 (digits (codes "0")) no_length)
unfolding scaled magnitude_of value_of decimal_of radix_of
zero_is_good = (refl, omega arith, tt)

number_begun : (left : List ℕ) → are_apart to_number (begun_pieces zero_subr) left ≡ true
    → IsBegun zero_subr (text_with to_number (begun_pieces zero_subr) left) left
number_begun left h = record { parts = (All-nil IsPrivateItem, one_subr, zero_is_good); written = is_written to_number (begun_pieces zero_subr) left h }

abbrev one_glyph : Begun
one_glyph = among_glyphs nothing (digits (codes "1")) [] (glyph_name (codes "a") no_length)

abbrev to_name : List (List ℕ)
to_name = [] ∷ space ∷ space ∷ space ∷ space ∷ space ∷ []

one_counted : IsCount (digits (codes "1"))
unfolding scaled magnitude_of value_of decimal_of radix_of
one_counted = record { value = 1; whole = refl; small = omega arith }

glyph_begun : (left : List ℕ) → are_apart to_name (begun_pieces one_glyph) left ≡ true
    → IsBegun one_glyph (text_with to_name (begun_pieces one_glyph) left) left
glyph_begun left h =
    let few : 1 ≤ 65535 = omega arith in
    record { parts = (is_nothing, one_counted, All-nil IsGlyphItem, tt, few); written = is_written to_name (begun_pieces one_glyph) left h }

-- The numbers 70000 and -1.
abbrev long : List ℕ
long = codes " 70000 "

long_begins : BeginsWith long (digits (codes "70000")) space
unfolding scaled magnitude_of value_of decimal_of radix_of
long_begins = last_token long (digits (codes "70000")) space (is_written (space ∷ []) (token (digits (codes "70000")) ∷ []) space refl)

long_is_whole : IsWhole (digits (codes "70000")) 70000
unfolding scaled magnitude_of value_of decimal_of radix_of
long_is_whole = refl

past_limit : 65535 < 70000
past_limit = omega arith

abbrev minus_one : Plain
minus_one = decimal minus (codes "1") None

minus_begins : BeginsWith (codes " -1 70000 ") minus_one long
unfolding scaled magnitude_of value_of decimal_of radix_of
minus_begins = last_token (codes " -1 70000 ") minus_one long (is_written (space ∷ []) (token minus_one ∷ []) long refl)

minus_is_number : is_number_kind (meant minus_one) ≡ true
unfolding scaled magnitude_of value_of decimal_of radix_of
minus_is_number = refl

minus_is_not_whole : whole (meant minus_one) ≡ None
unfolding whole scaled magnitude_of value_of decimal_of radix_of
minus_is_not_whole = refl

module _ (marks : Marks) where
  dup_ends : private_of marks [] (codes "/Subrs 1 array dup ") ≡ Err BadCharStrings
  unfolding scaled magnitude_of value_of decimal_of radix_of
  dup_ends = ends_too_soon marks [] (among lone_dup) (codes "/Subrs 1 array dup ") space nothing_before (dup_begun space refl) refl

  number_ends : private_of marks [] (codes "/Subrs 1 array dup 0 ") ≡ Err BadSubrs
  unfolding scaled magnitude_of value_of decimal_of radix_of
  number_ends = ends_too_soon marks [] zero_subr (codes "/Subrs 1 array dup 0 ") space nothing_before (number_begun space refl) refl

  subr_is_long : private_of marks [] (codes "/Subrs 1 array dup 0 70000 ") ≡ Err PastLimit
  unfolding scaled magnitude_of value_of decimal_of radix_of
  subr_is_long = subr_too_long marks [] [] 1 (digits (codes "1")) [] 0 70000 (digits (codes "0")) (digits (codes "70000")) (codes "/Subrs 1 array dup 0 70000 ")
      long space nothing_before (number_begun long refl) long_begins long_is_whole past_limit

  number_is_first : private_of marks [] (codes "/Subrs 1 array dup -1 70000 ") ≡ Err BadSubrs
  unfolding scaled magnitude_of value_of decimal_of radix_of
  number_is_first = subr_number_first marks [] [] 1 (digits (codes "1")) [] minus_one (codes "/Subrs 1 array dup -1 70000 ") (codes " -1 70000 ") long
      nothing_before (dup_begun (codes " -1 70000 ") refl) minus_begins minus_is_number minus_is_not_whole

  glyph_is_long : private_of marks [] (codes "/CharStrings 1 dict dup begin /a 70000 ") ≡ Err PastLimit
  unfolding scaled magnitude_of value_of decimal_of radix_of
  glyph_is_long = glyph_too_long marks [] nothing (digits (codes "1")) [] (codes "a") 70000 (digits (codes "70000"))
      (codes "/CharStrings 1 dict dup begin /a 70000 ") long space nothing_before (glyph_begun long refl) long_begins long_is_whole past_limit

pub small_texts_break : SmallTextsBreak
small_texts_break marks = (
  ends_too_soon marks [] (in_keys nothing (key_name LenIv (codes "lenIV"))) (codes "/lenIV ") space nothing_before len_iv_begun refl,
  ends_too_soon marks [] (in_keys nothing (key_name BlueFuzz (codes "BlueFuzz"))) (codes "/BlueFuzz ") space nothing_before blue_fuzz_begun refl,
  dup_ends marks,
  number_ends marks,
  subr_is_long marks,
  number_is_first marks,
  glyph_is_long marks,
)
