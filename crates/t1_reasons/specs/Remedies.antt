-- What would do in the place of what breaks a rule.
use Rattle.std.specs.Prelude.{◌≡◌, ◌↔◌, ℕ, ℤ, pos, negsuc, ◌/◌, int_lt, ◌+ℤ◌, ◌*ℤ◌, ◌-ℤ◌, ◌≤◌, ◌≤ℤ◌, Bool, false, Option, Some, None, List, [], ◌∷◌, ◌++◌, ◌<◌, map}
use Rattle.std.specs.Int.{int_max, int_min}
use Rattle.std.specs.List.{list_any}
use Rattle.t1_char.specs.declared.command.Command.{Command as Commands}
use Rattle.t1_char.specs.declared.token.CharToken.{CharToken}
use Rattle.t1_char.specs.Numbers.{greatest, least}
use Rattle.t1_char.specs.Stacks.{most_numbers}
use Rattle.t1_font.specs.declared.key.Key.{Key}
use Rattle.t1_font.specs.Fonts.{FontValue}
use Rattle.t1_rules.specs.declared.step_rules.flex.Point.{Point}
use Rattle.t1_rules.specs.declared.step_rules.stems.Stem.{Stem}
use Rattle.t1_rules.specs.FontRules.Hints.{numbers_at}
use Rattle.t1_rules.specs.FontRules.Zones.{high_of, low_zone_keys, zone_keys}
use Rattle.t1_rules.specs.StepRules.Stems.{twice_middle}
use Rattle.t1_scan.specs.Numbers.{billion}
use Rattle.t1_rules.specs.declared.font_rules.zones.Edges.{Edges}
use Rattle.t1_reasons.specs.declared.reason.Reason.TheVariants.{Argument, Count, Full, Miss, Sidebearings, Triple, Zone, Zones}
use Rattle.t1_reasons.specs.FontReasons.{are_near, reaches_one, scale_for, zones_in}
use Rattle.t1_reasons.specs.StepReasons.{has_fewer, has_more, is_full, is_miss, is_past_range, is_told_otherwise, is_uneven}

-- ---- BlueScale

-- The lesser of two bounds, where there are two.
abbrev pub lesser : Option ℤ → Option ℤ → Option ℤ
lesser None other = other
lesser (Some one) None = Some one
lesser (Some one) (Some other) = Some (int_min one other)

-- The greatest BlueScale by which none of these zones is too high, and which isn't above another bound. None where nothing bounds it.
abbrev pub scale_from : Option ℤ → List Edges → Option ℤ
scale_from bound [] = bound
scale_from bound (zone ∷ zones) = scale_from (lesser bound (scale_for (zone.upper -ℤ zone.lower))) zones

abbrev pub scale_among : FontValue → Option ℤ → List Key → Option ℤ
scale_among font bound [] = bound
scale_among font bound (k ∷ ks) = scale_among font (scale_from bound (zones_in (numbers_at font k))) ks

-- The same of all zones of a font.
abbrev pub scale_for_all : FontValue → Option ℤ
scale_for_all font = scale_among font None zone_keys

-- One of these zones is too high for a BlueScale; one of a font's.
abbrev pub one_reaches : ℤ → List Edges → Bool
one_reaches s zones = list_any (λ zone. reaches_one (Zone zone.lower zone.upper s)) zones

abbrev pub one_is_too_high : ℤ → FontValue → Bool
one_is_too_high s font = list_any (λ k. one_reaches s (zones_in (numbers_at font k))) zone_keys

-- That BlueScale does for all zones, and no greater one.
abbrev pub ScaleDoesForAll : Type 0
ScaleDoesForAll =
    (font : FontValue) (scale : ℤ) → scale_for_all font ≡ Some scale →
    (s : ℤ) → pos 0 ≤ℤ s → (one_is_too_high s font ≡ false) ↔ (s ≤ℤ scale)

-- ---- BlueFuzz

-- The greatest whole number of 10^-9 whose double isn't above this; below 0 where none from 0 on is.
abbrev pub half : ℤ → ℤ
half (pos n) = pos (n / 2)
half (negsuc n) = negsuc 0

-- The greatest BlueFuzz by which a gap isn't below the distance, twice BlueFuzz and one.
abbrev pub fuzz_for : ℤ → ℤ
fuzz_for gap = half (gap -ℤ pos billion)

abbrev pub fuzz_from : Option ℤ → List ℤ → Option ℤ
fuzz_from bound [] = bound
fuzz_from bound (gap ∷ gaps) = fuzz_from (lesser bound (Some (fuzz_for gap))) gaps

-- The gaps between the zones of a list of numbers, each and the next.
abbrev pub gaps_in : List ℤ → List ℤ
gaps_in (a ∷ (b ∷ (c ∷ (d ∷ v)))) = (c -ℤ b) ∷ gaps_in (c ∷ (d ∷ v))
gaps_in _ = []

abbrev pub fuzz_among : FontValue → Option ℤ → List Key → Option ℤ
fuzz_among font bound [] = bound
fuzz_among font bound (k ∷ ks) = fuzz_among font (fuzz_from bound (gaps_in (numbers_at font k))) ks

-- The greatest BlueFuzz by which no zone of a font is too near to the one before it; below 0 where none from 0 on does.
abbrev pub fuzz_for_all : FontValue → Option ℤ
fuzz_for_all font = fuzz_among font None zone_keys

-- One of these gaps is too small for a BlueFuzz; one of a font's.
abbrev pub one_is_small : ℤ → List ℤ → Bool
one_is_small fuzz gaps = list_any (λ gap. int_lt gap ((pos 2 *ℤ fuzz) +ℤ pos billion)) gaps

abbrev pub one_is_too_near : ℤ → FontValue → Bool
one_is_too_near fuzz font = list_any (λ k. one_is_small fuzz (gaps_in (numbers_at font k))) zone_keys

-- That BlueFuzz does for all of them, and no greater one.
abbrev pub FuzzDoesForAll : Type 0
FuzzDoesForAll =
    (font : FontValue) (fuzz : ℤ) → fuzz_for_all font ≡ Some fuzz →
    (s : ℤ) → pos 0 ≤ℤ s → (one_is_too_near s font ≡ false) ↔ (s ≤ℤ fuzz)

-- The gap between two zones, whichever is the lower one; below 0 where they share a place.
abbrev pub gap_between : Edges → Edges → ℤ
gap_between own other = int_max (other.lower -ℤ own.upper) (own.lower -ℤ other.upper)

-- The gaps between the zones of one list and those of another.
abbrev pub gaps_beside : Edges → List Edges → List ℤ
gaps_beside own others = map (gap_between own) others

abbrev pub gaps_across : List Edges → List Edges → List ℤ
gaps_across [] highs = []
gaps_across (own ∷ lows) highs = gaps_beside own highs ++ gaps_across lows highs

abbrev pub gaps_across_at : FontValue → Key → List ℤ
gaps_across_at font low = gaps_across (zones_in (numbers_at font low)) (zones_in (numbers_at font (high_of low)))

abbrev pub fuzz_across : FontValue → Option ℤ → List Key → Option ℤ
fuzz_across font bound [] = bound
fuzz_across font bound (low ∷ lows) = fuzz_across font (fuzz_from bound (gaps_across_at font low)) lows

-- The greatest BlueFuzz by which no low zone of a font is too near to a high one; below 0 where none from 0 on does.
abbrev pub fuzz_for_both : FontValue → Option ℤ
fuzz_for_both font = fuzz_across font None low_zone_keys

-- A low zone comes too near to a high one for a BlueFuzz.
abbrev pub one_comes_near : ℤ → FontValue → Bool
one_comes_near fuzz font = list_any (λ low. one_is_small fuzz (gaps_across_at font low)) low_zone_keys

-- That BlueFuzz does for all of them, and no greater one; and zones are near by the rule where their gap is small.
pub record FuzzDoesForBoth : Type 0 where
  pub greatest : (font : FontValue) (fuzz : ℤ) → fuzz_for_both font ≡ Some fuzz →
      (s : ℤ) → pos 0 ≤ℤ s → (one_comes_near s font ≡ false) ↔ (s ≤ℤ fuzz)
  pub near : (own other : Edges) (d : ℤ) → are_near (Zones own other d) ≡ int_lt (gap_between own other) d

-- ---- numbers of charstrings

-- As many numbers as a command takes do, and no greater count.
abbrev pub CountsDo : Type 0
CountsDo = (command : Commands) (taken there : ℕ) → (has_more (Count command taken there) ≡ false) ↔ (there ≤ taken)

-- As many as it needs do, and no smaller count.
abbrev pub WantedCountsDo : Type 0
WantedCountsDo = (command : Commands) (taken there : ℕ) → (has_fewer (Count command taken there) ≡ false) ↔ (taken ≤ there)

-- Up to 23 numbers leave room for one more on the stack, and 24 don't.
abbrev pub RoomDoes : Type 0
RoomDoes = (token : CharToken) (there : ℕ) → there ≤ most_numbers → (is_full (Full token there) ≡ false) ↔ (there < most_numbers)

-- The middle that is half-way between the two others does where these have equal widths, and no other one.
abbrev pub MiddleDoes : Type 0
MiddleDoes =
    (one two three : Stem) → one.width ≡ three.width →
    (is_uneven (Triple one two three) ≡ false) ↔ (pos 2 *ℤ twice_middle two ≡ twice_middle one +ℤ twice_middle three)

-- The numbers from -32000 to 32000 do, and no others.
abbrev pub RangeDoes : Type 0
RangeDoes = (place : ℕ) (z : ℤ) → (is_past_range (Argument place z) ≡ false) ↔ ((least ≤ℤ z) × (z ≤ℤ greatest))

-- The pen does as the end of a flex, and no other point.
abbrev pub PenDoes : Type 0
PenDoes = (named pen : Point) → (is_miss (Miss named pen) ≡ false) ↔ (named ≡ pen)

-- The accent's own sidebearing does, and no other number.
abbrev pub SidebearingDoes : Type 0
SidebearingDoes = (told own : ℤ) → (is_told_otherwise (Sidebearings told own) ≡ false) ↔ (told ≡ own)

-- What would do at each of these rules.
pub record NumbersDo : Type 0 where
  pub counts : CountsDo
  pub wanted : WantedCountsDo
  pub room : RoomDoes
  pub middle : MiddleDoes
  pub range : RangeDoes
  pub pen : PenDoes
  pub sidebearing : SidebearingDoes
