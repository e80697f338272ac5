-- What would do does, and nothing beyond it.
use Rattle.std.proofs.Common.{◌≡◌, ◌↔◌, ℕ, suc, ℤ, pos, ◌-ℤ◌, ◌≤◌, ◌≤ℤ◌, ◌||◌, Bool, true, false, not, Option, Some, None, List, [], ◌∷◌, ◌-◌, ◌&&◌, ◌++◌, ◌==◌, ◌∙◌, drop, get_or, int_lt, length, take, nat_lt, refl, sym, ap, arith, negsuc, ◌/◌, ◌*◌, ◌+ℤ◌, ◌*ℤ◌, ◌<◌}
use Rattle.std.specs.Prelude.{⊤}
use Rattle.std.specs.Int.{int_max, int_min}
use Rattle.std.specs.List.{list_any}
use Rattle.std.proofs.Math.Seq.{take-length}
use Rattle.std.specs.Ordering.{int_eq}
use Rattle.std.proofs.lemmas.Int.{ints}
use Rattle.t1_font.specs.declared.key.Key.{Key}
use Rattle.t1_font.specs.Fonts.{FontValue}
use Rattle.t1_rules.specs.declared.step_rules.flex.Point.{Point}
use Rattle.t1_rules.specs.StepRules.Flex.{at}
use Rattle.t1_rules.specs.StepRules.Stems.{are_unequal, twice_middle}
use Rattle.t1_rules.specs.declared.step_rules.stems.Stem.{Stem}
use Rattle.t1_char.specs.Stacks.{most_numbers}
use Rattle.t1_rules.specs.FontRules.Hints.{numbers_at}
use Rattle.t1_rules.specs.FontRules.Zones.{low_zone_keys, zone_keys}
use Rattle.t1_rules.specs.declared.font_rules.zones.Edges.{Edges}
use Rattle.t1_reasons.specs.declared.reason.Reason.TheVariants.{Zone}
use Rattle.t1_reasons.specs.FontReasons.{reaches_one, scale_for, zones_in}
use Rattle.t1_scan.specs.Numbers.{billion}
use Rattle.std.proofs.Math.Nat.{le-div_iff_mul-le, mul_comm}
use Rattle.t1_reasons.specs.Remedies.{FuzzDoesForAll, FuzzDoesForBoth, fuzz_across, fuzz_among, fuzz_for, fuzz_from, gap_between, gaps_across, gaps_across_at, gaps_beside, gaps_in, half, one_is_small, NumbersDo, ScaleDoesForAll, lesser, one_reaches, scale_among, scale_from}
use Rattle.t1_reasons.proofs.FontLaws.{low_never_reaches, scales_do}

-- ---- halves

halved : (s : ℤ) (n : ℕ) → pos 0 ≤ℤ s → (pos 2 *ℤ s) ≤ℤ pos n → s ≤ℤ pos (n / 2)
halved (pos m) n least le =
    let twice : 2 * m ≤ n = grind (arith, ints, le) in
    let within : m ≤ n / 2 = fits_half m n twice in
    grind (arith, ints, within)
  where
    fits_half : (m n : ℕ) → 2 * m ≤ n → m ≤ n / 2
    fits_half m n le = (le-div_iff_mul-le (omega arith)).1 (omega (arith, le, mul_comm m 2))
halved (negsuc m) n least le = absurd (grind (arith, ints, least))

redoubled : (s : ℤ) (n : ℕ) → pos 0 ≤ℤ s → s ≤ℤ pos (n / 2) → (pos 2 *ℤ s) ≤ℤ pos n
redoubled (pos m) n least le =
    let within : m ≤ n / 2 = grind (arith, ints, le) in
    let some : 0 < 2 = omega arith in
    let twice : m * 2 ≤ n = (le-div_iff_mul-le some).0 within in
    let turned : 2 * m ≤ n = omega (arith, twice, mul_comm m 2) in
    grind (arith, ints, turned)
redoubled (negsuc m) n least le = absurd (grind (arith, ints, least))

-- ---- BlueScale

-- A number is not above a bound, where there is one.
abbrev IsUnder : Option ℤ → ℤ → Type 0
IsUnder None s = ⊤
IsUnder (Some bound) s = s ≤ℤ bound

under_both : (s a b : ℤ) → (s ≤ℤ int_min a b) ↔ ((s ≤ℤ a) × (s ≤ℤ b))
under_both s a b = (λ le. (grind (arith, ints, le), grind (arith, ints, le)), λ both. grind (arith, ints, both.0, both.1))

under_lesser : (s : ℤ) (one other : Option ℤ) → IsUnder (lesser one other) s ↔ (IsUnder one s × IsUnder other s)
under_lesser s None other = (λ le. (tt, le), λ both. both.1)
under_lesser s (Some a) None = (λ le. (le, tt), λ both. both.0)
under_lesser s (Some a) (Some b) = under_both s a b

zone_under : (zone : Edges) (s : ℤ) → pos 0 ≤ℤ s
    → (reaches_one (Zone zone.lower zone.upper s) ≡ false) ↔ IsUnder (scale_for (zone.upper -ℤ zone.lower)) s
zone_under zone s least = go (scale_for (zone.upper -ℤ zone.lower)) refl
  where
    go : (bound : Option ℤ) → scale_for (zone.upper -ℤ zone.lower) ≡ bound
        → (reaches_one (Zone zone.lower zone.upper s) ≡ false) ↔ IsUnder bound s
    go None is = (λ e. tt, λ u. low_never_reaches (zone.upper -ℤ zone.lower) s is least)
    go (Some scale) is = scales_do zone.lower zone.upper scale is s

pub either : (a b : Bool) → ((a || b) ≡ false) ↔ ((a ≡ false) × (b ≡ false))
either true b = (λ e. let no_way : true ≡ false = e in (cc, cc), λ both. both.0)
either false b = (λ e. (refl, e), λ both. both.1)

zones_under : (s : ℤ) → pos 0 ≤ℤ s → (bound : Option ℤ) (zones : List Edges)
    → IsUnder (scale_from bound zones) s ↔ (IsUnder bound s × (one_reaches s zones ≡ false))
zones_under s least bound [] = (λ under. (under, refl), λ both. both.0)
zones_under s least bound (zone ∷ zones) =
    let rest = zones_under s least (lesser bound (scale_for (zone.upper -ℤ zone.lower))) zones in
    let here = under_lesser s bound (scale_for (zone.upper -ℤ zone.lower)) in
    let own = zone_under zone s least in
    let parts = either (reaches_one (Zone zone.lower zone.upper s)) (one_reaches s zones) in (
      λ under. let all = rest.0 under in let front = here.0 all.0 in (front.0, parts.1 (own.1 front.1, all.1)),
      λ both. let each = parts.0 both.1 in rest.1 (here.1 (both.0, own.0 each.0), each.1),
    )

keys_under : (font : FontValue) (s : ℤ) → pos 0 ≤ℤ s → (bound : Option ℤ) (keys : List Key)
    → IsUnder (scale_among font bound keys) s ↔ (IsUnder bound s × (list_any (λ k. one_reaches s (zones_in (numbers_at font k))) keys ≡ false))
keys_under font s least bound [] = (λ under. (under, refl), λ both. both.0)
keys_under font s least bound (k ∷ ks) =
    let rest = keys_under font s least (scale_from bound (zones_in (numbers_at font k))) ks in
    let here = zones_under s least bound (zones_in (numbers_at font k)) in
    let parts = either (one_reaches s (zones_in (numbers_at font k))) (list_any (λ k. one_reaches s (zones_in (numbers_at font k))) ks) in (
      λ under. let all = rest.0 under in let front = here.0 all.0 in (front.0, parts.1 (front.1, all.1)),
      λ both. let each = parts.0 both.1 in rest.1 (here.1 (both.0, each.0), each.1),
    )

pub scale_does_for_all : ScaleDoesForAll
scale_does_for_all font scale is s least =
    let all = keys_under font s least None zone_keys in
    let bound : IsUnder (scale_among font None zone_keys) s ↔ (s ≤ℤ scale) = rw is ((λ u. u), (λ u. u)) in
    (λ e. bound.0 (all.1 (tt, e)), λ under. (all.0 (bound.1 under)).1)

-- ---- BlueFuzz

doubled : (s g : ℤ) → pos 0 ≤ℤ s → (int_lt g ((pos 2 *ℤ s) +ℤ pos billion) ≡ false) ↔ (s ≤ℤ half (g -ℤ pos billion))
doubled s g least = go (g -ℤ pos billion) refl
  where
    go : (rest : ℤ) → (g -ℤ pos billion) ≡ rest → (int_lt g ((pos 2 *ℤ s) +ℤ pos billion) ≡ false) ↔ (s ≤ℤ half rest)
    go (pos n) is = (
      λ e. let twice : (pos 2 *ℤ s) ≤ℤ pos n = grind (arith, ints, e, is) in halved s n least twice,
      λ le. let twice : (pos 2 *ℤ s) ≤ℤ pos n = redoubled s n least le in grind (arith, ints, twice, is),
    )
    go (negsuc n) is = (
      λ e. absurd (grind (arith, ints, e, is, least)),
      λ le. absurd (grind (arith, ints, le, least)),
    )

gaps_under : (s : ℤ) → pos 0 ≤ℤ s → (bound : Option ℤ) (gaps : List ℤ)
    → IsUnder (fuzz_from bound gaps) s ↔ (IsUnder bound s × (one_is_small s gaps ≡ false))
gaps_under s least bound [] = (λ under. (under, refl), λ both. both.0)
gaps_under s least bound (gap ∷ gaps) =
    let rest = gaps_under s least (lesser bound (Some (fuzz_for gap))) gaps in
    let here = under_lesser s bound (Some (fuzz_for gap)) in
    let own = doubled s gap least in
    let parts = either (int_lt gap ((pos 2 *ℤ s) +ℤ pos billion)) (one_is_small s gaps) in (
      λ under. let all = rest.0 under in let front = here.0 all.0 in (front.0, parts.1 (own.1 front.1, all.1)),
      λ both. let each = parts.0 both.1 in rest.1 (here.1 (both.0, own.0 each.0), each.1),
    )

lists_under : (font : FontValue) (s : ℤ) → pos 0 ≤ℤ s → (bound : Option ℤ) (keys : List Key)
    → IsUnder (fuzz_among font bound keys) s ↔ (IsUnder bound s × (list_any (λ k. one_is_small s (gaps_in (numbers_at font k))) keys ≡ false))
lists_under font s least bound [] = (λ under. (under, refl), λ both. both.0)
lists_under font s least bound (k ∷ ks) =
    let rest = lists_under font s least (fuzz_from bound (gaps_in (numbers_at font k))) ks in
    let here = gaps_under s least bound (gaps_in (numbers_at font k)) in
    let parts = either (one_is_small s (gaps_in (numbers_at font k))) (list_any (λ k. one_is_small s (gaps_in (numbers_at font k))) ks) in (
      λ under. let all = rest.0 under in let front = here.0 all.0 in (front.0, parts.1 (front.1, all.1)),
      λ both. let each = parts.0 both.1 in rest.1 (here.1 (both.0, each.0), each.1),
    )

pub fuzz_does_for_all : FuzzDoesForAll
fuzz_does_for_all font fuzz is s least =
    let all = lists_under font s least None zone_keys in
    let bound : IsUnder (fuzz_among font None zone_keys) s ↔ (s ≤ℤ fuzz) = rw is ((λ u. u), (λ u. u)) in
    (λ e. bound.0 (all.1 (tt, e)), λ under. (all.0 (bound.1 under)).1)

lows_under : (font : FontValue) (s : ℤ) → pos 0 ≤ℤ s → (bound : Option ℤ) (lows : List Key)
    → IsUnder (fuzz_across font bound lows) s ↔ (IsUnder bound s × (list_any (λ low. one_is_small s (gaps_across_at font low)) lows ≡ false))
lows_under font s least bound [] = (λ under. (under, refl), λ both. both.0)
lows_under font s least bound (low ∷ lows) =
    let rest = lows_under font s least (fuzz_from bound (gaps_across_at font low)) lows in
    let here = gaps_under s least bound (gaps_across_at font low) in
    let parts = either (one_is_small s (gaps_across_at font low)) (list_any (λ low. one_is_small s (gaps_across_at font low)) lows) in (
      λ under. let all = rest.0 under in let front = here.0 all.0 in (front.0, parts.1 (front.1, all.1)),
      λ both. let each = parts.0 both.1 in rest.1 (here.1 (both.0, each.0), each.1),
    )

greater_is_small : (a b d : ℤ) → (int_lt a d && int_lt b d) ≡ int_lt (int_max a b) d
greater_is_small a b d = go (int_lt a d) refl (int_lt b d) refl
  where
    go : (p : Bool) → int_lt a d ≡ p → (q : Bool) → int_lt b d ≡ q → (p && q) ≡ int_lt (int_max a b) d
    go true less true also = sym (grind (arith, ints, less, also))
    go true less false not_so = sym (grind (arith, ints, less, not_so))
    go false not_so q also = sym (grind (arith, ints, not_so))

pub first_is_greater : (a b : ℤ) → b ≤ℤ a → int_max a b ≡ a
first_is_greater a b le = grind (arith, ints, le)

pub fuzz_does_for_both : FuzzDoesForBoth
fuzz_does_for_both = record {
  greatest = λ font fuzz is s least.
      let all = lows_under font s least None low_zone_keys in
      let bound : IsUnder (fuzz_across font None low_zone_keys) s ↔ (s ≤ℤ fuzz) = rw is ((λ u. u), (λ u. u)) in
      (λ e. bound.0 (all.1 (tt, e)), λ under. (all.0 (bound.1 under)).1);
  near = λ own other d. greater_is_small (other.lower -ℤ own.upper) (own.lower -ℤ other.upper) d;
}

-- ---- numbers of charstrings

room_left : (there : ℕ) → there ≤ most_numbers → ((there == most_numbers) ≡ false) ↔ (there < most_numbers)
room_left there few = (λ e. grind (arith, e, few), λ less. grind (arith, less))

no_more : (taken there : ℕ) → (nat_lt taken there ≡ false) ↔ (there ≤ taken)
no_more taken there = (λ e. grind (arith, e), λ le. grind (arith, le))

within : (z : ℤ) (low high : ℤ) → ((int_lt high z || int_lt z low) ≡ false) ↔ ((low ≤ℤ z) × (z ≤ℤ high))
within z low high =
    let parts = either (int_lt high z) (int_lt z low) in (
      λ e. let each = parts.0 e in (grind (arith, ints, each.1), grind (arith, ints, each.0)),
      λ both. parts.1 (grind (arith, ints, both.1), grind (arith, ints, both.0)),
    )

same : (a b : ℤ) → (not (int_eq a b) ≡ false) ↔ (a ≡ b)
same a b = (λ e. grind (arith, ints, e), λ e. grind (arith, ints, e))

half_way : (one two three : Stem) → one.width ≡ three.width
    → (are_unequal one two three ≡ false) ↔ (pos 2 *ℤ twice_middle two ≡ twice_middle one +ℤ twice_middle three)
half_way one two three equal =
    let parts = either (not (int_eq one.width three.width)) (not (int_eq (pos 2 *ℤ twice_middle two) (twice_middle one +ℤ twice_middle three))) in
    let middle = same (pos 2 *ℤ twice_middle two) (twice_middle one +ℤ twice_middle three) in (
      λ e. middle.0 (parts.0 e).1,
      λ e. parts.1 ((same one.width three.width).1 equal, middle.1 e),
    )

same_point : (one other : Point) → one.x ≡ other.x → one.y ≡ other.y → one ≡ other
same_point one other x y = go one.x one.y other.x other.y x y
  where
    go : (a b c d : ℤ) → a ≡ c → b ≡ d → at a b ≡ at c d
    go a b c d x y = rw (x, y) refl

pub numbers_do : NumbersDo
numbers_do = record {
  counts = λ command taken there. no_more taken there;
  wanted = λ command taken there. no_more there taken;
  room = λ token there few. room_left there few;
  middle = λ one two three equal. half_way one two three equal;
  range = λ place z. within z _ _;
  pen = λ named pen.
      let parts = either (not (int_eq named.x pen.x)) (not (int_eq named.y pen.y)) in (
        λ e. let each = parts.0 e in same_point named pen ((same named.x pen.x).0 each.0) ((same named.y pen.y).0 each.1),
        λ e. parts.1 ((same named.x pen.x).1 (ap (λ p. p.x) e), (same named.y pen.y).1 (ap (λ p. p.y) e)),
      );
  sidebearing = λ told own. (λ e. sym ((same own told).0 e), λ e. (same own told).1 (sym e));
}

-- ---- zone by zone

pub scale_later : (bound : Option ℤ) (v : List ℤ) (found : Option ℤ) → 2 ≤ length v → scale_from bound (zones_in v) ≡ found
    → scale_from (lesser bound (scale_for (get_or v 1 (pos 0) -ℤ get_or v 0 (pos 0)))) (zones_in (take (length v - 2) (drop 2 v))) ≡ found
scale_later bound [] found some whole = absurd (omega arith)
scale_later bound (x ∷ []) found some whole = absurd (omega arith)
scale_later bound (x ∷ (y ∷ v)) found some whole =
    let count : suc (suc (length v)) - 2 ≡ length v = omega arith in
    rw (count, take-length v) whole

pub fuzz_later : (bound : Option ℤ) (v : List ℤ) (found : Option ℤ) → 4 ≤ length v → fuzz_from bound (gaps_in v) ≡ found
    → fuzz_from (lesser bound (Some (fuzz_for (get_or v 2 (pos 0) -ℤ get_or v 1 (pos 0))))) (gaps_in (take (length v - 2) (drop 2 v))) ≡ found
fuzz_later bound [] found some whole = absurd (omega arith)
fuzz_later bound (a ∷ []) found some whole = absurd (omega arith)
fuzz_later bound (a ∷ (b ∷ [])) found some whole = absurd (omega arith)
fuzz_later bound (a ∷ (b ∷ (c ∷ []))) found some whole = absurd (omega arith)
fuzz_later bound (a ∷ (b ∷ (c ∷ (d ∷ v)))) found some whole =
    let count : suc (suc (suc (suc (length v)))) - 2 ≡ suc (suc (length v)) = omega arith in
    rw (count, take-length v) whole

abbrev pub edges_at : List ℤ → Edges
edges_at v = record { lower = get_or v 0 (pos 0); upper = get_or v 1 (pos 0) }

in_both : (bound : Option ℤ) (gaps more : List ℤ) → fuzz_from bound (gaps ++ more) ≡ fuzz_from (fuzz_from bound gaps) more
in_both bound [] more = refl
in_both bound (gap ∷ gaps) more = in_both (lesser bound (Some (fuzz_for gap))) gaps more

pub across_later : (bound : Option ℤ) (v : List ℤ) (highs : List Edges) (found : Option ℤ) → 2 ≤ length v
    → fuzz_from bound (gaps_across (zones_in v) highs) ≡ found
    → fuzz_from (fuzz_from bound (gaps_beside (edges_at v) highs)) (gaps_across (zones_in (take (length v - 2) (drop 2 v))) highs) ≡ found
across_later bound [] highs found some whole = absurd (omega arith)
across_later bound (x ∷ []) highs found some whole = absurd (omega arith)
across_later bound (x ∷ (y ∷ v)) highs found some whole =
    let count : suc (suc (length v)) - 2 ≡ length v = omega arith in
    rw (count, take-length v) (sym (in_both bound (gaps_beside (edges_at (x ∷ (y ∷ v))) highs) (gaps_across (zones_in v) highs)) ∙ whole)

pub beside_later : (bound : Option ℤ) (own : Edges) (v : List ℤ) (found : Option ℤ) → 2 ≤ length v
    → fuzz_from bound (gaps_beside own (zones_in v)) ≡ found
    → fuzz_from (lesser bound (Some (fuzz_for (gap_between own (edges_at v))))) (gaps_beside own (zones_in (take (length v - 2) (drop 2 v)))) ≡ found
beside_later bound own [] found some whole = absurd (omega arith)
beside_later bound own (x ∷ []) found some whole = absurd (omega arith)
beside_later bound own (x ∷ (y ∷ v)) found some whole =
    let count : suc (suc (length v)) - 2 ≡ length v = omega arith in
    rw (count, take-length v) whole
