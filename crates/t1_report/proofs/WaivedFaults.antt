-- What waivers leave of a report, and which waivers have no say.
-- Two reports whose faults pass the same tests at the same places are compared place by place; a waiver is such a test.
use Rattle.std.proofs.Common.{◌≡◌, ℕ, zero, suc, ◌+◌, ◌<◌, ◌≤◌, ◌==◌, ◌&&◌, ◌||◌, not, if◌then◌else◌, cond, Bool, true, false, Option, Some, None, List, [], ◌∷◌, ◌++◌, length, map, slice_get, option_and_then, option_map, inl, inr, refl, sym, subst, ap, ◌∙◌, arith}
use Rattle.std.specs.List.{Any, filter, list_any, position_or_len, slice_index_or}
use Rattle.std.proofs.lemmas.Bool.{cases_lt, eqb-true, eq-eqb, leb-true, le-leb, lt-ltb, true≢false}
use Rattle.std.proofs.lemmas.List.Elements.{All-filter, filter_passes}
use Rattle.std.proofs.lemmas.List.Folds.{list_any-append}
use Rattle.std.proofs.lemmas.List.Kept.{AllPairs-filter}
use Rattle.std.proofs.lemmas.List.Quantifiers.{position-Some}
use Rattle.t1_char.specs.declared.edition.Edition.{Edition}
use Rattle.t1_font.proofs.Tables.{name_exact}
use Rattle.t1_font.specs.Fonts.{FontValue, glyph_name, name_in}
use Rattle.t1_font.specs.Keys.{same_name}
use Rattle.t1_rules.specs.declared.rule.Rule.TheVariants.{U01}
use Rattle.t1_rules.specs.Book.{number_of}
use Rattle.t1_rules.specs.Components.{glyph_named}
use Rattle.t1_report.specs.Checked.{CheckedFont, step_limit}
use Rattle.t1_report.specs.Faults.{FaultValue}
use Rattle.t1_report.specs.Laws.WaivedFaults.{HasNoNameTwice, OrderLeavesFaults, OrderLeavesUses, RepeatedLinesSayNothing, UnusedWaiversChangeNothing, WaivedFaultsAreLeftOut, bare, faults_at, is_in_font, is_left, is_left_in}
use Rattle.t1_report.specs.Reports.{IsBefore, IsReport, IsReportOf, IsRising, IsTold, IsViolationOf, Place, StandsAt, is_broken, is_broken_below, is_told, is_unused, is_used, is_used_by, path_at, place_of, tells_unused}
use Rattle.t1_report.specs.Waivers.{Waiver, is_waived, line_read, lines_read, text_read, waiver_of, with_waiver, without_return}
use Rattle.t1_report.proofs.Broken.{past_glyphs}
use Rattle.t1_report.proofs.HasReport.{quiet_behind}
use Rattle.t1_report.proofs.OneReport.{AreAmong, HavePaths, among_tail, heads_same, rising_tail}
use Rattle.t1_report.proofs.Told.{in_glyph, some_below, told_in_font, told_of_waiver, told_without}

-- ---- lists with the same places

made : Place → List ℕ → FaultValue
made p path = record { number = 0; unit = p.unit; step = p.step; rule = p.rule; path = path }

bare_same : (path_of : Place → List ℕ) (x y : FaultValue) → place_of x ≡ place_of y → x.path ≡ path_of (place_of x) → y.path ≡ path_of (place_of y)
    → bare x ≡ bare y
unfolding made
bare_same path_of x y place path path' = ap (λ (p : Place). made p x.path) place ∙ ap (made (place_of y)) (path ∙ ap path_of place ∙ sym path')

bare_lists : (path_of : Place → List ℕ) (xs ys : List FaultValue) → IsRising xs → IsRising ys → AreAmong xs ys → AreAmong ys xs → HavePaths path_of xs
    → HavePaths path_of ys → map bare xs ≡ map bare ys
bare_lists path_of [] [] rise rise' among among' paths paths' = refl
bare_lists path_of [] (y ∷ ys) rise rise' among among' paths paths' = let found = among' 0 y (omega arith) in absurd (omega (arith, found.2))
bare_lists path_of (x ∷ xs) [] rise rise' among among' paths paths' = let found = among 0 x (omega arith) in absurd (omega (arith, found.2))
bare_lists path_of (x ∷ xs) (y ∷ ys) rise rise' among among' paths paths' =
    let same = heads_same x y xs ys rise rise' among among' in
    let first : bare x ≡ bare y = bare_same path_of x y same (paths 0 x (omega arith)) (paths' 0 y (omega arith)) in
    let rest : map bare xs ≡ map bare ys = bare_lists path_of xs ys (rising_tail x xs rise) (rising_tail y ys rise') (among_tail x y xs ys same rise among)
    (among_tail y x ys xs (sym same) rise' among') (λ i d lt. paths (suc i) d (omega arith)) (λ i d lt. paths' (suc i) d (omega arith)) in
    ap (λ (z : FaultValue). z ∷ map bare xs) first ∙ ap (λ (zs : List FaultValue). bare y ∷ zs) rest

-- What is in a list is in what a test leaves of it, if it passes.
later : (b : Bool) (P : FaultValue → Type 0) (y : FaultValue) (ys : List FaultValue) → Any P ys → Any P (cond b (y ∷ ys) ys)
later true P y ys (k, x, less, at, is) = (suc k, x, omega (arith, less), at, is)
later false P y ys found = found

here : (b : Bool) (P : FaultValue → Type 0) (y : FaultValue) (ys : List FaultValue) → b ≡ true → P y → Any P (cond b (y ∷ ys) ys)
here true P y ys passes is = (0, y, omega arith, refl, is)
here false P y ys passes is = let no : false ≡ true = passes in cc

pub any_left : (P : FaultValue → Type 0) (test : FaultValue → Bool) (ys : List FaultValue) → ((y : FaultValue) → P y → test y ≡ true) → Any P ys
    → Any P (filter test ys)
any_left P test [] good (k, x, less, at, is) = absurd (omega (arith, less))
any_left P test (y ∷ ys) good (zero, x, less, at, is) =
    let holds : P y = subst P (sym at) is in
    here (test y) P y (filter test ys) (good y holds) holds
any_left P test (y ∷ ys) good (suc k, x, less, at, is) =
    later (test y) P y (filter test ys) (any_left P test ys good (k, x, omega (arith, less), at, is))

-- ---- two reports of which tests leave the same places

module _ (One Other : Place → Type 0) (path_of : Place → List ℕ) (one other : Place → Bool) where
  abbrev left_by : (Place → Bool) → FaultValue → Bool
  left_by test fault = test (place_of fault)

  among : (xs ys : List FaultValue) → IsReportOf One path_of xs → IsReportOf Other path_of ys
      → ((p : Place) → One p → one p ≡ true → Other p × (other p ≡ true)) → AreAmong (filter (left_by one) xs) (filter (left_by other) ys)
  among xs ys of_one of_other leads i d less =
      let x = slice_index_or (filter (left_by one) xs) i d in
      let violated : One (place_of x) = (All-filter (left_by one) (IsViolationOf One path_of) xs of_one.violations i d less).violated in
      let passes : one (place_of x) ≡ true = filter_passes (left_by one) xs i d less in
      let there = leads (place_of x) violated passes in
      any_left (StandsAt (place_of x)) (left_by other) ys (λ y stands. ap other stands ∙ there.1) (of_other.complete (place_of x) there.0)

  paths : (xs : List FaultValue) → IsReportOf One path_of xs → HavePaths path_of (filter (left_by one) xs)
  paths xs of_one i d less = (All-filter (left_by one) (IsViolationOf One path_of) xs of_one.violations i d less).path

pub same_left : (One Other : Place → Type 0) (path_of : Place → List ℕ) (one other : Place → Bool) (xs ys : List FaultValue) → IsReportOf One path_of xs
    → IsReportOf Other path_of ys
    → ((p : Place) → One p → one p ≡ true → Other p × (other p ≡ true)) → ((p : Place) → Other p → other p ≡ true → One p × (one p ≡ true))
    → faults_at one xs ≡ faults_at other ys
same_left One Other path_of one other xs ys of_one of_other there back =
    bare_lists path_of (filter (λ f. one (place_of f)) xs) (filter (λ f. other (place_of f)) ys)
    (AllPairs-filter (λ a b. IsBefore (place_of a) (place_of b)) (λ f. one (place_of f)) xs of_one.rising)
    (AllPairs-filter (λ a b. IsBefore (place_of a) (place_of b)) (λ f. other (place_of f)) ys of_other.rising)
    (among One Other path_of one other xs ys of_one of_other there)
    (among Other One path_of other one ys xs of_other of_one back)
    (paths One Other path_of one other xs of_one) (paths Other One path_of other one ys of_other)

-- ---- what is reported of the font and its glyphs

told_left : (font : CheckedFont) (waivers : List Waiver) (unit step n : ℕ) → unit ≤ length font.value.glyphs
    → is_told font waivers unit step n ≡ (is_broken font unit step n && is_left_in font waivers unit n)
told_left font waivers zero step n within = told_in_font font waivers step n ∙ sym (and_true (is_broken font 0 step n))
  where
    and_true : (b : Bool) → (b && true) ≡ b
    and_true true = refl
    and_true false = refl
told_left font waivers (suc glyph) step n within = in_glyph font waivers glyph step n (omega (arith, within))

both : (a b : Bool) → (a && b) ≡ true → (a ≡ true) × (b ≡ true)
both true true is = (refl, refl)
both true false is = let no : false ≡ true = is in cc
both false b is = let no : false ≡ true = is in cc

-- What is broken is in the font or in a glyph.
broken_within : (font : CheckedFont) (unit step n : ℕ) → is_broken font unit step n ≡ true → unit ≤ length font.value.glyphs
broken_within font unit step n is =
    elim (cases_lt (length font.value.glyphs) unit) [
      | inl past ↦ absurd (true≢false (sym is ∙ past_glyphs font unit step n past))
      | inr within ↦ within
    ]

pub waived_faults_are_left_out : WaivedFaultsAreLeftOut
waived_faults_are_left_out font waivers told broken with_waivers without =
    same_left (IsTold font waivers) (IsTold font []) (path_at font) (is_in_font font) (is_left font waivers) told broken with_waivers without there back
  where
    there : (p : Place) → IsTold font waivers p → is_in_font font p ≡ true → IsTold font [] p × (is_left font waivers p ≡ true)
    there p told_there within =
        let parts = both (is_broken font p.unit p.step (number_of p.rule)) (is_left font waivers p)
        (sym (told_left font waivers p.unit p.step (number_of p.rule) (leb-true p.unit (length font.value.glyphs) within)) ∙ told_there) in
        (told_without font p.unit p.step (number_of p.rule) ∙ parts.0, parts.1)

    back : (p : Place) → IsTold font [] p → is_left font waivers p ≡ true → IsTold font waivers p × (is_in_font font p ≡ true)
    back p is left =
        let broken_there : is_broken font p.unit p.step (number_of p.rule) ≡ true = sym (told_without font p.unit p.step (number_of p.rule)) ∙ is in
        let within : p.unit ≤ length font.value.glyphs = broken_within font p.unit p.step (number_of p.rule) broken_there in
        (told_left font waivers p.unit p.step (number_of p.rule) within ∙ rw (broken_there, left) refl, le-leb p.unit (length font.value.glyphs) within)

-- Where the same is reported of the font and its glyphs, their faults are the same.
same_in_font : (font : CheckedFont) (waivers others : List Waiver) (xs ys : List FaultValue) → IsReport font waivers xs → IsReport font others ys
    → ((unit step n : ℕ) → unit ≤ length font.value.glyphs → is_told font waivers unit step n ≡ is_told font others unit step n)
    → faults_at (is_in_font font) xs ≡ faults_at (is_in_font font) ys
same_in_font font waivers others xs ys of_one of_other same =
    same_left (IsTold font waivers) (IsTold font others) (path_at font) (is_in_font font) (is_in_font font) xs ys of_one of_other
    (λ p told within. (sym (same p.unit p.step (number_of p.rule) (leb-true p.unit (length font.value.glyphs) within)) ∙ told, within))
    (λ p told within. (same p.unit p.step (number_of p.rule) (leb-true p.unit (length font.value.glyphs) within) ∙ told, within))

-- ---- the order of waivers

left_alike : (font : CheckedFont) (waivers others : List Waiver) → ((name : List ℕ) (n : ℕ) → is_waived waivers name n ≡ is_waived others name n)
    → (unit n : ℕ) → is_left_in font waivers unit n ≡ is_left_in font others unit n
left_alike font waivers others same zero n = refl
left_alike font waivers others same (suc glyph) n = ap not (same (glyph_name font.value glyph) n)

pub order_leaves_faults : OrderLeavesFaults
order_leaves_faults font waivers others told other same of_one of_other =
    same_in_font font waivers others told other of_one of_other
    (λ unit step n within.
    told_left font waivers unit step n within
    ∙ ap (λ b. is_broken font unit step n && b) (left_alike font waivers others same unit n)
    ∙ sym (told_left font others unit step n within))

told_at : (font : CheckedFont) (waivers : List Waiver) (w : Waiver) (i n : ℕ) → slice_get waivers i ≡ Some w
    → is_told font waivers (length font.value.glyphs + 1) (i + 1) n ≡ (number_of U01 == n && not (is_used font w))
told_at font waivers w i n there =
    let next : i + 1 ≡ suc i = omega arith in
    told_of_waiver font waivers (length font.value.glyphs + 1) (i + 1) n refl
    ∙ ap (λ s. tells_unused font waivers s n) next
    ∙ ap (λ found. number_of U01 == n && is_unused font found) there

pub order_leaves_uses : OrderLeavesUses
order_leaves_uses font waivers others w i j n there there' = told_at font waivers w i n there ∙ sym (told_at font others w j n there')

-- ---- a waiver that is omitted

-- It waives what it says, and the others what they said.
one_more : (front back : List Waiver) (w : Waiver) (name : List ℕ) (n : ℕ)
    → is_waived (front ++ w ∷ back) name n ≡ ((same_name name w.0 && n == number_of w.1) || is_waived (front ++ back) name n)
one_more front back w name n =
    list_any-append waives front (w ∷ back) ∙ swapped (list_any waives front) (waives w) (list_any waives back)
    ∙ ap (λ b. waives w || b) (sym (list_any-append waives front back))
  where
    waives : Waiver → Bool
    waives v = same_name name v.0 && n == number_of v.1

    swapped : (a b c : Bool) → (a || (b || c)) ≡ (b || (a || c))
    swapped true true c = refl
    swapped true false c = refl
    swapped false b c = refl

get_behind : (front back : List Waiver) (w : Waiver) → slice_get (front ++ w ∷ back) (length front) ≡ Some w
get_behind [] back w = refl
get_behind (v ∷ front) back w = get_behind front back w

abbrev names : List (List ℕ × List ℕ) → List (List ℕ)
names glyphs = map (λ g. g.0) glyphs

names_count : (glyphs : List (List ℕ × List ℕ)) → length (names glyphs) ≡ length glyphs
names_count [] = refl
names_count (g ∷ gs) = ap (λ (n : ℕ). suc n) (names_count gs)

-- The name at a place.
name_at : (glyphs : List (List ℕ × List ℕ)) (place : ℕ) (d : List ℕ) → place < length glyphs → slice_index_or (names glyphs) place d
    ≡ name_in (slice_get glyphs place)
name_at [] place d less = absurd (omega (arith, less))
name_at (g ∷ gs) zero d less = refl
name_at (g ∷ gs) (suc place) d less = name_at gs place d (omega (arith, less))

-- The first of a name is no later than one that has it.
first_by : (glyphs : List (List ℕ × List ℕ)) (name : List ℕ) (place : ℕ) → place < length glyphs → name ≡ name_in (slice_get glyphs place)
    → position_or_len (same_name name) (names glyphs) ≤ place
first_by [] name place less is = absurd (omega (arith, less))
first_by (g ∷ gs) name zero less is =
    let passes : same_name name g.0 ≡ true = subst (λ other. same_name name other ≡ true) is (name_exact.same name) in
    let at : position_or_len (same_name name) (names (g ∷ gs)) ≡ 0 = rw passes refl in
    omega (arith, at)
first_by (g ∷ gs) name (suc place) less is = go (same_name name g.0) refl (first_by gs name place (omega (arith, less)) is)
  where
    go : (b : Bool) → same_name name g.0 ≡ b → position_or_len (same_name name) (names gs) ≤ place
        → position_or_len (same_name name) (names (g ∷ gs)) ≤ suc place
    go true e rest = let at : position_or_len (same_name name) (names (g ∷ gs)) ≡ 0 = rw e refl in omega (arith, at)
    go false e rest = let at : position_or_len (same_name name) (names (g ∷ gs)) ≡ 1 + position_or_len (same_name name) (names gs) = rw e refl in omega
        (arith, at, rest)

-- What is found has the name.
found_has : (font : FontValue) (name : List ℕ) (glyph : ℕ) → glyph_named font name ≡ Some glyph → (glyph < length font.glyphs) × (name ≡ glyph_name font glyph)
found_has font name glyph is =
    let found = position-Some (same_name name) (names font.glyphs) glyph [] is in
    let there : glyph < length font.glyphs = omega (arith, found.0, names_count font.glyphs) in
    (there, name_exact.exact name (slice_index_or (names font.glyphs) glyph []) found.1 ∙ name_at font.glyphs glyph [] there)

-- A glyph is found by its name, where no other has that.
named_by : (font : FontValue) → HasNoNameTwice font → (name : List ℕ) (glyph : ℕ) → glyph < length font.glyphs → name ≡ glyph_name font glyph
    → glyph_named font name ≡ Some glyph
named_by font once name glyph there is =
    let place = position_or_len (same_name name) (names font.glyphs) in
    let first : place ≤ glyph = first_by font.glyphs name glyph there is in
    let some : glyph_named font name ≡ Some place =
    rw (lt-ltb place (length (names font.glyphs)) (omega (arith, first, there, names_count font.glyphs))) refl in
    let found = found_has font name place some in
    some ∙ ap (λ g. Some g) (once place glyph found.0 there (sym found.1 ∙ is))

-- ---- whether a waiver is used

from_below : (font : CheckedFont) (unit count n : ℕ) → is_broken_below font unit count n ≡ true → (s : ℕ) × (is_broken font unit s n ≡ true)
unfolding is_broken_below
from_below font unit zero n is = let no : false ≡ true = is in cc
from_below font unit (suc s) n is = go (is_broken font unit s n) refl is (from_below font unit s n)
  where
    go : (b : Bool) → is_broken font unit s n ≡ b → (b || is_broken_below font unit s n) ≡ true
        → (is_broken_below font unit s n ≡ true → (t : ℕ) × (is_broken font unit t n ≡ true)) → (t : ℕ) × (is_broken font unit t n ≡ true)
    go true here is rest = (s, here)
    go false here is rest = rest is

-- No glyph of its name breaks the rule of a waiver that isn't used.
never_broken : (font : CheckedFont) (w : Waiver) → HasNoNameTwice font.value → is_used font w ≡ false → (glyph : ℕ) → glyph < length font.value.glyphs
    → w.0 ≡ glyph_name font.value glyph
    → (s : ℕ) → is_broken font (suc glyph) s (number_of w.1) ≡ false
never_broken font w once unused glyph there is s =
    let named : glyph_named font.value w.0 ≡ Some glyph = named_by font.value once w.0 glyph there is in
    let none : is_broken_below font (suc glyph) (step_limit font + 2) (number_of w.1) ≡ false = sym (ap (is_used_by font (number_of w.1)) named) ∙ unused in
    elim (cases_lt s (step_limit font + 2)) [
      | inl less ↦ go (is_broken font (suc glyph) s (number_of w.1)) refl none less
      | inr past ↦ quiet_behind font glyph s w.1 past
    ]
  where
    go : (b : Bool) → is_broken font (suc glyph) s (number_of w.1) ≡ b → is_broken_below font (suc glyph) (step_limit font + 2) (number_of w.1) ≡ false
        → s < step_limit font + 2
        → is_broken font (suc glyph) s (number_of w.1) ≡ false
    go false e none less = e
    go true e none less = absurd (true≢false (sym (some_below font (suc glyph) (step_limit font + 2) (number_of w.1) s less e) ∙ none))

-- So the same is reported without it.
same_without : (font : CheckedFont) (front back : List Waiver) (w : Waiver) → HasNoNameTwice font.value → is_used font w ≡ false
    → (unit step n : ℕ) → unit ≤ length font.value.glyphs → is_told font (front ++ w ∷ back) unit step n ≡ is_told font (front ++ back) unit step n
same_without font front back w once unused zero step n within =
    told_left font (front ++ w ∷ back) 0 step n within ∙ sym (told_left font (front ++ back) 0 step n within)
same_without font front back w once unused (suc glyph) step n within =
    told_left font (front ++ w ∷ back) (suc glyph) step n within
    ∙ ap (λ waived. is_broken font (suc glyph) step n && not waived) (one_more front back w name n)
    ∙ go (same_name name w.0) (n == number_of w.1) refl refl
    ∙ sym (told_left font (front ++ back) (suc glyph) step n within)
  where
    name : List ℕ
    name = glyph_name font.value glyph

    go : (a b : Bool) → same_name name w.0 ≡ a → (n == number_of w.1) ≡ b
        → (is_broken font (suc glyph) step n && not ((a && b) || is_waived (front ++ back) name n))
        ≡ (is_broken font (suc glyph) step n && not (is_waived (front ++ back) name n))
    go false b e f = refl
    go true false e f = refl
    go true true e f =
        let quiet : is_broken font (suc glyph) step (number_of w.1) ≡ false =
        never_broken font w once unused glyph (omega (arith, within)) (sym (name_exact.exact name w.0 e)) step in
        let none : is_broken font (suc glyph) step n ≡ false = ap (λ k. is_broken font (suc glyph) step k) (eqb-true n (number_of w.1) f) ∙ quiet in
        rw none refl

-- ---- faults without their numbers

any_bare : (p : Place) (xs : List FaultValue) → Any (StandsAt p) xs → Any (StandsAt p) (map bare xs)
any_bare p [] (k, x, less, at, is) = absurd (omega (arith, less))
any_bare p (y ∷ ys) (zero, x, less, at, is) = (0, bare x, omega arith, ap bare at, is)
any_bare p (y ∷ ys) (suc k, x, less, at, is) = next (any_bare p ys (k, x, omega (arith, less), at, is))
  where
    next : Any (StandsAt p) (map bare ys) → Any (StandsAt p) (map bare (y ∷ ys))
    next (j, z, less, at, is) = (suc j, z, omega (arith, less), at, is)

any_numbered : (p : Place) (xs : List FaultValue) → Any (StandsAt p) (map bare xs) → Any (StandsAt p) xs
any_numbered p [] (k, x, less, at, is) = absurd (omega (arith, less))
any_numbered p (y ∷ ys) (zero, x, less, at, is) = (0, y, omega arith, refl, ap place_of at ∙ is)
any_numbered p (y ∷ ys) (suc k, x, less, at, is) = next (any_numbered p ys (k, x, omega (arith, less), at, is))
  where
    next : Any (StandsAt p) ys → Any (StandsAt p) (y ∷ ys)
    next (j, z, less, at, is) = (suc j, z, omega (arith, less), at, is)

-- What is among the faults of the font and its glyphs is reported.
told_there : (font : CheckedFont) (waivers : List Waiver) (xs : List FaultValue) (p : Place) → IsReport font waivers xs
    → Any (StandsAt p) (filter (λ f. is_in_font font (place_of f)) xs) → IsTold font waivers p
told_there font waivers xs p of_xs (k, x, less, at, is) =
    subst (IsTold font waivers) is (subst (λ f. IsTold font waivers (place_of f)) at
    (All-filter (λ f. is_in_font font (place_of f)) (IsViolationOf (IsTold font waivers) (path_at font)) xs of_xs.violations k x less).violated)

-- A used waiver changes the faults: one that it waives is reported without it.
used_changes : (font : CheckedFont) (front back : List Waiver) (w : Waiver) (told without : List FaultValue)
    → is_waived (front ++ back) w.0 (number_of w.1) ≡ false
    → IsReport font (front ++ w ∷ back) told → IsReport font (front ++ back) without → faults_at (is_in_font font) told ≡ faults_at (is_in_font font) without
    → (glyph s : ℕ) → glyph < length font.value.glyphs → w.0 ≡ glyph_name font.value glyph → is_broken font (suc glyph) s (number_of w.1) ≡ true → ⊥
used_changes font front back w told without alone of_told of_without same glyph s there is broken =
    let n = number_of w.1 in
    let p : Place = record { unit = suc glyph; step = s; rule = w.1 } in
    let within : suc glyph ≤ length font.value.glyphs = omega (arith, there) in
    let name = glyph_name font.value glyph in
    let kept : is_waived (front ++ back) name n ≡ false = ap (λ (m : List ℕ). is_waived (front ++ back) m n) (sym is) ∙ alone in
    let told_without : IsTold font (front ++ back) p = told_left font (front ++ back) (suc glyph) s n within ∙ rw (broken, kept) refl in
    let in_without : Any (StandsAt p) (filter (λ f. is_in_font font (place_of f)) without) =
    any_left (StandsAt p) (λ f. is_in_font font (place_of f)) without (λ y stands. ap (is_in_font font) stands ∙ le-leb (suc glyph) (length font.value.glyphs)
    within) (of_without.complete p told_without) in
    let in_told : Any (StandsAt p) (filter (λ f. is_in_font font (place_of f)) told) =
    any_numbered p (filter (λ f. is_in_font font (place_of f)) told)
    (subst (Any (StandsAt p)) (sym same) (any_bare p (filter (λ f. is_in_font font (place_of f)) without) in_without)) in
    let told_with : is_told font (front ++ w ∷ back) (suc glyph) s n ≡ true = told_there font (front ++ w ∷ back) told p of_told in_told in
    let own : same_name name w.0 ≡ true = subst (λ (m : List ℕ). same_name m w.0 ≡ true) is (name_exact.same w.0) in
    let waived : is_waived (front ++ w ∷ back) name n ≡ true = one_more front back w name n ∙ rw (own, eq-eqb n n refl) refl in
    let untold : is_told font (front ++ w ∷ back) (suc glyph) s n ≡ false = told_left font (front ++ w ∷ back) (suc glyph) s n within
    ∙ rw (broken, waived) refl in
    true≢false (sym told_with ∙ untold)

pub unused_waivers_change_nothing : UnusedWaiversChangeNothing
unused_waivers_change_nothing font front back w told without once alone of_told of_without = (changes_nothing, is_unused_so)
  where
    at : is_told font (front ++ w ∷ back) (length font.value.glyphs + 1) (length front + 1) (number_of U01)
        ≡ (number_of U01 == number_of U01 && not (is_used font w))
    at = told_at font (front ++ w ∷ back) w (length front) (number_of U01) (get_behind front back w)

    not_used : (b : Bool) → (number_of U01 == number_of U01 && not b) ≡ true → b ≡ false
    not_used false is = refl
    not_used true is = let no : false ≡ true = is in cc

    changes_nothing : is_told font (front ++ w ∷ back) (length font.value.glyphs + 1) (length front + 1) (number_of U01) ≡ true
        → faults_at (is_in_font font) told ≡ faults_at (is_in_font font) without
    changes_nothing is = same_in_font font (front ++ w ∷ back) (front ++ back) told without of_told of_without
        (same_without font front back w once (not_used (is_used font w) (sym at ∙ is)))

    by_glyph : (found : Option ℕ) → glyph_named font.value w.0 ≡ found → is_used_by font (number_of w.1) found ≡ true → faults_at (is_in_font font) told
        ≡ faults_at (is_in_font font) without → ⊥
    by_glyph None named is same = let no : false ≡ true = is in cc
    by_glyph (Some glyph) named is same =
        let has = found_has font.value w.0 glyph named in
        let broken = from_below font (suc glyph) (step_limit font + 2) (number_of w.1) is in
        used_changes font front back w told without alone of_told of_without same glyph broken.0 has.0 has.1 broken.1

    go : (b : Bool) → is_used font w ≡ b → faults_at (is_in_font font) told ≡ faults_at (is_in_font font) without
        → is_told font (front ++ w ∷ back) (length font.value.glyphs + 1) (length front + 1) (number_of U01) ≡ true
    go false unused same = at ∙ ap (λ b. number_of U01 == number_of U01 && not b) unused
    go true used same = absurd (by_glyph (glyph_named font.value w.0) refl used same)

    is_unused_so : faults_at (is_in_font font) told ≡ faults_at (is_in_font font) without → is_told font (front ++ w ∷ back) (length font.value.glyphs + 1)
        (length front + 1) (number_of U01) ≡ true
    is_unused_so same = go (is_used font w) refl same

-- ---- lines that were there before

-- The waivers have what a line's text says.
is_said_by : List Waiver → Option Waiver → Bool
is_said_by waivers None = false
is_said_by waivers (Some w) = is_waived waivers w.0 (number_of w.1)

is_said : Edition → List Waiver → List ℕ → Bool
is_said edition waivers [] = true
is_said edition waivers (b ∷ text) = is_said_by waivers (waiver_of edition (b ∷ text))

-- Then it says nothing more.
said_again : (edition : Edition) (waivers : List Waiver) (text : List ℕ) → is_said edition waivers text ≡ true → text_read edition waivers text ≡ Some waivers
unfolding is_said is_said_by
said_again edition waivers [] said = refl
said_again edition waivers (b ∷ text) said = go (waiver_of edition (b ∷ text)) said
  where
    go : (w : Option Waiver) → is_said_by waivers w ≡ true → option_map (with_waiver waivers) w ≡ Some waivers
    go None said = let no : false ≡ true = said in cc
    go (Some w) said = rw said refl

waived_still : (waivers : List Waiver) (w : Waiver) (name : List ℕ) (n : ℕ) → is_waived waivers name n ≡ true → is_waived (with_waiver waivers w) name n ≡ true
waived_still waivers w name n is = go (is_waived waivers w.0 (number_of w.1))
  where
    go : (b : Bool) → is_waived (if b then waivers else waivers ++ w ∷ []) name n ≡ true
    go true = is
    go false = list_any-append (λ v. same_name name v.0 && n == number_of v.1) waivers (w ∷ []) ∙ rw is refl

waived_now : (waivers : List Waiver) (w : Waiver) → is_waived (with_waiver waivers w) w.0 (number_of w.1) ≡ true
waived_now waivers w = go (is_waived waivers w.0 (number_of w.1)) refl
  where
    ends : (a : Bool) → (a || (true || false)) ≡ true
    ends true = refl
    ends false = refl

    go : (b : Bool) → is_waived waivers w.0 (number_of w.1) ≡ b → is_waived (if b then waivers else waivers ++ w ∷ []) w.0 (number_of w.1) ≡ true
    go true is = is
    go false is =
        list_any-append (λ v. same_name w.0 v.0 && number_of w.1 == number_of v.1) waivers (w ∷ [])
        ∙ rw (name_exact.same w.0, eq-eqb (number_of w.1) (number_of w.1) refl)
        (ends (list_any (λ v. same_name w.0 v.0 && number_of w.1 == number_of v.1) waivers))

said_once : (edition : Edition) (waivers more : List Waiver) (text : List ℕ) → text_read edition waivers text ≡ Some more → is_said edition more text ≡ true
unfolding is_said is_said_by
said_once edition waivers more [] read = refl
said_once edition waivers more (b ∷ text) read = go (waiver_of edition (b ∷ text)) read
  where
    go : (w : Option Waiver) → option_map (with_waiver waivers) w ≡ Some more → is_said_by more w ≡ true
    go None read = let no : None ≡ Some more = read in cc
    go (Some w) read = let same : with_waiver waivers w ≡ more = cc in subst (λ ws. is_waived ws w.0 (number_of w.1) ≡ true) same (waived_now waivers w)

said_still : (edition : Edition) (waivers more : List Waiver) (text other : List ℕ) → is_said edition waivers text ≡ true → text_read edition waivers other ≡ Some more → is_said edition more text ≡ true
unfolding is_said is_said_by
said_still edition waivers more [] other said read = refl
said_still edition waivers more (b ∷ text) other said read = go (waiver_of edition (b ∷ text)) said
  where
    still : (other : List ℕ) → text_read edition waivers other ≡ Some more → (name : List ℕ) (n : ℕ) → is_waived waivers name n ≡ true → is_waived more name n ≡ true
    still [] read name n is = let same : waivers ≡ more = cc in subst (λ ws. is_waived ws name n ≡ true) same is
    still (c ∷ cs) read name n is = by (waiver_of edition (c ∷ cs)) read
      where
        by : (w : Option Waiver) → option_map (with_waiver waivers) w ≡ Some more → is_waived more name n ≡ true
        by None read = let no : None ≡ Some more = read in cc
        by (Some w) read = let same : with_waiver waivers w ≡ more = cc in subst (λ ws. is_waived ws name n ≡ true) same (waived_still waivers w name n is)

    go : (w : Option Waiver) → is_said_by waivers w ≡ true → is_said_by more w ≡ true
    go None said = said
    go (Some w) said = still other read w.0 (number_of w.1) said

-- What is after the first line of lines, read or not.
then_alike : (one other : List Waiver → Option (List Waiver)) (found : Option (List Waiver))
    → ((more : List Waiver) → found ≡ Some more → one more ≡ other more) → option_and_then one found ≡ option_and_then other found
then_alike one other None same = refl
then_alike one other (Some more) same = same more refl

passed_over : (edition : Edition) (waivers : List Waiver) (middle back : List (List ℕ)) (line : List ℕ) → is_said edition waivers (without_return line) ≡ true
    → lines_read edition waivers (middle ++ line ∷ back) ≡ lines_read edition waivers (middle ++ back)
unfolding lines_read
passed_over edition waivers [] back line said = ap (option_and_then (λ more. lines_read edition more back)) (said_again edition waivers (without_return line) said)
passed_over edition waivers (l ∷ middle) back line said =
    then_alike (λ more. lines_read edition more (middle ++ line ∷ back)) (λ more. lines_read edition more (middle ++ back)) (line_read edition waivers l)
    (λ more read. passed_over edition more middle back line (said_still edition waivers more (without_return line) (without_return l) said read))

repeated : (edition : Edition) (waivers : List Waiver) (front middle back : List (List ℕ)) (line : List ℕ)
    → lines_read edition waivers (front ++ line ∷ (middle ++ line ∷ back)) ≡ lines_read edition waivers (front ++ line ∷ (middle ++ back))
unfolding lines_read
repeated edition waivers [] middle back line =
    then_alike (λ more. lines_read edition more (middle ++ line ∷ back)) (λ more. lines_read edition more (middle ++ back)) (line_read edition waivers line)
    (λ more read. passed_over edition more middle back line (said_once edition waivers more (without_return line) read))
repeated edition waivers (l ∷ front) middle back line =
    then_alike (λ more. lines_read edition more (front ++ line ∷ (middle ++ line ∷ back)))
    (λ more. lines_read edition more (front ++ line ∷ (middle ++ back))) (line_read edition waivers l)
    (λ more read. repeated edition more front middle back line)

pub repeated_lines_say_nothing : RepeatedLinesSayNothing
repeated_lines_say_nothing edition front middle back line = repeated edition [] front middle back line
