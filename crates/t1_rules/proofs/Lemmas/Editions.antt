-- Where the editions agree, and what the second has of its own.
use Rattle.std.proofs.Common.{◌≡◌, ℕ, zero, suc, ◌<◌, ◌≤◌, ◌==◌, ◌&&◌, ◌||◌, not, if◌then◌else◌, Bool, true, false, Option, Some, None, List, [], ◌∷◌, ◌++◌, length, map, take, drop, flat_map, slice_index_or, refl, sym, subst, ◌∙◌, ap, arith}
use Rattle.std.specs.List.{list_any, range_with_len}
use Rattle.std.proofs.Math.Bool.{and-false}
use Rattle.std.proofs.lemmas.Bool.{and_parts, eqb-true, ne_eqb}
use Rattle.std.proofs.lemmas.List.{take_all}
use Rattle.std.proofs.lemmas.List.Folds.{list_any-append}
use Rattle.t1_char.specs.declared.command.Command.{Command as Commands}
use Rattle.t1_char.specs.declared.edition.Edition.{Edition}
use Rattle.t1_char.specs.declared.edition.Edition.TheVariants.{Four, One, Three, Two}
use Rattle.t1_char.specs.Arguments.{is_hint_replacement}
use Rattle.t1_char.specs.Editions.{limit_of}
use Rattle.t1_char.specs.Steps.{StepView, steps_of}
use Rattle.t1_font.specs.Fonts.{FontValue, after_last}
use Rattle.t1_rules.specs.declared.rule.Rule.TheVariants.{H02}
use Rattle.t1_rules.specs.declared.sidebearings.Component.{Component}
use Rattle.t1_rules.specs.declared.step_rules.stems.Stem.{Stem}
use Rattle.t1_rules.specs.Book.{number_of}
use Rattle.t1_rules.specs.Components.{component_at, component_in, component_named, component_of_glyph, components_of, glyph_named, missing}
use Rattle.t1_rules.specs.Laws.Editions.{EditionsAgreeOnOtherRules, EditionsAgreeOnShortComponents, EditionsAgreeOnUsualSteps, EditionsAgreeWithoutOneEdge, HasShortComponents, OneEdgeOverlapsNothing, OtherStemsOverlapAsBefore, OverlapByIsMutual, SecondTellsNoMore, SecondTellsNoMoreInFonts, StemsAreKept, sets_one_edge}
use Rattle.t1_rules.specs.StandardEncoding.{standard_name}
use Rattle.t1_rules.specs.StepRules.{StepRule, row, argument_rules, call_rules, charstring_rules, component_rules, flex_rules, othersubr_rules, path_rules, seac_rules, stem_rules, step_rules, breaks, triple_rules, counter_rules}
use Rattle.t1_rules.specs.StepRules.Seac.{accent_code, base_code, component_of_code, is_lacking, is_named, lacks_component}
use Rattle.t1_rules.specs.StepRules.Stems.{overlap, has_one_edge, hint_set, lies_across, one_overlaps, overlap_by, overlap_in, sets_overlapping, stands_upright, stems_in, stems_meet, stems_of, two_overlap}
use Rattle.t1_rules.specs.StepRules.Tokens.{is_command}
use Rattle.t1_rules.proofs.Lemmas.ComponentLaws.{map_same}
use Rattle.t1_rules.proofs.Lemmas.Overlaps.{overlap_is_mutual}
use Rattle.t1_rules.proofs.Lemmas.StepRules.{none_broken, row_decides}
use Rattle.t1_rules.proofs.Lemmas.Stems.{hint_set_goes_on}
use Rattle.t1_char.specs.Seacs.{is_seac}

neither : (a b : Bool) → (a || b) ≡ false → (a ≡ false) × (b ≡ false)
neither false false none = (refl, refl)
neither false true none = let no : true ≡ false = none in cc
neither true b none = let no : true ≡ false = none in cc

-- ---- stems of one edge

turned : (a b : Bool) → (a || b) ≡ (b || a)
turned true true = refl
turned true false = refl
turned false true = refl
turned false false = refl

pub overlap_by_is_mutual : OverlapByIsMutual
overlap_by_is_mutual One one other = overlap_is_mutual one other
overlap_by_is_mutual Two one other = rw (turned (has_one_edge one) (has_one_edge other), overlap_is_mutual one other) refl
overlap_by_is_mutual Three one other = rw (turned (has_one_edge one) (has_one_edge other), overlap_is_mutual one other) refl
overlap_by_is_mutual Four one other = rw (turned (has_one_edge one) (has_one_edge other), overlap_is_mutual one other) refl

pub one_edge_overlaps_nothing : OneEdgeOverlapsNothing
one_edge_overlaps_nothing one other edge = rw edge refl

pub other_stems_overlap_as_before : OtherStemsOverlapAsBefore
other_stems_overlap_as_before one other none = rw none refl

pub stems_are_kept : StemsAreKept
stems_are_kept direction before step other sets = hint_set_goes_on direction before step ∙ rw (other, sets) refl

-- ---- steps that set no such stem

pub none_taken : {A : Type 0} (f : A → Bool) (xs : List A) (n : ℕ) → list_any f xs ≡ false → list_any f (take n xs) ≡ false
none_taken f xs zero none = refl
none_taken f [] (suc n) none = refl
none_taken f (x ∷ xs) (suc n) none =
    let parts = neither (f x) (list_any f xs) none in
    rw (parts.0, none_taken f xs n parts.1) refl

none_after : (last f : StepView → Bool) (steps : List StepView) → list_any f steps ≡ false → list_any f (after_last last steps) ≡ false
none_after last f [] none = refl
none_after last f (s ∷ ss) none = go (list_any last ss) (last s) (none_after last f ss (neither (f s) (list_any f ss) none).1)
  where
    go : (a b : Bool) → list_any f (after_last last ss) ≡ false → list_any f (if a then after_last last ss else (if b then ss else s ∷ ss)) ≡ false
    go true b later = later
    go false true later = (neither (f s) (list_any f ss) none).1
    go false false later = none

-- A step sets a stem of one edge in a direction.
abbrev sets_in : (Commands → Bool) → StepView → Bool
sets_in direction step = list_any has_one_edge (stems_in direction step)

none_in : (direction : Commands → Bool) (steps : List StepView) → list_any (sets_in direction) steps ≡ false
    → list_any has_one_edge (flat_map (stems_in direction) steps) ≡ false
none_in direction [] none = refl
none_in direction (s ∷ ss) none =
    let parts = neither (sets_in direction s) (list_any (sets_in direction) ss) none in
    list_any-append has_one_edge (stems_in direction s) (flat_map (stems_in direction) ss)
    ∙ rw (parts.0, none_in direction ss parts.1) refl

none_kept : (direction : Commands → Bool) (before : List StepView) → list_any (sets_in direction) before ≡ false
    → list_any has_one_edge (hint_set direction before) ≡ false
none_kept direction before none =
    none_taken has_one_edge (flat_map (stems_in direction) (after_last is_hint_replacement before)) 96
    (none_in direction (after_last is_hint_replacement before) (none_after is_hint_replacement (sets_in direction) before none))

-- In neither direction, where in none.
in_both : (f g : StepView → Bool) (steps : List StepView) → list_any (λ s. f s || g s) steps ≡ false → (list_any f steps ≡ false) × (list_any g steps ≡ false)
in_both f g [] none = (refl, refl)
in_both f g (s ∷ ss) none =
    let parts = neither (f s || g s) (list_any (λ t. f t || g t) ss) none in
    let here = neither (f s) (g s) parts.0 in
    let rest = in_both f g ss parts.1 in
    (rw (here.0, rest.0) refl, rw (here.1, rest.1) refl)

any_same : (one : Stem) (others : List Stem) → has_one_edge one ≡ false → list_any has_one_edge others ≡ false → list_any (overlap_by Two one) others
    ≡ list_any (overlap_by One one) others
any_same one [] plain none = refl
any_same one (other ∷ others) plain none =
    let parts = neither (has_one_edge other) (list_any has_one_edge others) none in
    ap (λ b. b || list_any (overlap_by Two one) others) (other_stems_overlap_as_before one other (rw (plain, parts.0) refl))
    ∙ ap (λ b. overlap_by One one other || b) (any_same one others plain parts.1)

one_same : (stems kept : List Stem) → list_any has_one_edge stems ≡ false → list_any has_one_edge kept ≡ false → one_overlaps (overlap_by Two) stems kept
    ≡ one_overlaps (overlap_by One) stems kept
one_same [] kept none plain = refl
one_same (stem ∷ stems) kept none plain =
    let parts = neither (has_one_edge stem) (list_any has_one_edge stems) none in
    ap (λ b. b || one_overlaps (overlap_by Two) stems kept) (any_same stem kept parts.0 plain)
    ∙ ap (λ b. list_any (overlap_by One stem) kept || b) (one_same stems kept parts.1 plain)

two_same : (stems : List Stem) → list_any has_one_edge stems ≡ false → two_overlap (overlap_by Two) stems ≡ two_overlap (overlap_by One) stems
two_same [] none = refl
two_same (stem ∷ stems) none =
    let parts = neither (has_one_edge stem) (list_any has_one_edge stems) none in
    ap (λ b. b || two_overlap (overlap_by Two) stems) (any_same stem stems parts.0 parts.1)
    ∙ ap (λ b. list_any (overlap_by One stem) stems || b) (two_same stems parts.1)

meet_same : (stems kept : List Stem) → list_any has_one_edge stems ≡ false → list_any has_one_edge kept ≡ false → stems_meet (overlap_by Two) stems kept
    ≡ stems_meet (overlap_by One) stems kept
meet_same stems kept none plain =
    ap (λ b. b || two_overlap (overlap_by Two) stems) (one_same stems kept none plain)
    ∙ ap (λ b. one_overlaps (overlap_by One) stems kept || b) (two_same stems none)

direction_same : (direction : Commands → Bool) (before : List StepView) (step : StepView) → list_any (sets_in direction) before ≡ false
    → sets_in direction step ≡ false
    → overlap_in (overlap_by Two) direction before step ≡ overlap_in (overlap_by One) direction before step
direction_same direction before step none_before none_here = go (is_command direction step.token) none_here
  where
    kept : List Stem
    kept = hint_set direction before

    go : (b : Bool) → list_any has_one_edge (if b then stems_of step else []) ≡ false → (b && stems_meet (overlap_by Two) (stems_of step) kept)
        ≡ (b && stems_meet (overlap_by One) (stems_of step) kept)
    go true none = meet_same (stems_of step) kept none (none_kept direction before none_before)
    go false none = refl

overlapping_same : (before : List StepView) (step : StepView) → list_any sets_one_edge before ≡ false → sets_one_edge step ≡ false
    → sets_overlapping (overlap_by Two) before step ≡ sets_overlapping (overlap_by One) before step
overlapping_same before step none_before none_here =
    let parts = in_both (sets_in lies_across) (sets_in stands_upright) before none_before in
    let here = neither (sets_in lies_across step) (sets_in stands_upright step) none_here in
    ap (λ b. b || overlap_in (overlap_by Two) stands_upright before step) (direction_same lies_across before step parts.0 here.0)
    ∙ ap (λ b. overlap_in (overlap_by One) lies_across before step || b) (direction_same stands_upright before step parts.1 here.1)

-- ---- the rules on steps

-- A row of another number has no say.
other_row : (n : ℕ) (front rest : List StepRule) (one other : StepRule) → (number_of one.rule == n) ≡ false → (number_of other.rule == n) ≡ false
    → (before : List StepView) (step : StepView) → breaks (front ++ one ∷ rest) n before step ≡ breaks (front ++ other ∷ rest) n before step
other_row n [] rest one other not_one not_other before step =
    rw (not_one, not_other, and-false (one.is_broken before step), and-false (other.is_broken before step)) refl
other_row n (r ∷ front) rest one other not_one not_other before step =
    ap (λ more. (r.is_broken before step && number_of r.rule == n) || more) (other_row n front rest one other not_one not_other before step)

step_rules_agree : (n : ℕ) (before : List StepView) (step : StepView) → (47 == n) ≡ false → breaks (step_rules Two) n before step
    ≡ breaks (step_rules One) n before step
unfolding step_rules argument_rules call_rules path_rules stem_rules flex_rules othersubr_rules seac_rules triple_rules counter_rules
step_rules_agree n before step apart =
    other_row n (take 21 (step_rules One)) (drop 22 (step_rules One)) (row H02 (sets_overlapping (overlap_by Two)))
    (row H02 (sets_overlapping (overlap_by One)))
    apart apart before step

stem_row : (edition : Edition) (before : List StepView) (step : StepView) → breaks (step_rules edition) 47 before step ≡ sets_overlapping
    (overlap_by edition) before step
unfolding step_rules argument_rules call_rules path_rules stem_rules flex_rules othersubr_rules seac_rules triple_rules counter_rules
stem_row edition before step = row_decides 47 (step_rules edition) 21 _ refl refl refl refl before step

pub agree_without_one_edge : EditionsAgreeWithoutOneEdge
agree_without_one_edge n before step none_before none_here = go (47 == n) refl
  where
    go : (b : Bool) → (47 == n) ≡ b → breaks (step_rules Two) n before step ≡ breaks (step_rules One) n before step
    go false apart = step_rules_agree n before step apart
    go true same =
        subst (λ k. breaks (step_rules Two) k before step ≡ breaks (step_rules One) k before step) (eqb-true 47 n same)
        (stem_row Two before step ∙ (overlapping_same before step none_before none_here ∙ sym (stem_row One before step)))

-- ---- what the second edition reports, the first does

or_more : (a b c d : Bool) → (a ≡ true → b ≡ true) → (c ≡ true → d ≡ true) → (a || c) ≡ true → (b || d) ≡ true
or_more true b c d f g h = rw (f refl) refl
or_more false b true d f g h = rw (g refl) (turned b true)
or_more false b false d f g h = let no : false ≡ true = h in cc

and_more : (b a c : Bool) → (a ≡ true → c ≡ true) → (b && a) ≡ true → (b && c) ≡ true
and_more true a c f h = f h
and_more false a c f h = let no : false ≡ true = h in cc

pair_more : (one other : Stem) → overlap_by Two one other ≡ true → overlap_by One one other ≡ true
pair_more one other h = (and_parts (not (has_one_edge one || has_one_edge other)) (overlap one other) h).1

any_more : (one : Stem) (others : List Stem) → list_any (overlap_by Two one) others ≡ true → list_any (overlap_by One one) others ≡ true
any_more one [] h = h
any_more one (other ∷ others) h =
    or_more (overlap_by Two one other) (overlap_by One one other) (list_any (overlap_by Two one) others) (list_any (overlap_by One one) others)
    (pair_more one other) (any_more one others) h

ones_more : (stems kept : List Stem) → one_overlaps (overlap_by Two) stems kept ≡ true → one_overlaps (overlap_by One) stems kept ≡ true
ones_more [] kept h = h
ones_more (stem ∷ stems) kept h =
    or_more (list_any (overlap_by Two stem) kept) (list_any (overlap_by One stem) kept) (one_overlaps (overlap_by Two) stems kept)
    (one_overlaps (overlap_by One) stems kept) (any_more stem kept) (ones_more stems kept) h

twos_more : (stems : List Stem) → two_overlap (overlap_by Two) stems ≡ true → two_overlap (overlap_by One) stems ≡ true
twos_more [] h = h
twos_more (stem ∷ stems) h =
    or_more (list_any (overlap_by Two stem) stems) (list_any (overlap_by One stem) stems) (two_overlap (overlap_by Two) stems)
    (two_overlap (overlap_by One) stems) (any_more stem stems) (twos_more stems) h

direction_more : (direction : Commands → Bool) (before : List StepView) (step : StepView)
    → overlap_in (overlap_by Two) direction before step ≡ true → overlap_in (overlap_by One) direction before step ≡ true
direction_more direction before step h =
    let stems = stems_of step in
    let kept = hint_set direction before in
    and_more (is_command direction step.token) (stems_meet (overlap_by Two) stems kept) (stems_meet (overlap_by One) stems kept)
    (or_more (one_overlaps (overlap_by Two) stems kept) (one_overlaps (overlap_by One) stems kept) (two_overlap (overlap_by Two) stems)
    (two_overlap (overlap_by One) stems) (ones_more stems kept) (twos_more stems)) h

overlapping_more : (before : List StepView) (step : StepView) → sets_overlapping (overlap_by Two) before step ≡ true
    → sets_overlapping (overlap_by One) before step ≡ true
overlapping_more before step h =
    or_more (overlap_in (overlap_by Two) lies_across before step) (overlap_in (overlap_by One) lies_across before step)
    (overlap_in (overlap_by Two) stands_upright before step) (overlap_in (overlap_by One) stands_upright before step)
    (direction_more lies_across before step) (direction_more stands_upright before step) h

pub second_tells_no_more : SecondTellsNoMore
second_tells_no_more n before step = go (47 == n) refl
  where
    go : (b : Bool) → (47 == n) ≡ b → breaks (step_rules Two) n before step ≡ true → breaks (step_rules One) n before step ≡ true
    go false apart h = sym (step_rules_agree n before step apart) ∙ h
    go true same h =
        subst (λ k. breaks (step_rules Two) k before step ≡ true → breaks (step_rules One) k before step ≡ true) (eqb-true 47 n same)
        (λ told. stem_row One before step ∙ overlapping_more before step (sym (stem_row Two before step) ∙ told)) h

-- ---- components

-- Whether a component is there, no limit has a say in.
there_same : (limit other : ℕ) (font : FontValue) (code : ℕ) → (component_at limit font code).there ≡ (component_at other font code).there
there_same limit other font code = by_name (standard_name code)
  where
    by_glyph : (found : Option ℕ) → (component_of_glyph limit font found).there ≡ (component_of_glyph other font found).there
    by_glyph None = refl
    by_glyph (Some glyph) = refl

    by_name : (name : List ℕ) → (component_named limit font name).there ≡ (component_named other font name).there
    by_name [] = refl
    by_name (letter ∷ letters) = by_glyph (glyph_named font (letter ∷ letters))

there_at : (limit other : ℕ) (font : FontValue) (codes : List ℕ) (place : ℕ)
    → (slice_index_or (map (component_at limit font) codes) place missing).there ≡ (slice_index_or (map (component_at other font) codes) place missing).there
there_at limit other font [] place = refl
there_at limit other font (code ∷ codes) zero = there_same limit other font code
there_at limit other font (code ∷ codes) (suc place) = there_at limit other font codes place

lacking_same : (limit other : ℕ) (font : FontValue) (code : Option ℕ)
    → is_lacking code (component_of_code (components_of limit font) code) ≡ is_lacking code (component_of_code (components_of other font) code)
unfolding components_of
lacking_same limit other font None = refl
lacking_same limit other font (Some code) = ap (λ there. is_named (Some code) && not there) (there_at limit other font (range_with_len 0 256) code)

lacks_same : (limit other : ℕ) (font : FontValue) (step : StepView) → lacks_component (components_of limit font) step ≡ lacks_component
    (components_of other font) step
lacks_same limit other font step =
    let a = components_of limit font in
    let b = components_of other font in
    ap (λ base. is_seac step.token && (base || is_lacking (accent_code step) (component_of_code a (accent_code step))))
    (lacking_same limit other font (base_code step))
    ∙ ap (λ accent. is_seac step.token && (is_lacking (base_code step) (component_of_code b (base_code step)) || accent))
    (lacking_same limit other font (accent_code step))

-- The rows after the first are those on what components have.
component_rows : (limit other : ℕ) (font : FontValue) (n : ℕ) (before : List StepView) (step : StepView) → (65 == n) ≡ false → (66 == n) ≡ false
    → (68 == n) ≡ false
    → breaks (component_rules (components_of limit font)) n before step ≡ breaks (component_rules (components_of other font)) n before step
unfolding component_rules
component_rows limit other font n before step k04 k05 k07 =
    let a = components_of limit font in
    let b = components_of other font in
    ap (λ lacks. (lacks && 64 == n) || breaks (drop 1 (component_rules a)) n before step) (lacks_same limit other font step)
    ∙ ap (λ more. (lacks_component b step && 64 == n) || more)
    (none_broken n (drop 1 (component_rules a)) (rw (k04, k05, k07) refl) before step
    ∙ sym (none_broken n (drop 1 (component_rules b)) (rw (k04, k05, k07) refl) before step))

pub all_rules : (edition : Edition) (components : List Component) (n : ℕ) (before : List StepView) (step : StepView)
    → breaks (charstring_rules edition components) n before step
    ≡ (breaks (step_rules edition) n before step || breaks (component_rules components) n before step)
unfolding charstring_rules
all_rules edition components n before step = list_any-append (λ r. r.is_broken before step && number_of r.rule == n)
    (step_rules edition) (component_rules components)

-- The rules agree where those on steps do, and those on components.
both_agree : (one two : List Component) (n : ℕ) (before : List StepView) (step : StepView)
    → breaks (step_rules Two) n before step ≡ breaks (step_rules One) n before step
    → breaks (component_rules two) n before step ≡ breaks (component_rules one) n before step
    → breaks (charstring_rules Two two) n before step ≡ breaks (charstring_rules One one) n before step
both_agree one two n before step steps components =
    all_rules Two two n before step ∙ rw (steps, components) (sym (all_rules One one n before step))

pub agree_on_other_rules : EditionsAgreeOnOtherRules
agree_on_other_rules font n before step h02 k04 k05 k07 =
    both_agree (components_of (limit_of One) font) (components_of (limit_of Two) font) n before step
    (step_rules_agree n before step (ne_eqb 47 n (λ e. h02 (sym e))))
    (component_rows (limit_of Two) (limit_of One) font n before step (ne_eqb 65 n (λ e. k04 (sym e))) (ne_eqb 66 n (λ e. k05 (sym e)))
    (ne_eqb 68 n (λ e. k07 (sym e))))

-- A short glyph's steps are all looked at, by each limit.
short_same : (font : FontValue) (code : ℕ) → HasShortComponents font → component_at (limit_of Two) font code ≡ component_at (limit_of One) font code
short_same font code short = by_name (standard_name code) (short code)
  where
    by_glyph : (found : Option ℕ) → ((glyph : ℕ) → found ≡ Some glyph → length (steps_of font glyph) ≤ limit_of One)
        → component_of_glyph (limit_of Two) font found ≡ component_of_glyph (limit_of One) font found
    by_glyph None few = refl
    by_glyph (Some glyph) few =
        let less : length (steps_of font glyph) ≤ 100000 = few glyph refl in
        ap component_in (take_all 1000000 (steps_of font glyph) (omega (arith, less)) ∙ sym (take_all 100000 (steps_of font glyph) less))

    by_name : (name : List ℕ) → ((glyph : ℕ) → 0 < length name → glyph_named font name ≡ Some glyph → length (steps_of font glyph) ≤ limit_of One)
        → component_named (limit_of Two) font name ≡ component_named (limit_of One) font name
    by_name [] few = refl
    by_name (letter ∷ letters) few = by_glyph (glyph_named font (letter ∷ letters)) (λ glyph is. few glyph (omega arith) is)

short_components : (font : FontValue) → HasShortComponents font → components_of (limit_of Two) font ≡ components_of (limit_of One) font
unfolding components_of
short_components font short =
    map_same (component_at (limit_of Two) font) (component_at (limit_of One) font) (range_with_len 0 256) (λ code. short_same font code short)

pub agree_on_short_components : EditionsAgreeOnShortComponents
agree_on_short_components font short n before step h02 =
    both_agree (components_of (limit_of One) font) (components_of (limit_of Two) font) n before step
    (step_rules_agree n before step (ne_eqb 47 n (λ e. h02 (sym e))))
    (ap (λ components. breaks (component_rules components) n before step) (short_components font short))

pub second_tells_no_more_in_fonts : SecondTellsNoMoreInFonts
second_tells_no_more_in_fonts font short n before step told =
    let one = components_of (limit_of One) font in
    let same = ap (λ (components : List Component). breaks (component_rules components) n before step) (short_components font short) in
    all_rules One one n before step
    ∙ or_more (breaks (step_rules Two) n before step) (breaks (step_rules One) n before step)
    (breaks (component_rules (components_of (limit_of Two) font)) n before step) (breaks (component_rules one) n before step)
    (second_tells_no_more n before step) (λ is. sym same ∙ is) (sym (all_rules Two (components_of (limit_of Two) font) n before step) ∙ told)

pub agree_on_usual_steps : EditionsAgreeOnUsualSteps
agree_on_usual_steps font short n before step none_before none_here =
    both_agree (components_of (limit_of One) font) (components_of (limit_of Two) font) n before step
    (agree_without_one_edge n before step none_before none_here)
    (ap (λ components. breaks (component_rules components) n before step) (short_components font short))
