-- Laws of reasons.
use Rattle.std.proofs.Common.{◌≡◌, ◌⊎◌, inl, inr, ℕ, suc, arith, ◌&&◌, ◌||◌, Bool, true, false, Option, Some, None, is_some, List, [], ◌∷◌, ◌++◌, length, refl, sym, ap, ◌∙◌, ℤ, map, take, ◌-◌, ◌*◌, ◌≤◌, ◌==◌, nat_le, not, pos}
use Rattle.std.specs.Prelude.{if◌then◌else◌, ◌+◌, option_map}
use Rattle.std.specs.Option.{option_or}
use Rattle.std.specs.List.{find, flat_map, list_any, Contains}
use Rattle.std.proofs.lemmas.Bool.{le-leb, leb-true}
use Rattle.std.proofs.lemmas.Int.{ints}
use Rattle.std.proofs.lemmas.List.Folds.{find-append}
use Rattle.std.proofs.Math.Bool.{and-false, and-true}
use Rattle.t1_char.specs.declared.command.Command.{Command as Commands}
use Rattle.t1_char.specs.declared.command.Command.TheVariants.{Hstem3, Vstem, Vstem3}
use Rattle.t1_char.specs.declared.edition.Edition.{Edition}
use Rattle.t1_char.specs.declared.token.CharToken.{CharToken}
use Rattle.t1_char.specs.declared.token.CharToken.TheVariants.{Command}
use Rattle.t1_char.specs.Arguments.{is_callothersubr, is_flex_end, is_flex_point, is_whole}
use Rattle.t1_char.specs.Numbers.{natural, unit}
use Rattle.t1_char.specs.Stacks.{from_top}
use Rattle.t1_char.specs.Commands.{arguments_of}
use Rattle.t1_char.specs.Editions.{has_later_rules}
use Rattle.t1_char.specs.Since.{any_so_far}
use Rattle.t1_char.specs.Steps.{StepView, is_callsubr, is_return}
use Rattle.t1_char.specs.Seacs.{is_seac}
use Rattle.t1_rules.specs.declared.rule.Rule.{Rule}
use Rattle.t1_rules.specs.declared.rule.Rule.TheVariants.{C01, C02, C03, C04, C05, C06, C07, C08, C09, S01, S02, S03, S04, GE01, GE02, W01, W02, W03, P01, P02, P03, H01, H02, H03, H04, H05, H06, H07, R01, R02, X01, X02, X03, X04, X05, X06, O01, O02, O03, O04, O05, O06, O07, O08, K01, K02, K03, K04, K05, K06, K07}
use Rattle.t1_rules.specs.declared.sidebearings.Component.{Component}
use Rattle.t1_rules.specs.declared.step_rules.stems.Stem.{Stem}
use Rattle.t1_rules.specs.declared.step_rules.triples.Triple.{Triple as TripleOfStems}
use Rattle.t1_rules.specs.Book.{number_of}
use Rattle.t1_rules.specs.StepRules.{argument_rules, breaks, call_rules, path_rules, stem_rules, flex_rules, othersubr_rules, seac_rules, component_rules, step_rules, charstring_rules, triple_rules, counter_rules}
use Rattle.t1_rules.specs.StepRules.Arguments.{divides, divides_by_zero, divides_past, has_argument_past, has_too_few_arguments, has_too_many_arguments, is_more_than, is_past, one_is_past, overflows, wanted_by}
use Rattle.t1_rules.specs.StepRules.Othersubrs.{calls_by_numbers, calls_unknown, has_bad_count, has_good_count, has_wrong_count, is_effective, is_flex_or_hints, is_good_count, is_up_to}
use Rattle.t1_rules.specs.StepRules.Calls.{calls_by_number, calls_missing, calls_too_deep, returns_from_glyph}
use Rattle.t1_rules.specs.StepRules.Flex.{counts_no_pairs, current_point, end_point, ends_elsewhere, flex_moves, flex_points, is_elsewhere}
use Rattle.t1_rules.specs.StepRules.Paths.{clearing_step, in_flex}
use Rattle.t1_rules.specs.StepRules.Seac.{accent, accent_sidebearing, differs_in_sidebearing, has_no_code as no_code, has_unnamed_code, is_another, is_lacking, is_without_sidebearing}
use Rattle.t1_rules.specs.StepRules.Stems.{is_stem, is_triple, sets_unequal, sets_without_width, hint_set, lies_across, one_overlaps, is_replaced, is_replaced_and_popped, sets_overlapping, stands_upright, stems_meet, stems_of, two_overlap}
use Rattle.t1_rules.specs.StepRules.Counters.{is_counting, leaves_numbers}
use Rattle.t1_rules.specs.StepRules.Tokens.{clears, is_command, is_pop, is_unknown, sets_width}
use Rattle.t1_rules.specs.StepRules.Triples.{changes_by, differs_from, has_same_edges, is_hstem3, is_vstem3, last_triple, sets_another, sets_thin, triple_of}
use Rattle.t1_rules.proofs.Lemmas.Book.{both}
use Rattle.t1_rules.proofs.Lemmas.StepRules.{none_broken, row_decides}
use Rattle.t1_reasons.specs.declared.reason.Reason.{Reason}
use Rattle.t1_reasons.specs.declared.reason.Reason.TheVariants.{Argument, Stem as StemAlone, Count, Pairs, Sidebearings, Stems, Token}
use Rattle.t1_reasons.specs.declared.background.SetTriple.{SetTriple}
use Rattle.t1_reasons.specs.declared.reason.SetStem.{SetStem}
use Rattle.t1_reasons.specs.Backgrounds.{background_of, set_three}
use Rattle.t1_reasons.specs.Carried.{last_told}
use Rattle.t1_reasons.specs.HintSets.{set_at, stems_set}
use Rattle.t1_reasons.specs.Laws.{OthersCompareNumbers, ReasonsAreAgainstTheirRules, StepsBreakWhereThereIsAReason}
use Rattle.t1_reasons.specs.declared.step_reasons.PairFlaw.{PairFlaw}
use Rattle.t1_reasons.specs.declared.step_reasons.PairFlaw.TheVariants.{Overlap}
use Rattle.t1_reasons.specs.declared.step_reasons.StemFlaw.TheVariants.{NoWidth, Thin}
use Rattle.t1_reasons.specs.StepReasons.{have_flaw, beside_last, beside_last_of, counters_at, have_other_edges, is_flawed, is_flawed_pair, leaves_some, threes_at, additions_at, are_no_pairs, brings, is_full, pairs_at, arguments_in, beside, calls_at, codes_at, has_no_code, has_no_name, is_by_zero, is_outermost, is_past_quotient, is_too_deep, is_unknown_othersubr, is_unknown_token, known_calls_at, quotients_at, returns_at, count_of, counts_in, first_in_row, has_fewer, has_more, is_any, is_bad_count, is_lacking_subr, is_miscounted, is_miss, is_past_range, is_told_otherwise, is_uneven, misses_at, only_where, othersubrs_at, own_stems, pairs, pairs_with, placed_from, placed_of, row_of, sidebearings_at, single_stems_at, stems_at, step_reason, subrs_at, told_at, told_by, told_row, takes, triples_at, wants_in, with_own, call_of, clears_without_width, goes_on_in_flex, has_component, is_no_call, is_no_pop}
use Rattle.t1_reasons.proofs.Hints.{plain, plain_hints, plain_set}
use Rattle.t1_reasons.proofs.LastCommands.{last_three_is}

-- ---- the first such

pub one_such : {A : Type 0} (p : A → Bool) (x : A) → is_some (find p (x ∷ [])) ≡ p x
one_such p x = go (p x) refl
  where
    go : (b : Bool) → p x ≡ b → is_some (find p (x ∷ [])) ≡ p x
    go true is = rw is refl
    go false is = rw is refl

pub such_where : (b : Bool) (p : Reason → Bool) (x : Reason) → is_some (find p (only_where b x)) ≡ (b && p x)
such_where true p x = one_such p x
such_where false p x = refl

pub such_in_both : {A : Type 0} (p : A → Bool) (xs ys : List A) → is_some (find p (xs ++ ys)) ≡ (is_some (find p xs) || is_some (find p ys))
such_in_both {A = A} p xs ys = ap is_some (find-append p xs ys) ∙ go (find p xs)
  where
    go : (found : Option A) → is_some (option_or found (find p ys)) ≡ (is_some found || is_some (find p ys))
    go None = refl
    go (Some x) = refl

pub where_so : (b : Bool) (p : Reason → Bool) (xs : List Reason) {test : Bool} → test ≡ is_some (find p xs)
    → (b && test) ≡ is_some (find p (if b then xs else []))
where_so true p xs same = same
where_so false p xs same = refl

-- ---- rule by rule

more_counted : (token : CharToken) (stack : List ℤ) → has_too_many_arguments token stack ≡ is_some (find has_more (counts_in token stack))
more_counted (Command command) stack = go (arguments_of command)
  where
    go : (count : Option ℕ) → is_more_than count (length stack) ≡ is_some (find has_more (count_of command count (length stack)))
    go None = refl
    go (Some count) = sym (one_such has_more (Count command count (length stack)))
more_counted _ stack = refl

fewer_counted : (token : CharToken) (stack : List ℤ) → has_too_few_arguments token stack ≡ is_some (find has_fewer (wants_in token stack))
fewer_counted (Command command) stack = sym (one_such has_fewer (Count command (wanted_by command (arguments_of command)) (length stack)))
fewer_counted _ stack = refl

past_placed : (place : ℕ) (stack : List ℤ) → list_any is_past stack ≡ is_some (find is_past_range (placed_from place stack))
past_placed place [] = refl
past_placed place (z ∷ zs) =
    sym (such_in_both is_past_range (Argument place z ∷ []) (placed_from (place + 1) zs)
    ∙ rw (one_such is_past_range (Argument place z), ← past_placed (place + 1) zs) refl)

past_argument : (token : CharToken) (stack : List ℤ) → has_argument_past token stack ≡ is_some (find is_past_range (arguments_in token stack))
past_argument (Command command) stack = go (arguments_of command)
  where
    go : (count : Option ℕ) → one_is_past count stack ≡ is_some (find is_past_range (placed_of count stack))
    go None = refl
    go (Some count) = past_placed 1 (take count stack)
past_argument _ stack = refl

-- One of the stems that a step sets is such.
pub one_stem : (p : Reason → Bool) (stems : List Stem) → list_any (λ s. p (StemAlone s)) stems ≡ is_some (find p (map (λ s. StemAlone s) stems))
one_stem p [] = refl
one_stem p (s ∷ ss) =
    sym (such_in_both p (StemAlone s ∷ []) (map (λ s. StemAlone s) ss) ∙ rw (one_such p (StemAlone s), ← one_stem p ss) refl)

widthless : (step : StepView) → sets_without_width step ≡ is_some (find (is_flawed NoWidth) (single_stems_at step))
widthless step = where_so (is_stem step.token) (is_flawed NoWidth) (map (λ s. StemAlone s) (stems_of step)) (one_stem (is_flawed NoWidth) (stems_of step))

thin : (step : StepView) → sets_thin step ≡ is_some (find (is_flawed Thin) (single_stems_at step))
thin step = where_so (is_stem step.token) (is_flawed Thin) (map (λ s. StemAlone s) (stems_of step)) (one_stem (is_flawed Thin) (stems_of step))

-- Three stems, one of which hasn't the edges of that in its place.
not_all : (a b c : Bool) → not (a && b && c) ≡ (not a || (not b || not c))
not_all true true true = refl
not_all true true false = refl
not_all true false c = refl
not_all false b c = refl

one_of_three : (p : Reason → Bool) (x y z : Reason) → is_some (find p (x ∷ (y ∷ (z ∷ [])))) ≡ (p x || (p y || p z))
one_of_three p x y z =
    such_in_both p (x ∷ []) (y ∷ (z ∷ [])) ∙ rw (one_such p x, such_in_both p (y ∷ []) (z ∷ []), one_such p y, one_such p z) refl

changed : (own : TripleOfStems) (last : Option SetTriple)
    → differs_from (option_map (λ t. t.triple) last) own ≡ is_some (find have_other_edges (beside_last own last))
changed own None = refl
changed own (Some other) =
    not_all (has_same_edges other.triple.one own.one) (has_same_edges other.triple.two own.two) (has_same_edges other.triple.three own.three)
    ∙ sym (one_of_three have_other_edges (Stems own.one (set_at other.step other.triple.one)) (Stems own.two (set_at other.step other.triple.two))
    (Stems own.three (set_at other.step other.triple.three)))

another : (before : List StepView) (step : StepView) → sets_another before step ≡ is_some (find have_other_edges (threes_at before step))
another before step = go step.token
  where
    since_last : (kind : CharToken → Bool)
        → differs_from (last_triple kind before) (triple_of step)
        ≡ is_some (find have_other_edges (beside_last (triple_of step) (last_told kind set_three before)))
    since_last kind =
        ap (λ last. differs_from last (triple_of step)) (sym (last_three_is kind before)) ∙ changed (triple_of step) (last_told kind set_three before)

    go : (token : CharToken) → changes_by token before (triple_of step)
        ≡ is_some (find have_other_edges (beside_last_of token before (triple_of step)))
    go (Command Hstem3) = since_last is_hstem3
    go (Command Vstem3) = since_last is_vstem3
    go _ = refl

left_over : (step : StepView) → leaves_numbers step ≡ is_some (find leaves_some (counters_at step))
left_over step = sym (such_where (is_counting step) leaves_some _)

uneven : (step : StepView) → sets_unequal step ≡ is_some (find is_uneven (triples_at step))
uneven step = sym (such_where (is_command is_triple step.token) is_uneven _)

badly_counted : (step : StepView) → has_bad_count step ≡ is_some (find is_bad_count (othersubrs_at step))
badly_counted step = sym (such_where (calls_by_numbers step) is_bad_count _)

unknown : (token : CharToken) → is_unknown token ≡ is_some (find is_unknown_token (Token token ∷ []))
unknown token = sym (one_such is_unknown_token (Token token))

past_quotient : (step : StepView) → divides_past step ≡ is_some (find is_past_quotient (quotients_at step))
past_quotient step = sym (such_where (divides step) is_past_quotient _)

by_zero : (step : StepView) → divides_by_zero step ≡ is_some (find is_by_zero (quotients_at step))
by_zero step = sym (such_where (divides step) is_by_zero _)

too_deep : (step : StepView) → calls_too_deep step ≡ is_some (find is_too_deep (calls_at step))
too_deep step = sym (such_where (calls_by_number step) is_too_deep _)

returned : (step : StepView) → returns_from_glyph step ≡ is_some (find is_outermost (returns_at step))
returned step = sym (such_where (is_return step.token) is_outermost _)

unknown_call : (step : StepView) → calls_unknown step ≡ is_some (find is_unknown_othersubr (known_calls_at step))
unknown_call step = sym (such_where (calls_by_numbers step && has_good_count step) is_unknown_othersubr _)

-- A call with the count that an OtherSubr takes, where so many arguments are there.
one_call : (k m : ℕ) (calls : Bool) (there : ℕ) (number count : ℤ) → calls ≡ true → 2 ≤ there → natural (pos (m * unit)) ≡ Some m
    → is_good_count (there - 2) count ≡ true
    → (((calls && nat_le (m + 2) there) && is_whole k number) && is_whole m count) ≡ (is_whole k number && is_whole m count)
one_call k m calls there number count called two own good = go (is_whole m count) refl
  where
    go : (b : Bool) → is_whole m count ≡ b → (((calls && nat_le (m + 2) there) && is_whole k number) && b) ≡ (is_whole k number && b)
    go false is = and-false ((calls && nat_le (m + 2) there) && is_whole k number) ∙ sym (and-false (is_whole k number))
    go true is =
        let at : count ≡ pos (m * unit) = grind (arith, ints, is) in
        let fits : nat_le m (there - 2) ≡ true = ap (is_up_to (there - 2)) (sym own) ∙ ap (is_good_count (there - 2)) (sym at) ∙ good in
        let enough : m + 2 ≤ there = omega (arith, two, leb-true m (there - 2) fits) in
        let more : nat_le (m + 2) there ≡ true = grind (arith, enough) in
        rw (called, more) refl

miscounted : (step : StepView) → has_wrong_count step ≡ is_some (find is_miscounted (known_calls_at step))
miscounted step = go (is_callothersubr step.token) refl (nat_le 2 there) refl (has_good_count step) refl ∙ sym (such_where (calls_by_numbers step && has_good_count step) is_miscounted _)
  where
    there : ℕ
    there = length step.stack

    number : ℤ
    number = from_top step.stack 0

    count : ℤ
    count = from_top step.stack 1

    go : (a : Bool) → is_callothersubr step.token ≡ a → (b : Bool) → nat_le 2 there ≡ b → (c : Bool) → has_good_count step ≡ c
        → ((((a && b) && c) && is_flex_or_hints number) && not (is_effective step))
        ≡ (((a && b) && c) && (is_flex_or_hints number && not (takes number count)))
    go false called b two c good = refl
    go true called false two c good = refl
    go true called true two false good = refl
    go true called true two true good =
        let enough : 2 ≤ there = leb-true 2 there two in
        rw (
          one_call 0 3 (is_callothersubr step.token) there number count called enough refl good,
          one_call 1 0 (is_callothersubr step.token) there number count called enough refl good,
          one_call 2 0 (is_callothersubr step.token) there number count called enough refl good,
          one_call 3 1 (is_callothersubr step.token) there number count called enough refl good,
        ) refl

without_code : (step : StepView) → no_code step ≡ is_some (find has_no_code (codes_at step))
without_code step = sym (such_where (is_seac step.token) has_no_code _)

without_name : (step : StepView) → has_unnamed_code step ≡ is_some (find has_no_name (codes_at step))
without_name step = sym (such_where (is_seac step.token) has_no_name _)

both_ways : (a b c : Bool) → ((a && b) && c) ≡ ((a && c) && b)
both_ways true true true = refl
both_ways true true false = refl
both_ways true false true = refl
both_ways true false false = refl
both_ways false b c = refl

spread : (p e f a b : Bool) → (((p && a) || (e && b)) && f) ≡ (((p && f) && a) || ((e && f) && b))
spread p e true a b = rw (and-true p, and-true e) (and-true ((p && a) || (e && b)))
spread p e false a b = rw (and-false p, and-false e) (and-false ((p && a) || (e && b)))

unpaired : (before : List StepView) (step : StepView) → counts_no_pairs before step ≡ is_some (find are_no_pairs (pairs_at before step))
unpaired before step =
    spread (is_flex_point step) (is_flex_end step) (in_flex before) (not (flex_moves before == flex_points before + 1))
    (not (flex_moves before == 7 && flex_points before == 7))
    ∙ sym (such_in_both are_no_pairs (only_where (is_flex_point step && in_flex before) (Pairs (flex_moves before) (flex_points before) false))
    (only_where (is_flex_end step && in_flex before) (Pairs (flex_moves before) (flex_points before) true))
    ∙ rw (
      such_where (is_flex_point step && in_flex before) are_no_pairs (Pairs (flex_moves before) (flex_points before) false),
      such_where (is_flex_end step && in_flex before) are_no_pairs (Pairs (flex_moves before) (flex_points before) true),
    ) refl)

overfull : (step : StepView) → overflows step ≡ is_some (find is_full (additions_at step))
overfull step = sym (such_where (brings step) is_full _)

missed : (before : List StepView) (step : StepView) → ends_elsewhere before step ≡ is_some (find is_miss (misses_at before step))
missed before step =
    both_ways (is_flex_end step) (is_elsewhere (end_point step) (current_point before)) (in_flex before)
    ∙ sym (such_where (is_flex_end step && in_flex before) is_miss _)

lacked : (step : StepView) → calls_missing step ≡ is_some (find is_lacking_subr (subrs_at step))
lacked step = sym (such_where (calls_by_number step) is_lacking_subr _)

told_otherwise : (components : List Component) (step : StepView)
    → differs_in_sidebearing components step ≡ is_some (find is_told_otherwise (sidebearings_at components step))
told_otherwise components step = go (is_seac step.token) (accent components step).sidebearing
  where
    go : (b : Bool) (own : Option ℤ) → (b && is_another own (accent_sidebearing step))
        ≡ is_some (find is_told_otherwise (if b then with_own (accent_sidebearing step) own else []))
    go true None = refl
    go true (Some own) = sym (one_such is_told_otherwise (Sidebearings (accent_sidebearing step) own))
    go false own = refl

beside_one : (flaw : PairFlaw) (own : Stem) (others : List SetStem)
    → is_some (find (is_flawed_pair flaw) (beside own others)) ≡ list_any (have_flaw flaw own) (plain others)
beside_one flaw own [] = refl
beside_one flaw own (other ∷ others) =
    such_in_both (is_flawed_pair flaw) (Stems own other ∷ []) (beside own others)
    ∙ rw (one_such (is_flawed_pair flaw) (Stems own other), beside_one flaw own others) refl

beside_all : (flaw : PairFlaw) (stems kept : List SetStem)
    → is_some (find (is_flawed_pair flaw) (flat_map (λ own. beside own.stem kept) stems)) ≡ one_overlaps (have_flaw flaw) (plain stems) (plain kept)
beside_all flaw [] kept = refl
beside_all flaw (own ∷ stems) kept =
    such_in_both (is_flawed_pair flaw) (beside own.stem kept) (flat_map (λ s. beside s.stem kept) stems)
    ∙ rw (beside_one flaw own.stem kept, beside_all flaw stems kept) refl

in_pairs : (flaw : PairFlaw) (stems : List SetStem) → is_some (find (is_flawed_pair flaw) (pairs stems)) ≡ two_overlap (have_flaw flaw) (plain stems)
in_pairs flaw [] = refl
in_pairs flaw (own ∷ stems) =
    such_in_both (is_flawed_pair flaw) (beside own.stem stems) (pairs stems)
    ∙ rw (beside_one flaw own.stem stems, in_pairs flaw stems) refl

meet : (flaw : PairFlaw) (stems kept : List SetStem)
    → is_some (find (is_flawed_pair flaw) (pairs_with stems kept)) ≡ stems_meet (have_flaw flaw) (plain stems) (plain kept)
meet flaw stems kept =
    such_in_both (is_flawed_pair flaw) (flat_map (λ own. beside own.stem kept) stems) (pairs stems)
    ∙ rw (beside_all flaw stems kept, in_pairs flaw stems) refl

apart : (token : CharToken) → is_command lies_across token ≡ true → is_command stands_upright token ≡ false
apart (Command Vstem) e = let no : false ≡ true = e in cc
apart (Command Vstem3) e = let no : false ≡ true = e in cc
apart _ e = refl

pub flawed_pairs : (flaw : PairFlaw) (before : List StepView) (step : StepView)
    → sets_overlapping (have_flaw flaw) before step ≡ is_some (find (is_flawed_pair flaw) (stems_at before step))
flawed_pairs flaw before step = go (is_command lies_across step.token) (is_command stands_upright step.token) (apart step.token)
  where
    along : (Commands → Bool) → Bool
    along direction = stems_meet (have_flaw flaw) (stems_of step) (hint_set direction before)

    met : (direction : Commands → Bool)
        → is_some (find (is_flawed_pair flaw) (pairs_with (own_stems before step) (stems_set direction before))) ≡ along direction
    met direction =
        meet flaw (own_stems before step) (stems_set direction before)
        ∙ rw (plain_set (length before + 1) (stems_of step), plain_hints direction before) refl

    last : (b : Bool) → (b || false) ≡ b
    last true = refl
    last false = refl

    go : (across upright : Bool) → (across ≡ true → upright ≡ false) →
        ((across && along lies_across) || (upright && along stands_upright))
        ≡ is_some (find (is_flawed_pair flaw)
        (if across then pairs_with (own_stems before step) (stems_set lies_across before)
        else (if upright then pairs_with (own_stems before step) (stems_set stands_upright before) else [])))
    go true true e = let no : true ≡ false = e refl in cc
    go true false e = last (along lies_across) ∙ sym (met lies_across)
    go false true e = sym (met stands_upright)
    go false false e = refl

-- ---- all of them

-- The rules whose reasons tell of the step what is against it.
abbrev pub tells_against : Rule → Bool
tells_against W01 = true
tells_against R01 = true
tells_against R02 = true
tells_against X02 = true
tells_against K03 = true
tells_against K04 = true
tells_against K07 = true
tells_against _ = false

pub tells_where : (rule : Rule)
    → (rule ≡ W01) ⊎ ((rule ≡ R01) ⊎ ((rule ≡ R02) ⊎ ((rule ≡ X02) ⊎ ((rule ≡ K03) ⊎ ((rule ≡ K04) ⊎ (rule ≡ K07)))))) → tells_against rule ≡ true
tells_where rule (inl is) = ap tells_against is
tells_where rule (inr (inl is)) = ap tells_against is
tells_where rule (inr (inr (inl is))) = ap tells_against is
tells_where rule (inr (inr (inr (inl is)))) = ap tells_against is
tells_where rule (inr (inr (inr (inr (inl is))))) = ap tells_against is
tells_where rule (inr (inr (inr (inr (inr (inl is)))))) = ap tells_against is
tells_where rule (inr (inr (inr (inr (inr (inr is)))))) = ap tells_against is

-- A rule that tells of the steps that break it, and what it tells is against it.
module _ (edition : Edition) (components : List Component) (before : List StepView) (step : StepView) where
  abbrev is_broken : Rule → Bool
  is_broken rule = breaks (charstring_rules edition components) (number_of rule) before step

  abbrev told : Rule → Reason
  told rule = told_by rule (background_of before) step

  abbrev AreAgainst : Rule → (Reason → Bool) → Type 0
  AreAgainst rule test = is_broken rule ≡ true → test (told rule) ≡ true

  told_decides : (rule : Rule) (test : Reason → Bool) → AreAgainst rule test
      → is_broken rule ≡ is_some (first_in_row (told_row edition components rule test) before step)
  told_decides rule test against = both_are (is_broken rule) (test (told rule)) against ∙ sym (such_where (is_broken rule) test (told rule))
    where
      both_are : (b t : Bool) → (b ≡ true → t ≡ true) → b ≡ (b && t)
      both_are true t so = sym (so refl)
      both_are false t so = refl

  only_told : (rule : Rule) → is_broken rule ≡ is_some (first_in_row (told_row edition components rule is_any) before step)
  only_told rule = told_decides rule is_any (λ broken. refl)

  -- Where a rule is broken, what it says is so.
  said : (rule : Rule) {says : Bool} → is_broken rule ≡ says → is_broken rule ≡ true → says ≡ true
  said rule same broken = sym same ∙ broken

  starts_otherwise : AreAgainst W01 clears_without_width
  unfolding charstring_rules step_rules argument_rules call_rules path_rules stem_rules flex_rules othersubr_rules seac_rules triple_rules counter_rules component_rules
  starts_otherwise broken =
      (both (clears step.token && not (sets_width step.token)) (not (any_so_far clearing_step before))
      (said W01 (row_decides 41 (charstring_rules edition components) 15 _ refl refl refl refl before step) broken)).0

  pops_nothing : AreAgainst R01 is_no_pop
  unfolding charstring_rules step_rules argument_rules call_rules path_rules stem_rules flex_rules othersubr_rules seac_rules triple_rules counter_rules component_rules
  pops_nothing broken =
      (both (not (is_pop step.token)) (is_replaced before)
      (said R01 (row_decides 50 (charstring_rules edition components) 24 _ refl refl refl refl before step) broken)).0

  calls_nothing : AreAgainst R02 is_no_call
  unfolding charstring_rules step_rules argument_rules call_rules path_rules stem_rules flex_rules othersubr_rules seac_rules triple_rules counter_rules component_rules
  calls_nothing broken =
      (both (not (is_callsubr step.token)) (is_replaced_and_popped before)
      (said R02 (row_decides 51 (charstring_rules edition components) 25 _ refl refl refl refl before step) broken)).0

  flexes : AreAgainst X02 goes_on_in_flex
  unfolding charstring_rules step_rules argument_rules call_rules path_rules stem_rules flex_rules othersubr_rules seac_rules triple_rules counter_rules component_rules
  flexes broken =
      either (is_flex_point step) (is_flex_end step) (both (is_flex_point step || is_flex_end step) (not (in_flex before))
      (said X02 (row_decides 53 (charstring_rules edition components) 27 _ refl refl refl refl before step) broken)).0 of_point of_end
    where
      number : ℤ
      number = from_top step.stack 0

      count : ℤ
      count = from_top step.stack 1

      either : {A : Type 0} (a b : Bool) → (a || b) ≡ true → (a ≡ true → A) → (b ≡ true → A) → A
      either true b is one other = one refl
      either false b is one other = other is

      or_true : (b : Bool) → (b || true) ≡ true
      or_true true = refl
      or_true false = refl

      two : (n : ℕ) → nat_le (n + 2) (length step.stack) ≡ true → nat_le 2 (length step.stack) ≡ true
      two n more = let many = leb-true (n + 2) (length step.stack) more in le-leb 2 (length step.stack) (omega (arith, many))

      of_point : is_flex_point step ≡ true → goes_on_in_flex (call_of step.stack) ≡ true
      of_point is =
          let counted = both ((is_callothersubr step.token && nat_le 2 (length step.stack)) && is_whole 2 number) (is_whole 0 count) is in
          let numbered = both (is_callothersubr step.token && nat_le 2 (length step.stack)) (is_whole 2 number) counted.0 in
          let called = both (is_callothersubr step.token) (nat_le 2 (length step.stack)) numbered.0 in
          rw (called.1, numbered.1, counted.1) refl

      of_end : is_flex_end step ≡ true → goes_on_in_flex (call_of step.stack) ≡ true
      of_end is =
          let counted = both ((is_callothersubr step.token && nat_le 5 (length step.stack)) && is_whole 0 number) (is_whole 3 count) is in
          let numbered = both (is_callothersubr step.token && nat_le 5 (length step.stack)) (is_whole 0 number) counted.0 in
          let called = both (is_callothersubr step.token) (nat_le 5 (length step.stack)) numbered.0 in
          rw (two 3 called.1, numbered.1, counted.1) (or_true (is_whole 2 number && is_whole 0 count))

  lacks : AreAgainst K03 (has_component components is_lacking)
  unfolding charstring_rules step_rules argument_rules call_rules path_rules stem_rules flex_rules othersubr_rules seac_rules triple_rules counter_rules component_rules
  lacks broken =
      (both (is_seac step.token) _ (said K03 (row_decides 64 (charstring_rules edition components) 47 _ refl refl refl refl before step) broken)).1

  nested : AreAgainst K04 (has_component components (λ code component. component.has_seac))
  unfolding charstring_rules step_rules argument_rules call_rules path_rules stem_rules flex_rules othersubr_rules seac_rules triple_rules counter_rules component_rules
  nested broken =
      (both (is_seac step.token) _ (said K04 (row_decides 65 (charstring_rules edition components) 48 _ refl refl refl refl before step) broken)).1

  without_sidebearing : AreAgainst K07 (has_component components (λ code component. is_without_sidebearing component))
  unfolding charstring_rules step_rules argument_rules call_rules path_rules stem_rules flex_rules othersubr_rules seac_rules triple_rules counter_rules component_rules
  without_sidebearing broken =
      (both (is_seac step.token) _ (said K07 (row_decides 68 (charstring_rules edition components) 50 _ refl refl refl refl before step) broken)).1

  -- So the test of such a rule takes what it tells.
  found_anyway : (rule : Rule) (test : Reason → Bool) → AreAgainst rule test
      → find is_any (told_at edition components rule before step) ≡ find test (told_at edition components rule before step)
  found_anyway rule test against = go (is_broken rule) against
    where
      go : (b : Bool) → (b ≡ true → test (told rule) ≡ true) → find is_any (only_where b (told rule)) ≡ find test (only_where b (told rule))
      go true so = rw (so refl) refl
      go false so = refl

  pub told_reason : (rule : Rule) → tells_against rule ≡ true
      → find is_any (told_at edition components rule before step) ≡ step_reason edition components rule before step
  told_reason W01 tells = found_anyway W01 clears_without_width starts_otherwise
  told_reason R01 tells = found_anyway R01 is_no_pop pops_nothing
  told_reason R02 tells = found_anyway R02 is_no_call calls_nothing
  told_reason X02 tells = found_anyway X02 goes_on_in_flex flexes
  told_reason K03 tells = found_anyway K03 (has_component components is_lacking) lacks
  told_reason K04 tells = found_anyway K04 (has_component components (λ code component. component.has_seac)) nested
  told_reason K07 tells = found_anyway K07 (has_component components (λ code component. is_without_sidebearing component)) without_sidebearing
  told_reason _ tells = let no : false ≡ true = tells in cc

pub broken_where_reason : StepsBreakWhereThereIsAReason
unfolding charstring_rules step_rules argument_rules call_rules path_rules stem_rules flex_rules othersubr_rules seac_rules triple_rules counter_rules component_rules
broken_where_reason edition components C03 before step =
    row_decides 28 (charstring_rules edition components) 2 _ refl refl refl refl before step ∙ unknown step.token
broken_where_reason edition components C04 before step =
    row_decides 29 (charstring_rules edition components) 3 _ refl refl refl refl before step ∙ fewer_counted step.token step.stack
broken_where_reason edition components C05 before step =
    row_decides 30 (charstring_rules edition components) 4 _ refl refl refl refl before step ∙ more_counted step.token step.stack
broken_where_reason edition components C06 before step =
    row_decides 31 (charstring_rules edition components) 5 _ refl refl refl refl before step ∙ overfull step
broken_where_reason edition components C07 before step =
    row_decides 32 (charstring_rules edition components) 6 _ refl refl refl refl before step ∙ past_argument step.token step.stack
broken_where_reason edition components C08 before step =
    row_decides 33 (charstring_rules edition components) 7 _ refl refl refl refl before step ∙ past_quotient step
broken_where_reason edition components C09 before step =
    row_decides 34 (charstring_rules edition components) 8 _ refl refl refl refl before step ∙ by_zero step
broken_where_reason edition components S01 before step =
    row_decides 35 (charstring_rules edition components) 9 _ refl refl refl refl before step ∙ lacked step
broken_where_reason edition components S02 before step =
    row_decides 36 (charstring_rules edition components) 10 _ refl refl refl refl before step ∙ too_deep step
broken_where_reason edition components S03 before step =
    row_decides 37 (charstring_rules edition components) 11 _ refl refl refl refl before step ∙ returned step
broken_where_reason edition components H02 before step =
    row_decides 47 (charstring_rules edition components) 21 _ refl refl refl refl before step ∙ flawed_pairs (Overlap edition) before step
broken_where_reason edition components H03 before step =
    row_decides 48 (charstring_rules edition components) 22 _ refl refl refl refl before step ∙ widthless step
broken_where_reason edition components H04 before step =
    row_decides 49 (charstring_rules edition components) 23 _ refl refl refl refl before step ∙ uneven step
broken_where_reason edition components H05 before step =
    row_decides 86 (charstring_rules edition components) 39 _ refl refl refl refl before step
    ∙ where_so (has_later_rules edition) (is_flawed Thin) (single_stems_at step) (thin step)
broken_where_reason edition components H07 before step =
    row_decides 88 (charstring_rules edition components) 41 _ refl refl refl refl before step
    ∙ where_so (has_later_rules edition) have_other_edges (threes_at before step) (another before step)
broken_where_reason edition components X04 before step =
    row_decides 55 (charstring_rules edition components) 29 _ refl refl refl refl before step ∙ unpaired before step
broken_where_reason edition components X05 before step =
    row_decides 56 (charstring_rules edition components) 30 _ refl refl refl refl before step ∙ missed before step
broken_where_reason edition components O01 before step =
    row_decides 58 (charstring_rules edition components) 32 _ refl refl refl refl before step ∙ unknown_call step
broken_where_reason edition components O02 before step =
    row_decides 59 (charstring_rules edition components) 33 _ refl refl refl refl before step ∙ badly_counted step
broken_where_reason edition components O03 before step =
    row_decides 60 (charstring_rules edition components) 34 _ refl refl refl refl before step ∙ miscounted step
broken_where_reason edition components O07 before step =
    row_decides 91 (charstring_rules edition components) 44 _ refl refl refl refl before step
    ∙ where_so (has_later_rules edition) leaves_some (counters_at step) (left_over step)
broken_where_reason edition components K01 before step =
    row_decides 62 (charstring_rules edition components) 36 _ refl refl refl refl before step ∙ without_code step
broken_where_reason edition components K02 before step =
    row_decides 63 (charstring_rules edition components) 37 _ refl refl refl refl before step ∙ without_name step
broken_where_reason edition components K05 before step =
    row_decides 66 (charstring_rules edition components) 49 _ refl refl refl refl before step ∙ told_otherwise components step
broken_where_reason edition components C01 before step = only_told edition components before step C01
broken_where_reason edition components C02 before step = only_told edition components before step C02
broken_where_reason edition components S04 before step = only_told edition components before step S04
broken_where_reason edition components GE01 before step = only_told edition components before step GE01
broken_where_reason edition components GE02 before step = only_told edition components before step GE02
broken_where_reason edition components W02 before step = only_told edition components before step W02
broken_where_reason edition components P01 before step = only_told edition components before step P01
broken_where_reason edition components P02 before step = only_told edition components before step P02
broken_where_reason edition components P03 before step = only_told edition components before step P03
broken_where_reason edition components H01 before step = only_told edition components before step H01
broken_where_reason edition components X01 before step = only_told edition components before step X01
broken_where_reason edition components X03 before step = only_told edition components before step X03
broken_where_reason edition components X06 before step = only_told edition components before step X06
broken_where_reason edition components O04 before step = only_told edition components before step O04
broken_where_reason edition components K06 before step = only_told edition components before step K06
broken_where_reason edition components H06 before step = only_told edition components before step H06
broken_where_reason edition components O05 before step = only_told edition components before step O05
broken_where_reason edition components O06 before step = only_told edition components before step O06
broken_where_reason edition components O08 before step = only_told edition components before step O08
broken_where_reason edition components W03 before step = only_told edition components before step W03
broken_where_reason edition components W01 before step =
    told_decides edition components before step W01 clears_without_width (starts_otherwise edition components before step)
broken_where_reason edition components R01 before step =
    told_decides edition components before step R01 is_no_pop (pops_nothing edition components before step)
broken_where_reason edition components R02 before step =
    told_decides edition components before step R02 is_no_call (calls_nothing edition components before step)
broken_where_reason edition components X02 before step =
    told_decides edition components before step X02 goes_on_in_flex (flexes edition components before step)
broken_where_reason edition components K03 before step =
    told_decides edition components before step K03 (has_component components is_lacking) (lacks edition components before step)
broken_where_reason edition components K04 before step =
    told_decides edition components before step K04 (has_component components (λ code component. component.has_seac)) (nested edition components before step)
broken_where_reason edition components K07 before step =
    told_decides edition components before step K07 (has_component components (λ code component. is_without_sidebearing component)) (without_sidebearing edition components before step)
broken_where_reason edition components rule before step = none_broken (number_of rule) (charstring_rules edition components) refl before step

pub found_there : (p : Reason → Bool) (xs : List Reason) (x : Reason) → find p xs ≡ Some x → Contains xs x
found_there p [] x e = let no : None ≡ Some x = e in cc
found_there p (y ∷ ys) x e = go (p y) refl e (found_there p ys x)
  where
    go : (b : Bool) → p y ≡ b → find p (y ∷ ys) ≡ Some x → (find p ys ≡ Some x → Contains ys x) → Contains (y ∷ ys) x
    go true is f rest = let same : Some y ≡ Some x = rw is at f in (0, omega arith, cc)
    go false is f rest = let later = rest (rw is at f) in let less = later.1 in (suc later.0, omega arith, later.2)

pub found_such : (p : Reason → Bool) (xs : List Reason) (x : Reason) → find p xs ≡ Some x → p x ≡ true
found_such p [] x e = let no : None ≡ Some x = e in cc
found_such p (y ∷ ys) x e = go (p y) refl e (found_such p ys x)
  where
    go : (b : Bool) → p y ≡ b → find p (y ∷ ys) ≡ Some x → (find p ys ≡ Some x → p x ≡ true) → p x ≡ true
    go true is f rest = let same : Some y ≡ Some x = rw is at f in let alike : y ≡ x = cc in rw (← alike) is
    go false is f rest = rest (rw is at f)

pub reasons_are_against : ReasonsAreAgainstTheirRules
reasons_are_against edition components rule before step reason e = record {
  there = found_there (row_of edition components rule).is_against ((row_of edition components rule).candidates before step) reason e;
  against = found_such (row_of edition components rule).is_against ((row_of edition components rule).candidates before step) reason e;
}

pub others_compare : OthersCompareNumbers
others_compare edition components C01 = refl
others_compare edition components _ = refl
