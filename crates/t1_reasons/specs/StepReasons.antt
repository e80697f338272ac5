-- Why a step breaks a rule. Some rules compare numbers: a reason is the first of what they compare, the candidates, that is against
-- the rule, and the rule's test sees the numbers of a candidate alone. The other rules tell where they are broken, and of what:
-- `rules_that_only_tell` has those that compare nothing.
use Rattle.std.specs.Prelude.{ℕ, ℤ, ◌+◌, ◌-◌, take, ◌==◌, ◌&&◌, ◌||◌, not, is_none, Bool, true, false, nat_le, nat_lt, if◌then◌else◌, Option, Some, None, List, [], ◌∷◌, ◌++◌, length, map, slice_get}
use Rattle.std.specs.List.{find, flat_map}
use Rattle.std.specs.Ordering.{int_eq}
use Rattle.t1_char.specs.declared.command.Command.{Command as Commands}
use Rattle.t1_char.specs.declared.command.Command.TheVariants.{Hstem, Hstem3, Vstem, Vstem3}
use Rattle.t1_char.specs.declared.edition.Edition.{Edition}
use Rattle.t1_char.specs.declared.token.CharToken.{CharToken}
use Rattle.t1_char.specs.declared.token.CharToken.TheVariants.{Command}
use Rattle.t1_char.specs.Arguments.{argument, is_flex_end, is_flex_point, is_whole}
use Rattle.t1_char.specs.Commands.{arguments_of}
use Rattle.t1_char.specs.Editions.{has_later_rules}
use Rattle.t1_char.specs.Numbers.{natural}
use Rattle.t1_char.specs.Stacks.{from_top, most_numbers}
use Rattle.t1_char.specs.Effects.{most_calls}
use Rattle.t1_char.specs.Steps.{StepView, is_callsubr, is_number, is_return}
use Rattle.t1_char.specs.Seacs.{is_seac}
use Rattle.t1_drawing.specs.StemEdges.{are_adjacent, has_negative_width}
use Rattle.t1_rules.specs.declared.rule.Rule.{Rule}
use Rattle.t1_rules.specs.declared.rule.Rule.TheVariants.{C01, C02, C03, C04, C05, C06, C07, C08, C09, S01, S02, S03, S04, GE01, GE02, W01, W02, P01, P02, P03, W03, H01, H02, H03, H04, H05, H06, H07, R01, R02, X01, X02, X03, X04, X05, X06, O01, O02, O03, O04, O05, O06, O07, O08, K01, K02, K03, K04, K05, K06, K07}
use Rattle.t1_rules.specs.declared.sidebearings.Component.{Component}
use Rattle.t1_rules.specs.declared.step_rules.stems.Stem.{Stem}
use Rattle.t1_rules.specs.declared.step_rules.triples.Triple.{Triple as TripleOfStems}
use Rattle.t1_rules.specs.Book.{number_of}
use Rattle.t1_rules.specs.StepRules.{breaks, charstring_rules}
use Rattle.t1_rules.specs.StepRules.Arguments.{divides, is_past, is_zero, quotient_is_past, wanted_by}
use Rattle.t1_rules.specs.StepRules.Othersubrs.{calls_by_numbers, has_good_count, is_flex_or_hints, is_good_count, is_known}
use Rattle.t1_rules.specs.StepRules.Calls.{calls_by_number}
use Rattle.t1_rules.specs.StepRules.Flex.{current_point, end_point, flex_moves, flex_points, is_elsewhere}
use Rattle.t1_rules.specs.StepRules.Paths.{in_flex}
use Rattle.t1_rules.specs.StepRules.Seac.{accent, accent_sidebearing, component_of_code, is_lacking, is_unnamed, is_without_sidebearing, seac_code}
use Rattle.t1_rules.specs.StepRules.Stems.{are_unequal, has_no_width, is_stem, is_triple, stem_at, lies_across, overlap_by, stands_upright, stems_of}
use Rattle.t1_rules.specs.StepRules.Counters.{is_below, is_counting}
use Rattle.t1_rules.specs.StepRules.Tokens.{clears, is_command, is_pop, is_unknown, sets_width}
use Rattle.t1_rules.specs.StepRules.Triples.{has_same_edges, is_hstem3, is_thin, is_vstem3, triple_of}
use Rattle.t1_reasons.specs.declared.background.Background.{Background}
use Rattle.t1_reasons.specs.declared.background.SetTriple.{SetTriple}
use Rattle.t1_reasons.specs.declared.reason.Reason.{Reason}
use Rattle.t1_reasons.specs.declared.reason.SetStem.{SetStem}
use Rattle.t1_reasons.specs.declared.step_reasons.PairFlaw.{PairFlaw}
use Rattle.t1_reasons.specs.declared.step_reasons.PairFlaw.TheVariants.{Overlap, SharedEdge}
use Rattle.t1_reasons.specs.declared.step_reasons.StemFlaw.{StemFlaw}
use Rattle.t1_reasons.specs.declared.step_reasons.StemFlaw.TheVariants.{Negative, NoWidth, Thin}
use Rattle.t1_reasons.specs.Backgrounds.{background_of, set_three}
use Rattle.t1_reasons.specs.Carried.{last_told}
use Rattle.t1_reasons.specs.HintSets.{all_set_at, set_at, stems_set}
use Rattle.t1_reasons.specs.declared.reason.Reason.TheVariants.{Argument, Arguments, Codes, Count, Depth, Ending, Full, Miss, Nothing, Open, Othersubr, Pairs, Quotient, Sidebearings, Since, Stem as StemAlone, Stems, Subr, Token, Triple}

-- ---- candidates

abbrev pub only_where : Bool → Reason → List Reason
only_where is_so reason = if is_so then reason ∷ [] else []

-- How many numbers a command takes, and how many there are.
abbrev pub count_of : Commands → Option ℕ → ℕ → List Reason
count_of command None there = []
count_of command (Some taken) there = Count command taken there ∷ []

abbrev pub counts_in : CharToken → List ℤ → List Reason
counts_in (Command command) stack = count_of command (arguments_of command) (length stack)
counts_in _ stack = []

abbrev pub counts_at : StepView → List Reason
counts_at step = counts_in step.token step.stack

-- How many numbers a command needs, and how many there are.
abbrev pub wants_in : CharToken → List ℤ → List Reason
wants_in (Command command) stack = Count command (wanted_by command (arguments_of command)) (length stack) ∷ []
wants_in _ stack = []

abbrev pub wants_at : StepView → List Reason
wants_at step = wants_in step.token step.stack

-- A token that brings one more number to the stack, and how many are there.
abbrev pub brings : StepView → Bool
brings step = is_number step.token || (is_pop step.token && nat_lt 0 step.waiting)

abbrev pub additions_at : StepView → List Reason
additions_at step = only_where (brings step) (Full step.token (length step.stack))

-- The arguments of a command, with their places.
abbrev pub placed_from : ℕ → List ℤ → List Reason
placed_from place [] = []
placed_from place (z ∷ zs) = Argument place z ∷ placed_from (place + 1) zs

abbrev pub placed_of : Option ℕ → List ℤ → List Reason
placed_of None stack = []
placed_of (Some count) stack = placed_from 1 (take count stack)

abbrev pub arguments_in : CharToken → List ℤ → List Reason
arguments_in (Command command) stack = placed_of (arguments_of command) stack
arguments_in _ stack = []

abbrev pub arguments_at : StepView → List Reason
arguments_at step = arguments_in step.token step.stack

-- The count that callothersubr is given, and how many numbers are there for it.
abbrev pub othersubrs_at : StepView → List Reason
othersubrs_at step = only_where (calls_by_numbers step) (Arguments (from_top step.stack 1) (length step.stack - 2))

-- The token of a step.
abbrev pub tokens_at : StepView → List Reason
tokens_at step = Token step.token ∷ []

-- The two numbers of a division.
abbrev pub quotients_at : StepView → List Reason
quotients_at step = only_where (divides step) (Quotient (from_top step.stack 1) (from_top step.stack 0))

-- How many calls are open where a Subr is called, and at a return.
abbrev pub depth_of : StepView → Reason
depth_of step = Depth (length step.path)

abbrev pub calls_at : StepView → List Reason
calls_at step = only_where (calls_by_number step) (depth_of step)

abbrev pub returns_at : StepView → List Reason
returns_at step = only_where (is_return step.token) (depth_of step)

-- The OtherSubr that is called with a count of arguments that are there.
abbrev pub known_calls_at : StepView → List Reason
known_calls_at step =
    only_where (calls_by_numbers step && has_good_count step) (Othersubr (from_top step.stack 0) (from_top step.stack 1))

-- The codes of seac.
abbrev pub codes_at : StepView → List Reason
codes_at step = only_where (is_seac step.token) (Codes (argument step.stack 3) (argument step.stack 4))

-- The stems of a step.
abbrev pub single_stems_at : StepView → List Reason
single_stems_at step = if is_stem step.token then map (λ s. StemAlone s) (stems_of step) else []

abbrev pub triples_at : StepView → List Reason
triples_at step =
    only_where (is_command is_triple step.token) (Triple (stem_at step.stack 0) (stem_at step.stack 2) (stem_at step.stack 4))

-- The Subr that is called.
abbrev pub subrs_at : StepView → List Reason
subrs_at step = only_where (calls_by_number step) (Subr (from_top step.stack 0) step.found)

-- A stem beside each of others; then two of some, the first of them before the other.
abbrev pub beside : Stem → List SetStem → List Reason
beside own others = map (Stems own) others

abbrev pub pairs : List SetStem → List Reason
pairs [] = []
pairs (own ∷ others) = beside own.stem others ++ pairs others

-- The stems of a step, each beside those of the hint set; then two of them.
abbrev pub pairs_with : List SetStem → List SetStem → List Reason
pairs_with stems kept = flat_map (λ own. beside own.stem kept) stems ++ pairs stems

-- The stems that a step sets, with its number.
abbrev pub own_stems : List StepView → StepView → List SetStem
own_stems before step = all_set_at (length before + 1) (stems_of step)

abbrev pub stems_at : List StepView → StepView → List Reason
stems_at before step =
    if is_command lies_across step.token then pairs_with (own_stems before step) (stems_set lies_across before)
    else (if is_command stands_upright step.token then pairs_with (own_stems before step) (stems_set stands_upright before) else [])

-- The moves and the points of a flex so far, where one of its points is given, and where it ends.
abbrev pub pairs_at : List StepView → StepView → List Reason
pairs_at before step =
    only_where (is_flex_point step && in_flex before) (Pairs (flex_moves before) (flex_points before) false)
    ++ only_where (is_flex_end step && in_flex before) (Pairs (flex_moves before) (flex_points before) true)

-- Where the end of a flex says that it is, and where the pen is.
abbrev pub misses_at : List StepView → StepView → List Reason
misses_at before step = only_where (is_flex_end step && in_flex before) (Miss (end_point step) (current_point before))

-- The sidebearing that seac says, and that of its accent.
abbrev pub with_own : ℤ → Option ℤ → List Reason
with_own told None = []
with_own told (Some own) = Sidebearings told own ∷ []

abbrev pub sidebearings_at : List Component → StepView → List Reason
sidebearings_at components step =
    if is_seac step.token then with_own (accent_sidebearing step) (accent components step).sidebearing else []

-- Only in an edition that has the rules after number 70.
abbrev pub in_edition : Edition → List Reason → List Reason
in_edition edition reasons = if has_later_rules edition then reasons else []

-- Three stems, each beside that which another command has in its place; the last one of their kind, where there was one.
abbrev pub three_beside : TripleOfStems → SetTriple → List Reason
three_beside own other =
    Stems own.one (set_at other.step other.triple.one)
    ∷ Stems own.two (set_at other.step other.triple.two)
    ∷ Stems own.three (set_at other.step other.triple.three) ∷ []

abbrev pub beside_last : TripleOfStems → Option SetTriple → List Reason
beside_last own None = []
beside_last own (Some other) = three_beside own other

abbrev pub beside_last_of : CharToken → List StepView → TripleOfStems → List Reason
beside_last_of (Command Hstem3) before own = beside_last own (last_told is_hstem3 set_three before)
beside_last_of (Command Vstem3) before own = beside_last own (last_told is_vstem3 set_three before)
beside_last_of _ before own = []

abbrev pub threes_at : List StepView → StepView → List Reason
threes_at before step = beside_last_of step.token before (triple_of step)

-- The count that counter control is given, and how many numbers are there for it.
abbrev pub counters_at : StepView → List Reason
counters_at step = only_where (is_counting step) (Arguments (from_top step.stack 1) (length step.stack - 2))

-- ---- tests

-- More are there than are taken.
abbrev pub has_more : Reason → Bool
has_more (Count command taken there) = nat_lt taken there
has_more _ = false

-- Fewer are there than are taken.
abbrev pub has_fewer : Reason → Bool
has_fewer (Count command taken there) = nat_lt there taken
has_fewer _ = false

-- The stack is full.
abbrev pub is_full : Reason → Bool
is_full (Full token there) = there == most_numbers
is_full _ = false

abbrev pub is_past_range : Reason → Bool
is_past_range (Argument place number) = is_past number
is_past_range _ = false

abbrev pub is_bad_count : Reason → Bool
is_bad_count (Arguments count there) = not (is_good_count there count)
is_bad_count _ = false

-- A stem has no width, one below half a unit, or one below 0 that doesn't mean one edge.
abbrev pub has_flaw : StemFlaw → Stem → Bool
has_flaw NoWidth stem = has_no_width stem
has_flaw Thin stem = is_thin stem
has_flaw Negative stem = has_negative_width stem

abbrev pub is_flawed : StemFlaw → Reason → Bool
is_flawed flaw (StemAlone stem) = has_flaw flaw stem
is_flawed flaw _ = false

-- Two stems don't have the same edges.
abbrev pub have_other_edges : Reason → Bool
have_other_edges (Stems own other) = not (has_same_edges other.stem own)
have_other_edges _ = false

-- The count is less than the numbers that are there.
abbrev pub leaves_some : Reason → Bool
leaves_some (Arguments count there) = is_below there (natural count)
leaves_some _ = false

abbrev pub is_uneven : Reason → Bool
is_uneven (Triple one two three) = are_unequal one two three
is_uneven _ = false

abbrev pub is_lacking_subr : Reason → Bool
is_lacking_subr (Subr number found) = not found
is_lacking_subr _ = false

-- Two stems overlap by an edition, or share an edge.
abbrev pub have_flaw : PairFlaw → Stem → Stem → Bool
have_flaw (Overlap edition) own other = overlap_by edition own other
have_flaw SharedEdge own other = are_adjacent own other

abbrev pub is_flawed_pair : PairFlaw → Reason → Bool
is_flawed_pair flaw (Stems own other) = have_flaw flaw own other.stem
is_flawed_pair flaw _ = false

-- A point comes after its move, and the end after seven of each.
abbrev pub are_pairs : ℕ → ℕ → Bool → Bool
are_pairs moves points ends = if ends then moves == 7 && points == 7 else moves == points + 1

abbrev pub are_no_pairs : Reason → Bool
are_no_pairs (Pairs moves points ends) = not (are_pairs moves points ends)
are_no_pairs _ = false

abbrev pub is_miss : Reason → Bool
is_miss (Miss named pen) = is_elsewhere named pen
is_miss _ = false

abbrev pub is_told_otherwise : Reason → Bool
is_told_otherwise (Sidebearings told own) = not (int_eq own told)
is_told_otherwise _ = false

abbrev pub is_unknown_token : Reason → Bool
is_unknown_token (Token token) = is_unknown token
is_unknown_token _ = false

abbrev pub is_past_quotient : Reason → Bool
is_past_quotient (Quotient dividend divisor) = quotient_is_past dividend divisor
is_past_quotient _ = false

abbrev pub is_by_zero : Reason → Bool
is_by_zero (Quotient dividend divisor) = is_zero divisor
is_by_zero _ = false

abbrev pub is_too_deep : Reason → Bool
is_too_deep (Depth calls) = calls == most_calls
is_too_deep _ = false

abbrev pub is_outermost : Reason → Bool
is_outermost (Depth calls) = calls == 0
is_outermost _ = false

abbrev pub is_unknown_othersubr : Reason → Bool
is_unknown_othersubr (Othersubr number count) = not (is_known number)
is_unknown_othersubr _ = false

-- An OtherSubr is called with the count that it takes: flex ends, starts, is given a point; the hints are replaced.
abbrev pub takes : ℤ → ℤ → Bool
takes number count =
    (is_whole 0 number && is_whole 3 count)
    || ((is_whole 1 number && is_whole 0 count)
    || ((is_whole 2 number && is_whole 0 count) || (is_whole 3 number && is_whole 1 count)))

abbrev pub is_miscounted : Reason → Bool
is_miscounted (Othersubr number count) = is_flex_or_hints number && not (takes number count)
is_miscounted _ = false

abbrev pub has_no_code : Reason → Bool
has_no_code (Codes base accent) = is_none (seac_code base) || is_none (seac_code accent)
has_no_code _ = false

abbrev pub has_no_name : Reason → Bool
has_no_name (Codes base accent) = is_unnamed (seac_code base) || is_unnamed (seac_code accent)
has_no_name _ = false

-- A command that empties the stack, and doesn't set the width.
abbrev pub clears_without_width : Reason → Bool
clears_without_width (Token token) = clears token && not (sets_width token)
clears_without_width _ = false

abbrev pub is_no_pop : Reason → Bool
is_no_pop (Token token) = not (is_pop token)
is_no_pop _ = false

abbrev pub is_no_call : Reason → Bool
is_no_call (Token token) = not (is_callsubr token)
is_no_call _ = false

-- An OtherSubr is called with the count that a point or an end of flex takes.
abbrev pub goes_on_in_flex : Reason → Bool
goes_on_in_flex (Othersubr number count) = (is_whole 2 number && is_whole 0 count) || (is_whole 0 number && is_whole 3 count)
goes_on_in_flex _ = false

-- One of two codes has such a component, where the components of all codes are these.
abbrev pub has_component : List Component → (Option ℕ → Component → Bool) → Reason → Bool
has_component components test (Codes base accent) =
    test (seac_code base) (component_of_code components (seac_code base))
    || test (seac_code accent) (component_of_code components (seac_code accent))
has_component components test _ = false

abbrev pub is_any : Reason → Bool
is_any reason = true

-- ---- rules that tell where they are broken, and of what

-- The Subr that ends.
abbrev pub ending_of : Option ℕ → Reason
ending_of None = Nothing
ending_of (Some subr) = Ending subr

-- The call of an OtherSubr, where its number and its count are there.
abbrev pub call_of : List ℤ → Reason
call_of stack = if nat_le 2 (length stack) then Othersubr (from_top stack 0) (from_top stack 1) else Nothing

-- A stem of the step, and one of another command.
abbrev pub beside_one : Stem → Option SetStem → Reason
beside_one own None = Nothing
beside_one own (Some other) = Stems own other

-- The same, where the other command set three: the first of these.
abbrev pub first_of_three : Option SetTriple → Option SetStem
first_of_three None = None
first_of_three (Some three) = Some (set_at three.step three.triple.one)

-- The last stem of the other command of a direction, where a token is one of the two.
abbrev pub last_of_other : CharToken → Background → Option SetStem
last_of_other (Command Hstem) background = first_of_three background.hstem3
last_of_other (Command Hstem3) background = background.hstem
last_of_other (Command Vstem) background = first_of_three background.vstem3
last_of_other (Command Vstem3) background = background.vstem
last_of_other _ background = None

-- What such a rule says of a step that breaks it: an earlier step, the token, or the numbers that it speaks of.
abbrev pub told_by : Rule → Background → StepView → Reason
told_by S04 background step = ending_of (slice_get step.path (length step.path - 1))
told_by W01 background step = Token step.token
told_by W02 background step = Since background.width
told_by P01 background step = Since background.closed
told_by P02 background step = Open background.start background.end
told_by P03 background step = Since background.closed
told_by H01 background step = Since background.drawn
told_by H06 background step = beside_one (stem_at step.stack 0) (last_of_other step.token background)
told_by O05 background step = Since background.told
told_by O06 background step = Since background.counted
told_by O08 background step = Since background.told
told_by W03 background step = Since background.told
told_by R01 background step = Token step.token
told_by R02 background step = Token step.token
told_by X01 background step = Since background.flex
told_by X02 background step = call_of step.stack
told_by X03 background step = Since background.flex
told_by K03 background step = Codes (argument step.stack 3) (argument step.stack 4)
told_by K04 background step = Codes (argument step.stack 3) (argument step.stack 4)
told_by K06 background step = Since background.outlined
told_by K07 background step = Codes (argument step.stack 3) (argument step.stack 4)
told_by _ background step = Nothing

-- ---- the table

-- What a rule compares at a step, in the order in which it is looked at, and which of it is against the rule.
pub record ReasonRow : Type 0 where
  pub candidates : List StepView → StepView → List Reason
  pub is_against : Reason → Bool

abbrev pub reason_row : (List StepView → StepView → List Reason) → (Reason → Bool) → ReasonRow
reason_row candidates is_against = record { candidates = candidates; is_against = is_against }

-- What a rule says of a step that breaks it, and which of that is against the rule.
abbrev pub told_at : Edition → List Component → Rule → List StepView → StepView → List Reason
told_at edition components rule before step =
    only_where (breaks (charstring_rules edition components) (number_of rule) before step) (told_by rule (background_of before) step)

abbrev pub told_row : Edition → List Component → Rule → (Reason → Bool) → ReasonRow
told_row edition components rule is_against = reason_row (told_at edition components rule) is_against

-- Of a rule that isn't on steps.
abbrev pub no_row : ReasonRow
no_row = reason_row (λ before step. []) (λ reason. false)

-- The rules on steps that compare nothing. C01 and GE02 tell of the charstring in which the step is.
abbrev pub rules_that_only_tell : List Rule
rules_that_only_tell =
    C01 ∷ C02 ∷ S04 ∷ GE01 ∷ GE02 ∷ W02 ∷ P01 ∷ P02 ∷ P03 ∷ H01 ∷ X01 ∷ X03 ∷ X06 ∷ O04 ∷ K06 ∷ H06 ∷ O05 ∷ O06 ∷ O08 ∷ W03 ∷ []

-- Each rule's row, in the order of the book.
abbrev pub row_of : Edition → List Component → Rule → ReasonRow
row_of edition components C01 = told_row edition components C01 is_any
row_of edition components C02 = told_row edition components C02 is_any
row_of edition components C03 = reason_row (λ before step. tokens_at step) is_unknown_token
row_of edition components C04 = reason_row (λ before step. wants_at step) has_fewer
row_of edition components C05 = reason_row (λ before step. counts_at step) has_more
row_of edition components C06 = reason_row (λ before step. additions_at step) is_full
row_of edition components C07 = reason_row (λ before step. arguments_at step) is_past_range
row_of edition components C08 = reason_row (λ before step. quotients_at step) is_past_quotient
row_of edition components C09 = reason_row (λ before step. quotients_at step) is_by_zero
row_of edition components S01 = reason_row (λ before step. subrs_at step) is_lacking_subr
row_of edition components S02 = reason_row (λ before step. calls_at step) is_too_deep
row_of edition components S03 = reason_row (λ before step. returns_at step) is_outermost
row_of edition components S04 = told_row edition components S04 is_any
row_of edition components GE01 = told_row edition components GE01 is_any
row_of edition components GE02 = told_row edition components GE02 is_any
row_of edition components W01 = told_row edition components W01 clears_without_width
row_of edition components W02 = told_row edition components W02 is_any
row_of edition components P01 = told_row edition components P01 is_any
row_of edition components P02 = told_row edition components P02 is_any
row_of edition components P03 = told_row edition components P03 is_any
row_of edition components H01 = told_row edition components H01 is_any
row_of edition components H02 = reason_row stems_at (is_flawed_pair (Overlap edition))
row_of edition components H03 = reason_row (λ before step. single_stems_at step) (is_flawed NoWidth)
row_of edition components H04 = reason_row (λ before step. triples_at step) is_uneven
row_of edition components R01 = told_row edition components R01 is_no_pop
row_of edition components R02 = told_row edition components R02 is_no_call
row_of edition components X01 = told_row edition components X01 is_any
row_of edition components X02 = told_row edition components X02 goes_on_in_flex
row_of edition components X03 = told_row edition components X03 is_any
row_of edition components X04 = reason_row pairs_at are_no_pairs
row_of edition components X05 = reason_row misses_at is_miss
row_of edition components X06 = told_row edition components X06 is_any
row_of edition components O01 = reason_row (λ before step. known_calls_at step) is_unknown_othersubr
row_of edition components O02 = reason_row (λ before step. othersubrs_at step) is_bad_count
row_of edition components O03 = reason_row (λ before step. known_calls_at step) is_miscounted
row_of edition components O04 = told_row edition components O04 is_any
row_of edition components K01 = reason_row (λ before step. codes_at step) has_no_code
row_of edition components K02 = reason_row (λ before step. codes_at step) has_no_name
row_of edition components K03 = told_row edition components K03 (has_component components is_lacking)
row_of edition components K04 = told_row edition components K04 (has_component components (λ code component. component.has_seac))
row_of edition components K05 = reason_row (λ before step. sidebearings_at components step) is_told_otherwise
row_of edition components K06 = told_row edition components K06 is_any
row_of edition components K07 = told_row edition components K07 (has_component components (λ code component. is_without_sidebearing component))
row_of edition components H05 = reason_row (λ before step. in_edition edition (single_stems_at step)) (is_flawed Thin)
row_of edition components H06 = told_row edition components H06 is_any
row_of edition components H07 = reason_row (λ before step. in_edition edition (threes_at before step)) have_other_edges
row_of edition components O05 = told_row edition components O05 is_any
row_of edition components O06 = told_row edition components O06 is_any
row_of edition components O07 = reason_row (λ before step. in_edition edition (counters_at step)) leaves_some
row_of edition components O08 = told_row edition components O08 is_any
row_of edition components W03 = told_row edition components W03 is_any
row_of edition components _ = no_row

-- The first candidate that is against the rule.
abbrev pub first_in_row : ReasonRow → List StepView → StepView → Option Reason
first_in_row row before step = find row.is_against (row.candidates before step)

abbrev pub step_reason : Edition → List Component → Rule → List StepView → StepView → Option Reason
step_reason edition components rule before step = first_in_row (row_of edition components rule) before step
