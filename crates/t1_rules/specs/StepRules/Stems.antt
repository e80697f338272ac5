-- Stem hints and their replacement: where a step breaks H01 to H04, R01 and R02. Type 1 Font Format 1.1,
-- chapters 6 and 8. A hint set of 96 stems a direction is this project's own.
use Rattle.std.specs.Prelude.{ℕ, ℤ, pos, neg_ℤ, ◌*◌, ◌+◌, ◌+ℤ◌, ◌*ℤ◌, ◌&&◌, ◌||◌, not, int_lt, if◌then◌else◌, Bool, true, false, List, [], ◌∷◌, take}
use Rattle.std.specs.Int.{int_max, int_min}
use Rattle.std.specs.List.{flat_map, list_any}
use Rattle.std.specs.Ordering.{int_eq}
use Rattle.t1_char.specs.declared.command.Command.{Command as Commands}
use Rattle.t1_char.specs.declared.command.Command.TheVariants.{Hstem, Vstem, Hstem3, Vstem3}
use Rattle.t1_char.specs.declared.edition.Edition.{Edition}
use Rattle.t1_char.specs.declared.token.CharToken.{CharToken}
use Rattle.t1_char.specs.Arguments.{argument, is_hint_replacement}
use Rattle.t1_char.specs.Editions.{knows_one_edge}
use Rattle.t1_char.specs.Since.{since, was}
use Rattle.t1_char.specs.Steps.{StepView, is_callsubr}
use Rattle.t1_rules.specs.declared.step_rules.stems.Stem.{Stem}
use Rattle.t1_rules.specs.StepRules.Paths.{drawing}
use Rattle.t1_rules.specs.StepRules.Tokens.{is_command, is_pop}
use Rattle.t1_char.specs.Numbers.{unit}
use Rattle.t1_font.specs.Fonts.{after_last}

-- The two directions: hstem and hstem3 lie across the glyph, vstem and vstem3 are upright.
abbrev pub lies_across : Commands → Bool
lies_across Hstem = true
lies_across Hstem3 = true
lies_across _ = false

abbrev pub stands_upright : Commands → Bool
stands_upright Vstem = true
stands_upright Vstem3 = true
stands_upright _ = false

-- Of three stems.
abbrev pub is_triple : Commands → Bool
is_triple Hstem3 = true
is_triple Vstem3 = true
is_triple _ = false

abbrev pub is_stem : CharToken → Bool
is_stem token = is_command lies_across token || is_command stands_upright token

-- The stems of a command are its pairs of arguments.
abbrev pub stem_at : List ℤ → ℕ → Stem
stem_at stack place = record { position = argument stack place; width = argument stack (place + 1) }

abbrev pub stems_of : StepView → List Stem
stems_of step =
    if is_command is_triple step.token
    then stem_at step.stack 0 ∷ stem_at step.stack 2 ∷ stem_at step.stack 4 ∷ []
    else stem_at step.stack 0 ∷ []

-- Those that a step sets in a direction.
abbrev pub stems_in : (Commands → Bool) → StepView → List Stem
stems_in direction step = if is_command direction step.token then stems_of step else []

-- The most stems of a hint set.
abbrev pub most_stems : ℕ
most_stems = 96

-- The hint set of a direction: the first 96 stems since the last hint replacement.
abbrev pub hint_set : (Commands → Bool) → List StepView → List Stem
hint_set direction before = take most_stems (flat_map (stems_in direction) (after_last is_hint_replacement before))

-- Two stems overlap where the greater of the lower edges is below the lesser of the upper edges.
abbrev pub lower : Stem → ℤ
lower stem = int_min stem.position (stem.position +ℤ stem.width)

abbrev pub upper : Stem → ℤ
upper stem = int_max stem.position (stem.position +ℤ stem.width)

abbrev pub overlap : Stem → Stem → Bool
overlap one other = int_lt (int_max (lower one) (lower other)) (int_min (upper one) (upper other))

-- A stem of width -20 or -21, in units of 1/65536, is the hint of one edge, at the top or at the bottom: where an
-- edition knows such stems they overlap nothing.
abbrev pub has_one_edge : Stem → Bool
has_one_edge stem =
    int_eq stem.width (neg_ℤ (pos (20 * unit))) || int_eq stem.width (neg_ℤ (pos (21 * unit)))

abbrev pub overlap_by : Edition → Stem → Stem → Bool
overlap_by edition one other =
    not (knows_one_edge edition && (has_one_edge one || has_one_edge other)) && overlap one other

-- Which two stems clash is a parameter, since each edition has its own definition: one of the stems clashes
-- with one that is kept; two of the stems clash.
abbrev pub one_overlaps : (Stem → Stem → Bool) → List Stem → List Stem → Bool
one_overlaps clash stems kept = list_any (λ stem. list_any (clash stem) kept) stems

abbrev pub two_overlap : (Stem → Stem → Bool) → List Stem → Bool
two_overlap clash [] = false
two_overlap clash (stem ∷ stems) = list_any (clash stem) stems || two_overlap clash stems

abbrev pub stems_meet : (Stem → Stem → Bool) → List Stem → List Stem → Bool
stems_meet clash stems kept = one_overlaps clash stems kept || two_overlap clash stems

abbrev pub overlap_in : (Stem → Stem → Bool) → (Commands → Bool) → List StepView → StepView → Bool
overlap_in clash direction before step =
    is_command direction step.token && stems_meet clash (stems_of step) (hint_set direction before)

-- A step of a kind, whatever came before it.
abbrev pub replacing_step : List StepView → StepView → Bool
replacing_step before step = is_hint_replacement step

-- Something was drawn, and the hints weren't replaced since.
abbrev pub is_drawn : List StepView → Bool
is_drawn before = since drawing replacing_step before

abbrev pub sets_stem_late : List StepView → StepView → Bool
sets_stem_late before step = is_stem step.token && is_drawn before

abbrev pub sets_overlapping : (Stem → Stem → Bool) → List StepView → StepView → Bool
sets_overlapping clash before step =
    overlap_in clash lies_across before step || overlap_in clash stands_upright before step

abbrev pub has_no_width : Stem → Bool
has_no_width stem = int_eq stem.width (pos 0)

abbrev pub sets_without_width : StepView → Bool
sets_without_width step = is_stem step.token && list_any has_no_width (stems_of step)

-- The three stems of hstem3 or vstem3: the outer two are equally wide, and the middles equally far apart.
abbrev pub twice_middle : Stem → ℤ
twice_middle stem = (pos 2 *ℤ stem.position) +ℤ stem.width

abbrev pub is_off_middle : Stem → Stem → Stem → Bool
is_off_middle one two three =
    not (int_eq (pos 2 *ℤ twice_middle two) (twice_middle one +ℤ twice_middle three))

abbrev pub are_unequal : Stem → Stem → Stem → Bool
are_unequal one two three = not (int_eq one.width three.width) || is_off_middle one two three

abbrev pub sets_unequal : StepView → Bool
sets_unequal step =
    is_command is_triple step.token
    && are_unequal (stem_at step.stack 0) (stem_at step.stack 2) (stem_at step.stack 4)

-- pop follows a hint replacement, and callsubr follows that pop.
abbrev pub popping : StepView → Bool
popping step = is_pop step.token

abbrev pub is_replaced : List StepView → Bool
is_replaced before = was 0 is_hint_replacement before

abbrev pub is_replaced_and_popped : List StepView → Bool
is_replaced_and_popped before = was 1 is_hint_replacement before && was 0 popping before

abbrev pub leaves_out_pop : List StepView → StepView → Bool
leaves_out_pop before step = not (is_pop step.token) && is_replaced before

abbrev pub leaves_out_call : List StepView → StepView → Bool
leaves_out_call before step = not (is_callsubr step.token) && is_replaced_and_popped before
