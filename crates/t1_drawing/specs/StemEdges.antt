-- Stems that share an edge, H09, and stems of negative width, H10. Type 1 Font Format 1.1, chapters 5 and 6.
use Rattle.std.specs.Prelude.{pos, ◌&&◌, ◌||◌, not, int_lt, Bool, List}
use Rattle.std.specs.List.{list_any}
use Rattle.std.specs.Ordering.{int_eq}
use Rattle.t1_char.specs.Steps.{StepView}
use Rattle.t1_rules.specs.declared.step_rules.stems.Stem.{Stem}
use Rattle.t1_rules.specs.StepRules.Stems.{has_no_width, has_one_edge, is_stem, lower, sets_overlapping, stems_of, upper}

-- A stem with two edges: of another width than 0, and than -20 and -21, which mean one edge.
abbrev pub has_two_edges : Stem → Bool
has_two_edges stem = not (has_no_width stem || has_one_edge stem)

-- Where one stem ends the other begins.
abbrev pub are_adjacent : Stem → Stem → Bool
are_adjacent one other =
    (has_two_edges one && has_two_edges other) && (int_eq (upper one) (lower other) || int_eq (upper other) (lower one))

-- A stem of the step shares an edge with one of the hint set, or with another of its own.
abbrev pub sets_adjacent : List StepView → StepView → Bool
sets_adjacent before step = sets_overlapping are_adjacent before step

abbrev pub has_negative_width : Stem → Bool
has_negative_width stem = int_lt stem.width (pos 0) && not (has_one_edge stem)

abbrev pub sets_negative_width : StepView → Bool
sets_negative_width step = is_stem step.token && list_any has_negative_width (stems_of step)
