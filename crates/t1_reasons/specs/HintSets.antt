-- Hint sets, each stem with the step that set it.
use Rattle.std.specs.Prelude.{ℕ, Bool, List, map, take}
use Rattle.std.specs.List.{flat_map}
use Rattle.t1_char.specs.declared.command.Command.{Command as Commands}
use Rattle.t1_char.specs.Arguments.{is_hint_replacement}
use Rattle.t1_char.specs.Steps.{NumberedStep, StepView, numbered}
use Rattle.t1_font.specs.Fonts.{after_last}
use Rattle.t1_reasons.specs.declared.reason.SetStem.{SetStem}
use Rattle.t1_rules.specs.declared.step_rules.stems.Stem.{Stem}
use Rattle.t1_rules.specs.StepRules.Stems.{most_stems, stems_in}

abbrev pub set_at : ℕ → Stem → SetStem
set_at step stem = record { stem = stem; step = step }

abbrev pub all_set_at : ℕ → List Stem → List SetStem
all_set_at step stems = map (set_at step) stems

abbrev pub set_by : (Commands → Bool) → NumberedStep → List SetStem
set_by direction s = all_set_at s.number (stems_in direction s.step)

abbrev pub replaces : NumberedStep → Bool
replaces s = is_hint_replacement s.step

-- The hint set of a direction: the first 96 stems since the last hint replacement.
abbrev pub stems_set : (Commands → Bool) → List StepView → List SetStem
stems_set direction before = take most_stems (flat_map (set_by direction) (after_last replaces (numbered 1 before)))
