-- Where the rows of the charstring rules are broken, one by one.
use Rattle.std.proofs.Common.{◌≡◌, ◌&&◌, List, refl}
use Rattle.t1_char.specs.declared.edition.Edition.{Edition}
use Rattle.t1_char.specs.Editions.{has_later_rules}
use Rattle.t1_char.specs.Steps.{StepView}
use Rattle.t1_rules.specs.declared.rule.Rule.TheVariants.{C04, C05, C06, S01, S02, H01, H04, R01, R02, X04, X06, O04, K01, K02, H06, H07}
use Rattle.t1_rules.specs.Laws.StepRules.{violates}
use Rattle.t1_rules.specs.StepRules.{argument_rules, call_rules, path_rules, stem_rules, flex_rules, othersubr_rules, seac_rules, step_rules, triple_rules, counter_rules}
use Rattle.t1_rules.specs.StepRules.Arguments.{has_too_few_arguments, has_too_many_arguments, overflows}
use Rattle.t1_rules.specs.StepRules.Calls.{calls_missing, calls_too_deep}
use Rattle.t1_rules.specs.StepRules.Flex.{counts_no_pairs, sets_point_alone}
use Rattle.t1_rules.specs.StepRules.Othersubrs.{pops_nothing}
use Rattle.t1_rules.specs.StepRules.Seac.{has_no_code, has_unnamed_code}
use Rattle.t1_rules.specs.StepRules.Stems.{leaves_out_call, leaves_out_pop, sets_stem_late, sets_unequal}
use Rattle.t1_rules.specs.StepRules.Triples.{sets_another, sets_beside}
use Rattle.t1_rules.proofs.Lemmas.StepRules.{row_decides}

pub c04_row : (edition : Edition) (before : List StepView) (step : StepView) → violates edition C04 before step ≡ has_too_few_arguments step.token step.stack
unfolding step_rules argument_rules call_rules path_rules stem_rules flex_rules othersubr_rules seac_rules triple_rules counter_rules
c04_row edition before step = row_decides 29 (step_rules edition) 3 _ refl refl refl refl before step

pub c05_row : (edition : Edition) (before : List StepView) (step : StepView) → violates edition C05 before step ≡ has_too_many_arguments step.token step.stack
unfolding step_rules argument_rules call_rules path_rules stem_rules flex_rules othersubr_rules seac_rules triple_rules counter_rules
c05_row edition before step = row_decides 30 (step_rules edition) 4 _ refl refl refl refl before step

pub c06_row : (edition : Edition) (before : List StepView) (step : StepView) → violates edition C06 before step ≡ overflows step
unfolding step_rules argument_rules call_rules path_rules stem_rules flex_rules othersubr_rules seac_rules triple_rules counter_rules
c06_row edition before step = row_decides 31 (step_rules edition) 5 _ refl refl refl refl before step

pub s01_row : (edition : Edition) (before : List StepView) (step : StepView) → violates edition S01 before step ≡ calls_missing step
unfolding step_rules argument_rules call_rules path_rules stem_rules flex_rules othersubr_rules seac_rules triple_rules counter_rules
s01_row edition before step = row_decides 35 (step_rules edition) 9 _ refl refl refl refl before step

pub s02_row : (edition : Edition) (before : List StepView) (step : StepView) → violates edition S02 before step ≡ calls_too_deep step
unfolding step_rules argument_rules call_rules path_rules stem_rules flex_rules othersubr_rules seac_rules triple_rules counter_rules
s02_row edition before step = row_decides 36 (step_rules edition) 10 _ refl refl refl refl before step

pub h01_row : (edition : Edition) (before : List StepView) (step : StepView) → violates edition H01 before step ≡ sets_stem_late before step
unfolding step_rules argument_rules call_rules path_rules stem_rules flex_rules othersubr_rules seac_rules triple_rules counter_rules
h01_row edition before step = row_decides 46 (step_rules edition) 20 _ refl refl refl refl before step

pub h04_row : (edition : Edition) (before : List StepView) (step : StepView) → violates edition H04 before step ≡ sets_unequal step
unfolding step_rules argument_rules call_rules path_rules stem_rules flex_rules othersubr_rules seac_rules triple_rules counter_rules
h04_row edition before step = row_decides 49 (step_rules edition) 23 _ refl refl refl refl before step

pub r01_row : (edition : Edition) (before : List StepView) (step : StepView) → violates edition R01 before step ≡ leaves_out_pop before step
unfolding step_rules argument_rules call_rules path_rules stem_rules flex_rules othersubr_rules seac_rules triple_rules counter_rules
r01_row edition before step = row_decides 50 (step_rules edition) 24 _ refl refl refl refl before step

pub r02_row : (edition : Edition) (before : List StepView) (step : StepView) → violates edition R02 before step ≡ leaves_out_call before step
unfolding step_rules argument_rules call_rules path_rules stem_rules flex_rules othersubr_rules seac_rules triple_rules counter_rules
r02_row edition before step = row_decides 51 (step_rules edition) 25 _ refl refl refl refl before step

pub x04_row : (edition : Edition) (before : List StepView) (step : StepView) → violates edition X04 before step ≡ counts_no_pairs before step
unfolding step_rules argument_rules call_rules path_rules stem_rules flex_rules othersubr_rules seac_rules triple_rules counter_rules
x04_row edition before step = row_decides 55 (step_rules edition) 29 _ refl refl refl refl before step

pub x06_row : (edition : Edition) (before : List StepView) (step : StepView) → violates edition X06 before step ≡ sets_point_alone before step
unfolding step_rules argument_rules call_rules path_rules stem_rules flex_rules othersubr_rules seac_rules triple_rules counter_rules
x06_row edition before step = row_decides 57 (step_rules edition) 31 _ refl refl refl refl before step

pub o04_row : (edition : Edition) (before : List StepView) (step : StepView) → violates edition O04 before step ≡ pops_nothing step
unfolding step_rules argument_rules call_rules path_rules stem_rules flex_rules othersubr_rules seac_rules triple_rules counter_rules
o04_row edition before step = row_decides 61 (step_rules edition) 35 _ refl refl refl refl before step

pub k01_row : (edition : Edition) (before : List StepView) (step : StepView) → violates edition K01 before step ≡ has_no_code step
unfolding step_rules argument_rules call_rules path_rules stem_rules flex_rules othersubr_rules seac_rules triple_rules counter_rules
k01_row edition before step = row_decides 62 (step_rules edition) 36 _ refl refl refl refl before step

pub k02_row : (edition : Edition) (before : List StepView) (step : StepView) → violates edition K02 before step ≡ has_unnamed_code step
unfolding step_rules argument_rules call_rules path_rules stem_rules flex_rules othersubr_rules seac_rules triple_rules counter_rules
k02_row edition before step = row_decides 63 (step_rules edition) 37 _ refl refl refl refl before step

pub h06_row : (edition : Edition) (before : List StepView) (step : StepView) → violates edition H06 before step ≡ (has_later_rules edition && sets_beside before step)
unfolding step_rules argument_rules call_rules path_rules stem_rules flex_rules othersubr_rules seac_rules triple_rules counter_rules
h06_row edition before step = row_decides 87 (step_rules edition) 40 _ refl refl refl refl before step

pub h07_row : (edition : Edition) (before : List StepView) (step : StepView) → violates edition H07 before step ≡ (has_later_rules edition && sets_another before step)
unfolding step_rules argument_rules call_rules path_rules stem_rules flex_rules othersubr_rules seac_rules triple_rules counter_rules
h07_row edition before step = row_decides 88 (step_rules edition) 41 _ refl refl refl refl before step
