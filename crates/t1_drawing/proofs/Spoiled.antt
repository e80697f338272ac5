-- What the rules of all watchers say of a flex.
use Rattle.std.proofs.Common.{◌≡◌, ℕ, List, refl, ◌∙◌}
use Rattle.t1_char.specs.declared.edition.Edition.{Edition}
use Rattle.t1_char.specs.Steps.{StepView}
use Rattle.t1_outline.specs.Nibs.{spoils}
use Rattle.t1_outline.specs.Outlines.{spoils_flex}
use Rattle.t1_rules.specs.declared.mask.Mask.{Mask}
use Rattle.t1_rules.specs.Mask.{has}
use Rattle.t1_rules.specs.StepRules.{argument_rules, breaks, call_rules, counter_rules, flex_rules, othersubr_rules, path_rules, seac_rules, stem_rules, step_rules, triple_rules}
use Rattle.t1_rules.specs.StepRules.Flex.{commands_in_flex, counts_no_pairs, starts_in_flex}
use Rattle.t1_rules.proofs.Lemmas.StepRules.{row_decides}

module _ (edition : Edition) (before : List StepView) (t : StepView) where
  x01_row : breaks (step_rules edition) 52 before t ≡ starts_in_flex before t
  unfolding step_rules argument_rules call_rules path_rules stem_rules flex_rules othersubr_rules seac_rules triple_rules counter_rules
  x01_row = row_decides 52 (step_rules edition) 26 _ refl refl refl refl before t

  x03_row : breaks (step_rules edition) 54 before t ≡ commands_in_flex before t
  unfolding step_rules argument_rules call_rules path_rules stem_rules flex_rules othersubr_rules seac_rules triple_rules counter_rules
  x03_row = row_decides 54 (step_rules edition) 28 _ refl refl refl refl before t

  x04_row : breaks (step_rules edition) 55 before t ≡ counts_no_pairs before t
  unfolding step_rules argument_rules call_rules path_rules stem_rules flex_rules othersubr_rules seac_rules triple_rules counter_rules
  x04_row = row_decides 55 (step_rules edition) 29 _ refl refl refl refl before t

  pub spoils_by_steps : (broken : Mask) → ((n : ℕ) → has broken n ≡ breaks (step_rules edition) n before t)
      → spoils broken ≡ spoils_flex before t
  spoils_by_steps broken answer = rw (answer 52 ∙ x01_row, answer 54 ∙ x03_row, answer 55 ∙ x04_row) refl
