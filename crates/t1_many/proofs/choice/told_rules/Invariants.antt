use Rattle.std.proofs.Common.{◌≡◌, ◌<◌, ◌≤◌, ℕ, false}
use Rattle.t1_many.proofs.choice.told_rules.Given as goal
use Rattle.t1_many.specs.Choice.{choice_of, is_told}
use Rattle.t1_rules.specs.Book.{code_of, number_of}
use Rattle.t1_rules.specs.Mask.{has}
use Rattle.t1_rules.specs.declared.rule.Rule.{Rule}

abbrev pub invariant-loop-number : goal.invariant-loop-number
invariant-loop-number l = record {
  set : (rule : Rule) → number_of rule < l.number → has l.rules (number_of rule)
      ≡ is_told (choice_of l.choice) (code_of rule);
  above : (n : ℕ) → l.number ≤ n → has l.rules n ≡ false;
}
