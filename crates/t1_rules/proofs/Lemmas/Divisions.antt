-- What a division of two numbers breaks.
use Rattle.std.proofs.Common.{◌≡◌, ℕ, ℤ, ◌≤◌, true, false, nat_lt, nat_le, List, length, refl}
use Rattle.std.proofs.lemmas.Bool.{le-ltb, le-leb}
use Rattle.t1_char.specs.declared.command.Command.TheVariants.{Div}
use Rattle.t1_char.specs.Stacks.{from_top}
use Rattle.t1_char.specs.Steps.{StepView}
use Rattle.t1_rules.specs.StepRules.{argument_rules, breaks}
use Rattle.t1_rules.specs.StepRules.Tokens.{IsCommand}
use Rattle.t1_rules.specs.Private.StepTests.{breaks_by_quotient}

pub of_two : (dividend divisor : ℤ) (n : ℕ) (before : List StepView) (t : StepView) → IsCommand t Div → 2 ≤ length t.stack
    → dividend ≡ from_top t.stack 1 → divisor ≡ from_top t.stack 0
    → breaks_by_quotient dividend divisor n ≡ breaks argument_rules n before t
unfolding argument_rules
of_two dividend divisor n before t div there above below =
    let enough : nat_lt (length t.stack) 2 ≡ false = le-ltb (length t.stack) 2 there in
    let two : nat_le 2 (length t.stack) ≡ true = le-leb 2 (length t.stack) there in
    rw (div, enough, two, above, below) refl
