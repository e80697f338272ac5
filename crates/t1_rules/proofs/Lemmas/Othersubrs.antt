-- What a call of an OtherSubr breaks.
use Rattle.std.proofs.Common.{◌≡◌, ℕ, ◌<◌, ◌≤◌, Bool, true, false, arith, nat_le, ℤ, List, length, refl}
use Rattle.std.proofs.lemmas.Bool.{le-leb}
use Rattle.t1_char.specs.declared.command.Command.TheVariants.{Callothersubr}
use Rattle.t1_char.specs.Stacks.{from_top}
use Rattle.t1_char.specs.Steps.{StepView}
use Rattle.t1_rules.specs.StepRules.{othersubr_rules, breaks}
use Rattle.t1_rules.specs.StepRules.Othersubrs.{has_good_count, is_effective}
use Rattle.t1_rules.specs.StepRules.Tokens.{IsCommand}
use Rattle.t1_rules.specs.Private.StepTests.{breaks_by_call}

pub of_call : (is_good is_own : Bool) (number : ℤ) (n : ℕ) (before : List StepView) (t : StepView) → IsCommand t Callothersubr → 2 ≤ length t.stack
    → is_good ≡ has_good_count t → is_own ≡ is_effective t → number ≡ from_top t.stack 0
    → breaks_by_call is_good is_own number n ≡ breaks othersubr_rules n before t
unfolding othersubr_rules
of_call is_good is_own number n before t call there good own top =
    let two : nat_le 2 (length t.stack) ≡ true = le-leb 2 (length t.stack) there in
    rw (good, own, top, call, two) refl

pub of_few : (n : ℕ) (before : List StepView) (t : StepView) → IsCommand t Callothersubr → length t.stack < 2 → breaks othersubr_rules n before t ≡ false
unfolding othersubr_rules
of_few n before t call few =
    let two : nat_le 2 (length t.stack) ≡ false = grind (arith, few) in
    rw (call, two) refl
