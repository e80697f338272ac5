-- Which numbers are kept, and how many commands need.
use Rattle.std.proofs.Common.{◌≡◌, ℕ, ℤ, ◌&&◌, ◌||◌, nat_lt, true, false, List, length, refl, sym, ap, ◌∙◌, arith}
use Rattle.std.proofs.lemmas.Bool.{ltb-true, lt-ltb, eqb-true}
use Rattle.std.proofs.lemmas.Int.{ints, clamps}
use Rattle.t1_char.specs.declared.command.Command.{Command as Commands}
use Rattle.t1_char.specs.declared.command.Command.TheVariants.{Pop}
use Rattle.t1_char.specs.declared.token.CharToken.{CharToken}
use Rattle.t1_char.specs.declared.token.CharToken.TheVariants.{Command, Number}
use Rattle.t1_char.specs.Commands.{arguments_of}
use Rattle.t1_char.specs.Steps.{StepView, is_number}
use Rattle.t1_rules.specs.Laws.Arguments.{Brings, KeptIsNotPast, NoneAreTooManyAtTheTop, NumbersOverflowAt24, OthersHaveNoArguments, TooFewAreFewerThanWanted, TooManyAreMoreThanArguments, Wants, arguments, callothersubr, callsubr, div, number, pop, result, return}
use Rattle.t1_rules.specs.declared.rule.Rule.TheVariants.{C06}
use Rattle.t1_rules.specs.Laws.StepRules.{violates}
use Rattle.t1_rules.specs.StepRules.Arguments.{has_too_few_arguments, has_too_many_arguments, is_more_than, wanted_by}
use Rattle.t1_rules.specs.StepRules.Tokens.{is_pop}
use Rattle.t1_rules.proofs.Lemmas.Book.{both}
use Rattle.t1_rules.proofs.Lemmas.Rows.{c04_row, c05_row, c06_row}

pub kept_is_not_past : KeptIsNotPast
kept_is_not_past z = (λ e. grind (arith, ints, clamps, e), λ e. grind (arith, ints, clamps, e))

wanted : (command : Commands) (count : ℕ) → Wants command count → wanted_by command (arguments_of command) ≡ count
wanted command count (arguments _ _ is) = ap (wanted_by command) is
wanted _ _ div = refl
wanted _ _ callothersubr = refl
wanted _ _ callsubr = refl
wanted _ _ pop = refl
wanted _ _ return = refl

pub too_few_are_fewer : TooFewAreFewerThanWanted
too_few_are_fewer edition before step command count is wants =
    let broken = c04_row edition before step ∙ ap (λ token. has_too_few_arguments token step.stack) is
    ∙ ap (nat_lt (length step.stack)) (wanted command count wants) in
    (λ e. ltb-true (length step.stack) count (sym broken ∙ e), λ fewer. broken ∙ lt-ltb (length step.stack) count fewer)

pub too_many_are_more : TooManyAreMoreThanArguments
too_many_are_more edition before step command count is takes =
    let broken = c05_row edition before step ∙ ap (λ token. has_too_many_arguments token step.stack) is
    ∙ ap (λ wanted. is_more_than wanted (length step.stack)) takes in
    (λ e. ltb-true count (length step.stack) (sym broken ∙ e), λ more. broken ∙ lt-ltb count (length step.stack) more)

pub none_are_too_many : NoneAreTooManyAtTheTop
none_are_too_many edition before step command is takes =
    c05_row edition before step ∙ ap (λ token. has_too_many_arguments token step.stack) is ∙ ap (λ wanted. is_more_than wanted (length step.stack)) takes

not_few : (token : CharToken) (stack : List ℤ) → ((command : Commands) → token ≡ Command command → ⊥) → has_too_few_arguments token stack ≡ false
not_few (Command command) stack none = absurd (none command refl)
not_few _ stack none = refl

not_many : (token : CharToken) (stack : List ℤ) → ((command : Commands) → token ≡ Command command → ⊥) → has_too_many_arguments token stack ≡ false
not_many (Command command) stack none = absurd (none command refl)
not_many _ stack none = refl

pub others_have_no_arguments : OthersHaveNoArguments
others_have_no_arguments edition before step none = record {
  few = c04_row edition before step ∙ not_few step.token step.stack none;
  many = c05_row edition before step ∙ not_many step.token step.stack none;
}

-- ---- the 25th number

brings : (step : StepView) (token : CharToken) → step.token ≡ token → (is_number token || (is_pop token && nat_lt 0 step.waiting)) ≡ true → Brings step
brings step (Number z) is e = number z is
brings step (Command Pop) is e = result is (ltb-true 0 step.waiting e)
brings step _ is e = let no : false ≡ true = e in cc

brought : (step : StepView) → Brings step → (is_number step.token || (is_pop step.token && nat_lt 0 step.waiting)) ≡ true
brought step (number z is) = rw is refl
brought step (result is waits) = rw (is, lt-ltb 0 step.waiting waits) refl

pub numbers_overflow_at_24 : NumbersOverflowAt24
numbers_overflow_at_24 edition before step = (overflown, λ is. c06_row edition before step ∙ rw (brought step is.0, is.1) refl)
  where
    overflown : violates edition C06 before step ≡ true → Brings step × (length step.stack ≡ 24)
    overflown e =
        let parts = both _ _ (sym (c06_row edition before step) ∙ e) in
        (brings step step.token refl parts.0, eqb-true (length step.stack) 24 parts.1)
