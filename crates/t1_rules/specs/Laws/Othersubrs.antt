-- Laws of calls of OtherSubrs.
use Rattle.std.specs.Prelude.{◌≡◌, ℕ, ◌&&◌, ◌↔◌, Bool, true, false, List, [], ◌∷◌}
use Rattle.std.specs.List.{count_by}
use Rattle.t1_font.specs.Fonts.{FontValue}
use Rattle.t1_char.specs.declared.command.Command.TheVariants.{Pop}
use Rattle.t1_char.specs.declared.edition.Edition.{Edition}
use Rattle.t1_char.specs.declared.token.CharToken.{CharToken}
use Rattle.t1_char.specs.declared.token.CharToken.TheVariants.{Command}
use Rattle.t1_char.specs.Effects.{State}
use Rattle.t1_char.specs.Stacks.{from_top}
use Rattle.t1_char.specs.Steps.{StepView, effect_at, step_at}
use Rattle.t1_rules.specs.declared.rule.Rule.TheVariants.{O04}
use Rattle.t1_rules.specs.Laws.StepRules.{violates}
use Rattle.t1_rules.specs.StepRules.Othersubrs.{calls_by_numbers, calls_unknown, has_bad_count, has_good_count, has_wrong_count, is_counter_control, is_effective}
use Rattle.t1_rules.specs.StepRules.Tokens.{IsCommand}

-- How many of these are so.
abbrev pub how_many : List Bool → ℕ
how_many bools = count_by (λ b. b) bools

-- Counter control, with a good count.
abbrev pub controls_counters : StepView → Bool
controls_counters step =
    calls_by_numbers step && has_good_count step && is_counter_control (from_top step.stack 0)

-- Of callothersubr with two numbers exactly one is so: it calls 0 to 3 with the count that is needed; it
-- controls counters; or it breaks O01, O02 or O03.
abbrev pub CallsAreOneOfFive : Type 0
CallsAreOneOfFive =
    (step : StepView) → calls_by_numbers step ≡ true →
    how_many (
    is_effective step
    ∷ controls_counters step
    ∷ calls_unknown step
    ∷ has_bad_count step
    ∷ has_wrong_count step
    ∷ []) ≡ 1

-- pop breaks O04 exactly where it changes nothing, as no result waits; nothing else breaks it.
abbrev pub PopsOfNothingChangeNothing : Type 0
PopsOfNothingChangeNothing =
    (edition : Edition) (font : FontValue) (path : List ℕ) (behind : List CharToken) (state : State)
    (before : List StepView) →
    (violates edition O04 before (step_at font path (Command Pop) behind state) ≡ true)
    ↔ ((effect_at font path (Command Pop) state).state ≡ state)

abbrev pub PopsAlonePopNothing : Type 0
PopsAlonePopNothing =
    (edition : Edition) (before : List StepView) (step : StepView) →
    (IsCommand step Pop → ⊥) → violates edition O04 before step ≡ false
