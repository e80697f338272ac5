-- Which words are codes of rules.
use Rattle.std.proofs.Common.{◌≡◌, ◌||◌, ℕ, Bool, true, false, zero, suc, List, [], ◌∷◌, Some, slice_get, refl, ap, ◌∙◌}
use Rattle.std.specs.List.{list_any}
use Rattle.t1_many.specs.Choice.{letters_of}
use Rattle.t1_rules.specs.Book.{code_of}
use Rattle.t1_rules.specs.declared.rule.Rule.{Rule}
use Rattle.t1_rules.specs.declared.rule.Rule.TheVariants.{F01}
use Rattle.t1_options.specs.Choices.{is_known}
use Rattle.t1_options.specs.Laws.{NoRefusalIsKnown, RulesAreKnown}

code_known : (rule : Rule) → is_known (code_of rule) ≡ true
unfolding is_known
code_known F01 = refl
code_known _ = refl

letters_known : (rule : Rule) → is_known (letters_of (code_of rule)) ≡ true
unfolding is_known
letters_known F01 = refl
letters_known _ = refl

pub rules_are_known : RulesAreKnown
rules_are_known = record { codes = code_known; letters = letters_known }

pub no_refusal_is_known : NoRefusalIsKnown
unfolding is_known
no_refusal_is_known rest = refl

-- a test that the rule at some place passes
or_true : (a : Bool) → (a || true) ≡ true
or_true true = refl
or_true false = refl

pub any_of : (test : Rule → Bool) (list : List Rule) (place : ℕ) (rule : Rule) → slice_get list place ≡ Some rule → test rule ≡ true
    → list_any test list ≡ true
any_of test [] place rule at passes = cc
any_of test (first ∷ list) zero rule at passes =
    let same : Some first ≡ Some rule = at in
    let passed : test first ≡ true = cc in rw passed refl
any_of test (first ∷ list) (suc place) rule at passes =
    ap (λ b. test first || b) (any_of test list place rule at passes) ∙ or_true (test first)
