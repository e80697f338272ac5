-- Laws of the rule book.
use Rattle.std.specs.Prelude.{◌≡◌, ◌↔◌, ℕ, ◌-◌, List, Some, length, slice_get}
use Rattle.t1_rules.specs.declared.rule.Rule.{Rule}
use Rattle.t1_rules.specs.Book.{code_of, last_number, number_of, rule_coded, rules}

-- Each rule is in the list of all at its number, of which the first is 1.
abbrev pub EachRuleStands : Type 0
EachRuleStands = (rule : Rule) → slice_get rules (number_of rule - 1) ≡ Some rule

-- There are no more of them.
abbrev pub NoMoreRulesStand : Type 0
NoMoreRulesStand = length rules ≡ last_number

-- A code is looked up as a rule exactly where it is that rule's: so no two rules have one code.
abbrev pub CodesAreOfTheirRules : Type 0
CodesAreOfTheirRules = (code : List ℕ) (rule : Rule) → (rule_coded code ≡ Some rule) ↔ (code_of rule ≡ code)
