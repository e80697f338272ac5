-- Codes and rules are one to one.
use Rattle.std.proofs.Common.{◌≡◌, ℕ, Some, List, [], ◌∷◌, inl, inr, refl, subst}
use Rattle.std.proofs.lemmas.Bool.{cases_Bool}
use Rattle.t1_font.specs.Keys.{same_name}
use Rattle.t1_font.proofs.Tables.{name_exact}
use Rattle.t1_rules.specs.declared.rule.Rule.{Rule}
use Rattle.t1_rules.specs.declared.rule.Rule.TheVariants.{F01}
use Rattle.t1_rules.specs.Book.{code_of, coded_in, rule_coded, rules}
use Rattle.t1_rules.specs.Laws.Book.{CodesAreOfTheirRules}

pub rule_is_found : (rule : Rule) → rule_coded (code_of rule) ≡ Some rule
unfolding coded_in
rule_is_found F01 = refl
rule_is_found _ = refl

code_is_in : (code : List ℕ) (rs : List Rule) (rule : Rule) → coded_in code rs ≡ Some rule → code_of rule ≡ code
unfolding coded_in
code_is_in code [] rule found = cc
code_is_in code (r ∷ rs) rule found =
    elim (cases_Bool (same_name (code_of r) code)) [
      | inl same ↦ (
          let here : Some r ≡ Some rule = rw same at found in
          let it : r ≡ rule = cc in
          subst (λ x. code_of x ≡ code) it (name_exact.exact (code_of r) code same))
      | inr other ↦ (let there : coded_in code rs ≡ Some rule = rw other at found in code_is_in code rs rule there)
    ]

pub code_is_its : (code : List ℕ) (rule : Rule) → rule_coded code ≡ Some rule → code_of rule ≡ code
code_is_its code rule found = code_is_in code rules rule found

pub codes_are_of_their_rules : CodesAreOfTheirRules
codes_are_of_their_rules code rule = (code_is_its code rule, λ its. subst (λ (c : List ℕ). rule_coded c ≡ Some rule) its (rule_is_found rule))
