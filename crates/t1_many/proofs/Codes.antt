-- Codes, and the letters that they begin with.
use Rattle.std.proofs.Common.{◌≡◌, ℕ, ◌&&◌, ◌||◌, Bool, true, false, true≢false, List, [], ◌∷◌, inl, inr, refl, sym, ap, ◌∙◌}
use Rattle.std.proofs.lemmas.Bool.{cases_Bool}
use Rattle.std.specs.List.{list_all}
use Rattle.t1_scan.specs.Bytes.{is_decimal_digit}
use Rattle.t1_rules.proofs.Lemmas.RuleCodes.{rule_is_found}
use Rattle.t1_rules.specs.Book.{code_of, rule_coded}
use Rattle.t1_rules.specs.declared.rule.Rule.{Rule}
use Rattle.t1_rules.specs.declared.rule.Rule.TheVariants.{F01}
use Rattle.t1_lines.proofs.Cuts.{some_same}
use Rattle.t1_many.proofs.Texts.{equal}
use Rattle.t1_many.specs.Choice.{letters_of}
use Rattle.t1_many.specs.Laws.{CodesPickTheirRule, LettersPickTheirRules}

-- whether a text ends with a digit
abbrev ends_with_digit : List ℕ → Bool
ends_with_digit [] = false
ends_with_digit (byte ∷ []) = is_decimal_digit byte
ends_with_digit (byte ∷ next ∷ bytes) = ends_with_digit (next ∷ bytes)

code_ends : (rule : Rule) → ends_with_digit (code_of rule) ≡ true
code_ends F01 = refl
code_ends _ = refl

either : (a b : Bool) → (a || b) ≡ true → {P : Type 0} → (a ≡ true → P) → (b ≡ true → P) → P
either true b e first second = first refl
either false b e first second = second e

and_false : (a b : Bool) → (a && b) ≡ false → b ≡ true → a ≡ false
and_false true b e all = absurd (true≢false (sym all ∙ e))
and_false false b e all = refl

-- a text of which nothing is left has digits alone
no_letters : (bytes : List ℕ) → letters_of bytes ≡ [] → list_all is_decimal_digit bytes ≡ true
no_letters [] e = refl
no_letters (byte ∷ bytes) e = elim (cases_Bool (list_all is_decimal_digit (byte ∷ bytes))) [
  | inl is ↦ is
  | inr other ↦ (let never : byte ∷ letters_of bytes ≡ [] = rw other at e in cc)
]

behind : (byte : ℕ) (bytes letters : List ℕ) → letters_of bytes ≡ letters → list_all is_decimal_digit (byte ∷ bytes) ≡ false
    → ends_with_digit letters ≡ false → ends_with_digit (byte ∷ letters) ≡ false
behind byte bytes [] none other end = and_false (is_decimal_digit byte) (list_all is_decimal_digit bytes) other (no_letters bytes none)
behind byte bytes (letter ∷ letters) some other end = end

-- letters end with no digit
letters_end : (code : List ℕ) → ends_with_digit (letters_of code) ≡ false
letters_end [] = refl
letters_end (byte ∷ bytes) = elim (cases_Bool (list_all is_decimal_digit (byte ∷ bytes))) [
  | inl is ↦ rw is refl
  | inr other ↦ rw other (behind byte bytes (letters_of bytes) refl other (letters_end bytes))
]

pub codes_pick : CodesPickTheirRule
codes_pick rule other picked = either _ _ picked
    (λ same. some_same rule other
    (sym (rule_is_found rule) ∙ ap rule_coded (equal (code_of rule) (code_of other) same) ∙ rule_is_found other))
    (λ letters. absurd (true≢false
    (sym (code_ends rule) ∙ ap ends_with_digit (equal (code_of rule) (letters_of (code_of other)) letters) ∙ letters_end (code_of other))))

pub letters_pick : LettersPickTheirRules
letters_pick rule other picked = either _ _ picked
    (λ same. absurd (true≢false
    (sym (code_ends other) ∙ ap ends_with_digit (sym (equal (letters_of (code_of rule)) (code_of other) same)) ∙ letters_end (code_of rule))))
    (λ letters. equal (letters_of (code_of rule)) (letters_of (code_of other)) letters)
