-- The code with which a kind begins.
use Rattle.std.proofs.Common.{◌≡◌, ◌==◌, ℕ, List, [], ◌∷◌, Option, None, Some, option_map, inl, inr, refl, ap, ◌∙◌}
use Rattle.std.proofs.lemmas.Bool.{cases_Bool}
use Rattle.t1_lines.specs.Cutting.{cut}
use Rattle.t1_many.specs.KnownFaults.{rule_of}

abbrev front_of : List ℕ → Option (List ℕ × List ℕ) → List ℕ
front_of text None = text
front_of text (Some p) = p.0

pub rule_cut : (text : List ℕ) → front_of text (cut 32 text) ≡ rule_of text
rule_cut [] = refl
rule_cut (c ∷ text) = elim (cases_Bool (c == 32)) [
  | inl at ↦ rw at refl
  | inr at ↦ rw at (front (cut 32 text) ∙ ap (λ (t : List ℕ). c ∷ t) (rule_cut text))
]
  where
    front : (o : Option (List ℕ × List ℕ)) → front_of (c ∷ text) (option_map (λ p. (c ∷ p.0, p.1)) o) ≡ c ∷ front_of text o
    front None = refl
    front (Some p) = refl

pub rule_there : (text : List ℕ) (p : List ℕ × List ℕ) → Some p ≡ cut 32 text → p.0 ≡ rule_of text
rule_there text p is = ap (front_of text) is ∙ rule_cut text

pub rule_alone : (text : List ℕ) → None ≡ cut 32 text → text ≡ rule_of text
rule_alone text is = ap (front_of text) is ∙ rule_cut text
