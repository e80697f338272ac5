-- The first line of a text, as it is cut off.
use Rattle.std.proofs.Common.{◌≡◌, ◌<◌, ◌==◌, ℕ, List, [], ◌∷◌, length, None, Some, option_map, inl, inr, refl, ap, subst, ◌∙◌, arith}
use Rattle.std.proofs.lemmas.Bool.{cases_Bool}
use Rattle.t1_lines.proofs.Cuts.{some_same}
use Rattle.t1_lines.specs.Cutting.{cut}
use Rattle.t1_known.specs.Lines.{lines_of, with_byte}

abbrev IsCut : List ℕ → List ℕ × List ℕ → Type 0
IsCut text p = (lines_of text ≡ p.0 ∷ lines_of p.1) × (length p.1 < length text)

pub line_cut : (text : List ℕ) (p : List ℕ × List ℕ) → cut 10 text ≡ Some p → IsCut text p
line_cut [] p e = cc
line_cut (c ∷ text) p e =
    elim (cases_Bool (c == 10)) [
      | inl at ↦ (let here : Some ([], text) ≡ Some p = rw at at e in let q : List ℕ × List ℕ = ([], text) in
          subst (IsCut (c ∷ text)) (some_same q p here) (rw at refl, omega arith))
      | inr at ↦ (
          let there : option_map (λ p. (c ∷ p.0, p.1)) (cut 10 text) ≡ Some p = rw at at e in
          elim (cut 10 text) as (λ o. cut 10 text ≡ o → option_map (λ p. (c ∷ p.0, p.1)) o ≡ Some p → IsCut (c ∷ text) p) [
            | None ↦ λ is got. cc
            | Some q ↦ λ is got. (
                let r : List ℕ × List ℕ = (c ∷ q.0, q.1) in
                let more = line_cut text q is in
                let shorter : length q.1 < length (c ∷ text) = omega (arith, more.1) in
                subst (IsCut (c ∷ text)) (some_same r p got) (rw at (ap (with_byte c) more.0), shorter))
          ] refl there)
    ]

-- a text without a line end is a line
abbrev with_front : ℕ → List ℕ × List ℕ → List ℕ × List ℕ
with_front c p = (c ∷ p.0, p.1)

abbrev Line : List ℕ → List (List ℕ)
Line [] = []
Line (c ∷ text) = (c ∷ text) ∷ []

with_line : (c : ℕ) (text : List ℕ) → with_byte c (Line text) ≡ (c ∷ text) ∷ []
with_line c [] = refl
with_line c (d ∷ text) = refl

lines_left : (text : List ℕ) → cut 10 text ≡ None → lines_of text ≡ Line text
lines_left [] e = refl
lines_left (c ∷ text) e =
    elim (cases_Bool (c == 10)) [
      | inl at ↦ (let q : List ℕ × List ℕ = ([], text) in let here : Some q ≡ None = rw at at e in cc)
      | inr at ↦ (
          let there : option_map (with_front c) (cut 10 text) ≡ None = rw at at e in
          elim (cut 10 text) as (λ o. cut 10 text ≡ o → option_map (with_front c) o ≡ None → lines_of (c ∷ text) ≡ (c ∷ text) ∷ []) [
            | None ↦ λ is got. rw at (ap (with_byte c) (lines_left text is) ∙ with_line c text)
            | Some q ↦ λ is got. cc
          ] refl there)
    ]

pub line_left : (text : List ℕ) → cut 10 text ≡ None → 0 < length text → lines_of text ≡ text ∷ []
line_left [] e some = absurd (omega (arith, some))
line_left (c ∷ text) e some = lines_left (c ∷ text) e
