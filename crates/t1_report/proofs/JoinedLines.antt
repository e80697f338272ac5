-- The lines of a text make the text.
use Rattle.std.proofs.Common.{◌≡◌, ◌==◌, ℕ, Bool, false, List, [], ◌∷◌, ◌++◌, inl, inr, refl, ap, ◌∙◌, arith, append_assoc}
use Rattle.std.proofs.lemmas.Bool.{cases_Bool}
use Rattle.std.proofs.lemmas.Bool.Decides.{nat_tests}
use Rattle.std.proofs.lemmas.List.Folds.{list_any-append}
use Rattle.std.specs.List.{AllByRecursion, list_any}
use Rattle.t1_report.specs.Waivers.{lines_from}
use Rattle.t1_report.specs.Laws.WaiverLines.{LinesMakeTheText, joined, joined_behind}

is_end : ℕ → Bool
is_end b = b == 10

behind : (front text : List ℕ) → joined_behind (lines_from front text) ≡ 10 ∷ (front ++ text)
unfolding lines_from
behind front [] = refl
behind front (b ∷ text) = elim (cases_Bool (b == 10)) [
  | inl is ↦ (let ten : b ≡ 10 = grind (arith, nat_tests, is) in rw (is, ten, behind [] text) refl)
  | inr other ↦ rw other (behind (front ++ b ∷ []) text ∙ ap (λ xs. 10 ∷ xs) (append_assoc front (b ∷ []) text))
]

whole : (front text : List ℕ) → joined (lines_from front text) ≡ front ++ text
unfolding lines_from
whole front [] = refl
whole front (b ∷ text) = elim (cases_Bool (b == 10)) [
  | inl is ↦ (let ten : b ≡ 10 = grind (arith, nat_tests, is) in rw (is, ten, behind [] text) refl)
  | inr other ↦ rw other (whole (front ++ b ∷ []) text ∙ append_assoc front (b ∷ []) text)
]

abbrev NoEnd : List ℕ → Type 0
NoEnd line = list_any (λ b. b == 10) line ≡ false

apart : (front text : List ℕ) → NoEnd front → AllByRecursion NoEnd (lines_from front text)
unfolding lines_from
apart front [] none = (none, tt)
apart front (b ∷ text) none = elim (cases_Bool (b == 10)) [
  | inl is ↦ rw is (none, apart [] text refl)
  | inr other ↦ rw other (apart (front ++ b ∷ []) text (list_any-append (λ c. c == 10) front (b ∷ []) ∙ rw (none, other) refl))
]

pub lines_make_the_text : LinesMakeTheText
lines_make_the_text text = record { text_is = whole [] text; apart = apart [] text refl }
