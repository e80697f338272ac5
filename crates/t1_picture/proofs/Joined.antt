-- Texts that are written one after another.
use Rattle.std.proofs.Common.{◌≡◌, List, ℕ, ◌++◌, OnOk, Result, Ok, Err, append_assoc, ap, ◌∙◌}
use Rattle.std.specs.declared.alloc.AllocError.{AllocError}

-- A text and then the last one.
pub then_last : (r : Result (Unit {0}) AllocError) (s0 s1 s2 a b : List ℕ) → s1 ≡ s0 ++ a → OnOk r (s2 ≡ s1 ++ b) → OnOk r (s2 ≡ s0 ++ (a ++ b))
then_last (Ok done) s0 s1 s2 a b first last = last ∙ ap (λ (s : List ℕ). s ++ b) first ∙ append_assoc s0 a b
then_last (Err e) s0 s1 s2 a b first last = last

-- Lines and then others.
pub then_lines : (r : Result (Unit {0}) AllocError) (l0 l1 l2 a b : List (List ℕ)) → l1 ≡ l0 ++ a → OnOk r (l2 ≡ l1 ++ b) → OnOk r (l2 ≡ l0 ++ (a ++ b))
then_lines (Ok done) l0 l1 l2 a b first last = last ∙ ap (λ (l : List (List ℕ)). l ++ b) first ∙ append_assoc l0 a b
then_lines (Err e) l0 l1 l2 a b first last = last
