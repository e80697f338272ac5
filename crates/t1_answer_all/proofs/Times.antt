-- Lines that are printed again and again.
use Rattle.std.proofs.Common.{◌≡◌, ◌+◌, ◌<◌, ℕ, List, [], ◌∷◌, ◌++◌, ap, append-nil, replicate, subst, sym, ◌∙◌}
use Rattle.std.proofs.lemmas.List.Folds.{concat-append}
use Rattle.std.specs.List.{concat}
use Rattle.t1_answer_all.proofs.GivenEach.{replicate-push, replicate-within}
use Rattle.t1_io.proofs.SinkLemmas.{PutFailed-first, PutFailed-second, Wrote-trans}
use Rattle.t1_io.specs.Devices.{PutFailed, SinkState, Wrote}

joined_push : (lines : List (List ℕ)) (line : List ℕ) → concat (lines ++ line ∷ []) ≡ concat lines ++ line
joined_push lines line = concat-append lines (line ∷ []) ∙ ap (λ l. concat lines ++ l) (append-nil line)

-- a line once more
pub told_again : (a b c : SinkState) (n : ℕ) (line : List ℕ) → Wrote a b (concat (replicate n line)) → Wrote b c line
    → Wrote a c (concat (replicate (n + 1) line))
told_again a b c n line before wrote =
    subst (Wrote a c) (sym (ap concat (replicate-push n line) ∙ joined_push (replicate n line) line))
    (Wrote-trans a b c (concat (replicate n line)) line before wrote)

-- a line that failed
pub told_partly : (a b c : SinkState) (n count : ℕ) (line : List ℕ) → n < count → Wrote a b (concat (replicate n line)) → PutFailed b c line
    → PutFailed a c (concat (replicate count line))
told_partly a b c n count line less before broke =
    let rest = replicate-within n count line less in
    let split : concat (replicate count line) ≡ (concat (replicate n line) ++ line) ++ concat rest.0 =
    ap concat rest.1 ∙ concat-append (replicate n line ++ line ∷ []) rest.0 ∙ ap (λ l. l ++ concat rest.0) (joined_push (replicate n line) line) in
    subst (PutFailed a c) (sym split)
    (PutFailed-first a c (concat (replicate n line) ++ line) (concat rest.0)
    (PutFailed-second a b c (concat (replicate n line)) line before broke))
