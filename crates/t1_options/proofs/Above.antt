-- The folders above a folder, and what follows from results.
use Rattle.std.proofs.Common.{◌≡◌, ◌<◌, ◌≤◌, ◌++◌, ◌∷◌, [], List, Some, ℕ, ap, arith, length, length-append, sym, take_all, ⊎_elim, ◌∙◌}
use Rattle.std.proofs.lemmas.Bool.{cases_lt}
use Rattle.std.proofs.lemmas.Paths.{path_components_parent, take_parent}
use Rattle.std.specs.Path.{path_components, path_parent}

longer : (parts : List (List ℕ)) (last : List ℕ) → parts ≡ parts ++ last ∷ [] → ⊥
longer parts last e = omega (arith, ap length e, length-append parts (last ∷ []))

not_as_long : (path dir : List ℕ) → path_parent path ≡ Some dir → length path ≤ length dir → ⊥
not_as_long path dir e long =
    let same : path ≡ dir = sym (take_all (length dir) path long) ∙ take_parent path dir e in
    let (last, parts) = path_components_parent path dir e in
    longer (path_components path) last (parts ∙ ap (λ p. path_components p ++ last ∷ []) (sym same))

-- it is shorter than its parts
pub parent_is_shorter : (path dir : List ℕ) → path_parent path ≡ Some dir → length dir < length path
parent_is_shorter path dir e = ⊎_elim (λ less. less) (λ long. absurd (not_as_long path dir e long)) (cases_lt (length dir) (length path))
