-- Tests of texts, by their bytes.
use Rattle.std.proofs.Common.{◌≡◌, ◌&&◌, ◌||◌, ◌==◌, ℕ, Bool, Bor, List, [], ◌∷◌, String, Global, string_bytes, ap, arith, length, map, refl}
use Rattle.std.proofs.lemmas.Grind.{common_steps}
use Rattle.clap.specs.Walk.{is_empty}
use Rattle.std.specs.List.{list_all, list_any}

pub all_by : (test : List ℕ → Bool) (words : List (String Global)) → list_all (λ s. test (string_bytes s)) words ≡ list_all test (map string_bytes words)
all_by test [] = refl
all_by test (word ∷ words) = ap (λ b. test (string_bytes word) && b) (all_by test words)

pub any_by : (test : List ℕ → Bool) (words : List (String Global)) → list_any (λ s. test (string_bytes s)) words ≡ list_any test (map string_bytes words)
any_by test [] = refl
any_by test (word ∷ words) = ap (λ b. test (string_bytes word) || b) (any_by test words)

-- the same of references to texts
pub any_lent : (test : List ℕ → Bool) (words : List (Bor (List ℕ))) → list_any (λ s. test s.now) words ≡ list_any test (map (λ s. s.now) words)
any_lent test [] = refl
any_lent test (word ∷ words) = ap (λ b. test word.now || b) (any_lent test words)

-- their number
pub none_by : (words : List (String Global)) → (length words == 0) ≡ is_empty (map string_bytes words)
none_by [] = refl
none_by (word ∷ words) = grind (arith, common_steps)
