-- Names that are kept once.
use Rattle.std.proofs.Common.{◌≡◌, ◌||◌, ℕ, List, [], ◌∷◌, ◌++◌, if◌then◌else◌, Result, Ok, Err, String, Global, Vec, ⊎_elim, append-nil, map, string_bytes, refl, sym, ap, ◌∙◌, append_assoc}
use Rattle.std.proofs.lemmas.Bool.{cases_Bool, cond-false, cond-true}
use Rattle.std.proofs.lemmas.List.{map-append}
use Rattle.std.specs.List.{list_any}
use Rattle.std.specs.Result.{IfOk}
use Rattle.std.specs.Str.{bytes_eq}
use Rattle.std.specs.String.{string_eq}
use Rattle.t1_names.specs.Once.{each_after}

same_names : (name : String Global) (kept : List (String Global)) → list_any (string_eq name) kept ≡ list_any (bytes_eq (string_bytes name)) (map string_bytes kept)
same_names name [] = refl
same_names name (first ∷ kept) = ap (λ b. string_eq name first || b) (same_names name kept)

pub after_insert : (kept kept' : List (String Global)) (name : String Global) (rest : List (List ℕ))
    → kept' ≡ (if list_any (string_eq name) kept then kept else kept ++ name ∷ [])
    → map string_bytes kept' ++ each_after (map string_bytes kept') rest ≡ map string_bytes kept ++ each_after (map string_bytes kept) (string_bytes name ∷ rest)
after_insert kept kept' name rest is =
    let old : List (List ℕ) = map string_bytes kept in
    let bytes : List ℕ = string_bytes name in
    let both : list_any (string_eq name) kept ≡ list_any (bytes_eq bytes) old = same_names name kept in
    ⊎_elim
    (λ found.
    let keys : kept' ≡ kept = is ∙ cond-true (list_any (string_eq name) kept) kept (kept ++ name ∷ []) found in
    let next : each_after old (bytes ∷ rest) ≡ each_after old rest =
    cond-true (list_any (bytes_eq bytes) old) (each_after old rest) (bytes ∷ each_after (old ++ bytes ∷ []) rest) (sym both ∙ found) in
    ap (λ k. map string_bytes k ++ each_after (map string_bytes k) rest) keys ∙ ap (λ l. old ++ l) (sym next))
    (λ new.
    let keys : map string_bytes kept' ≡ old ++ bytes ∷ [] =
    ap (map string_bytes) (is ∙ cond-false (list_any (string_eq name) kept) kept (kept ++ name ∷ []) new) ∙ map-append string_bytes kept (name ∷ []) in
    let next : each_after old (bytes ∷ rest) ≡ bytes ∷ each_after (old ++ bytes ∷ []) rest =
    cond-false (list_any (bytes_eq bytes) old) (each_after old rest) (bytes ∷ each_after (old ++ bytes ∷ []) rest) (sym both ∙ new) in
    ap (λ k. k ++ each_after k rest) keys ∙ append_assoc old (bytes ∷ []) (each_after (old ++ bytes ∷ []) rest) ∙ ap (λ l. old ++ l) (sym next))
    (cases_Bool (list_any (string_eq name) kept))

pub all_taken : {F : Type 0} (r : Result (Vec (String Global) Global) F) (kept rest : List (String Global)) (once : List (List ℕ))
    → IfOk r (λ names. names.items ≡ kept) → map string_bytes kept ++ each_after (map string_bytes kept) (map string_bytes rest) ≡ once → rest ≡ []
    → IfOk r (λ names. map string_bytes names.items ≡ once)
all_taken (Ok names) kept rest once are before none =
    ap (map string_bytes) are ∙ sym (append-nil (map string_bytes kept))
    ∙ sym (ap (λ r. map string_bytes kept ++ each_after (map string_bytes kept) (map string_bytes r)) none) ∙ before
all_taken (Err e) kept rest once are before none = tt
