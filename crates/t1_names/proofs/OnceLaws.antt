-- Lists in which each name is kept once.
use Rattle.std.proofs.Common.{◌≡◌, ◌||◌, ℕ, Bool, true, false, not, List, [], ◌∷◌, ◌++◌, if◌then◌else◌, codes, filter, ⊎_elim, append-nil, append_assoc, refl, sym, ap, subst, ◌∙◌}
use Rattle.std.proofs.lemmas.Bool.{cases_Bool, cond-false, cond-true, false_from_ne_true, not-true, or_cases, or_left, or_right, true≢false}
use Rattle.std.proofs.lemmas.List.Folds.{list_any-append}
use Rattle.std.proofs.lemmas.Map.Keys.{IsDistinct-push}
use Rattle.std.proofs.lemmas.Map.Views.{Contains-from_any, list_any-from_Contains}
use Rattle.std.proofs.lemmas.Slice.Eq.{bytes_eq-Decides}
use Rattle.std.specs.Cmp.{IsEquivalence}
use Rattle.std.specs.List.{IsDistinct, list_any}
use Rattle.std.specs.Str.{bytes_eq}
use Rattle.t1_names.specs.Laws.{EachIsIncluded, EachIsKept, InputIsIncluded, NoneIsTwice}
use Rattle.t1_names.specs.Globs.{is_excluded}
use Rattle.t1_names.specs.Named.{included, is_included}
use Rattle.t1_names.specs.Once.{each_after, each_once}

same_bytes : (xs ys : List ℕ) → bytes_eq xs ys ≡ true → xs ≡ ys
same_bytes xs ys = (bytes_eq-Decides xs ys).0

bytes_same : (xs ys : List ℕ) → xs ≡ ys → bytes_eq xs ys ≡ true
bytes_same xs ys = (bytes_eq-Decides xs ys).1

symm : (xs ys : List ℕ) → bytes_eq xs ys ≡ bytes_eq ys xs
symm xs ys =
    ⊎_elim
    (λ is. is ∙ sym (bytes_same ys xs (sym (same_bytes xs ys is))))
    (λ not_so. not_so ∙ sym (false_from_ne_true (bytes_eq ys xs) (λ is. true≢false (sym (bytes_same xs ys (sym (same_bytes ys xs is))) ∙ not_so))))
    (cases_Bool (bytes_eq xs ys))

equal_names : IsEquivalence bytes_eq
equal_names = record {
  refl = λ x. bytes_same x x refl;
  symm = symm;
  congr = λ x y z is. ap (λ l. bytes_eq l z) (same_bytes x y is);
}

or_false : (b : Bool) → (b || false) ≡ b
or_false true = refl
or_false false = refl

or-assoc : (a b c : Bool) → ((a || b) || c) ≡ (a || (b || c))
or-assoc true b c = refl
or-assoc false b c = refl

absorbed : (a b c : Bool) → (b ≡ true → a ≡ true) → (a || c) ≡ (a || (b || c))
absorbed true b c known = refl
absorbed false true c known = absurd (true≢false (sym (known refl)))
absorbed false false c known = refl

-- a name is found in what is kept just where it is in what was kept before or in the list
found : (name : List ℕ) (kept names : List (List ℕ))
    → list_any (bytes_eq name) (kept ++ each_after kept names) ≡ (list_any (bytes_eq name) kept || list_any (bytes_eq name) names)
found name kept [] = ap (list_any (bytes_eq name)) (append-nil kept) ∙ sym (or_false (list_any (bytes_eq name) kept))
found name kept (first ∷ names) =
    ⊎_elim
    (λ known.
    ap (λ l. list_any (bytes_eq name) (kept ++ l)) (cond-true (list_any (bytes_eq first) kept) (each_after kept names) (first ∷ each_after (kept ++ first ∷ []) names) known)
    ∙ found name kept names
    ∙ absorbed (list_any (bytes_eq name) kept) (bytes_eq name first) (list_any (bytes_eq name) names)
    (λ is. ap (λ n. list_any (bytes_eq n) kept) (same_bytes name first is) ∙ known))
    (λ new.
    ap (λ l. list_any (bytes_eq name) (kept ++ l)) (cond-false (list_any (bytes_eq first) kept) (each_after kept names) (first ∷ each_after (kept ++ first ∷ []) names) new)
    ∙ ap (list_any (bytes_eq name)) (sym (append_assoc kept (first ∷ []) (each_after (kept ++ first ∷ []) names)))
    ∙ found name (kept ++ first ∷ []) names
    ∙ ap (λ b. b || list_any (bytes_eq name) names) (list_any-append (bytes_eq name) kept (first ∷ []) ∙ ap (λ b. list_any (bytes_eq name) kept || b) (or_false (bytes_eq name first)))
    ∙ or-assoc (list_any (bytes_eq name) kept) (bytes_eq name first) (list_any (bytes_eq name) names))
    (cases_Bool (list_any (bytes_eq first) kept))

pub each_is_kept : EachIsKept
each_is_kept names name = (
  λ is. Contains-from_any same_bytes name (each_once names) (found name [] names ∙ list_any-from_Contains equal_names name names is),
  λ is. Contains-from_any same_bytes name names (sym (found name [] names) ∙ list_any-from_Contains equal_names name (each_once names) is),
)

distinct : (kept names : List (List ℕ)) → IsDistinct bytes_eq kept → IsDistinct bytes_eq (kept ++ each_after kept names)
distinct kept [] apart = subst (IsDistinct bytes_eq) (sym (append-nil kept)) apart
distinct kept (first ∷ names) apart =
    ⊎_elim
    (λ known.
    subst (λ l. IsDistinct bytes_eq (kept ++ l))
    (sym (cond-true (list_any (bytes_eq first) kept) (each_after kept names) (first ∷ each_after (kept ++ first ∷ []) names) known))
    (distinct kept names apart))
    (λ new.
    subst (λ l. IsDistinct bytes_eq (kept ++ l))
    (sym (cond-false (list_any (bytes_eq first) kept) (each_after kept names) (first ∷ each_after (kept ++ first ∷ []) names) new))
    (subst (IsDistinct bytes_eq) (append_assoc kept (first ∷ []) (each_after (kept ++ first ∷ []) names))
    (distinct (kept ++ first ∷ []) names (IsDistinct-push equal_names kept first apart new))))
    (cases_Bool (list_any (bytes_eq first) kept))

none_apart : IsDistinct bytes_eq []
unfolding IsDistinct
none_apart = tt

pub none_is_twice : NoneIsTwice
none_is_twice names = distinct [] names none_apart

-- what a filter keeps passes it, and was there
kept_passes : (test : List ℕ → Bool) (names : List (List ℕ)) (name : List ℕ)
    → list_any (bytes_eq name) (filter test names) ≡ true → (test name ≡ true) × (list_any (bytes_eq name) names ≡ true)
kept_passes test [] name is = absurd (true≢false (sym is))
kept_passes test (first ∷ names) name is =
    ⊎_elim
    (λ passes.
    let here : (bytes_eq name first || list_any (bytes_eq name) (filter test names)) ≡ true =
    sym (ap (list_any (bytes_eq name)) (cond-true (test first) (first ∷ filter test names) (filter test names) passes)) ∙ is in
    ⊎_elim
    (λ same. (ap test (same_bytes name first same) ∙ passes, or_left (bytes_eq name first) (list_any (bytes_eq name) names) same))
    (λ later.
    let rest : (test name ≡ true) × (list_any (bytes_eq name) names ≡ true) = kept_passes test names name later in
    (rest.0, or_right (bytes_eq name first) (list_any (bytes_eq name) names) rest.1))
    (or_cases (bytes_eq name first) (list_any (bytes_eq name) (filter test names)) here))
    (λ fails.
    let rest : (test name ≡ true) × (list_any (bytes_eq name) names ≡ true) =
    kept_passes test names name (sym (ap (list_any (bytes_eq name)) (cond-false (test first) (first ∷ filter test names) (filter test names) fails)) ∙ is) in
    (rest.0, or_right (bytes_eq name first) (list_any (bytes_eq name) names) rest.1))
    (cases_Bool (test first))

pub each_is_included : EachIsIncluded
each_is_included globs names name is no_input =
    let all : List (List ℕ) = included globs names in
    let inside : (is_included globs name ≡ true) × (list_any (bytes_eq name) names ≡ true) =
    kept_passes (is_included globs) names name (sym (found name [] all) ∙ list_any-from_Contains equal_names name (each_once all) is) in
    not-true (is_excluded globs name) (sym (ap (λ b. b || not (is_excluded globs name)) no_input) ∙ inside.0)

-- what passes a filter stays
passes_kept : (test : List ℕ → Bool) (name : List ℕ) → test name ≡ true → (names : List (List ℕ)) → list_any (bytes_eq name) names ≡ true
    → list_any (bytes_eq name) (filter test names) ≡ true
passes_kept test name passes [] is = is
passes_kept test name passes (first ∷ names) is =
    ⊎_elim
    (λ same.
    ap (list_any (bytes_eq name)) (cond-true (test first) (first ∷ filter test names) (filter test names) (ap test (sym (same_bytes name first same)) ∙ passes))
    ∙ or_left (bytes_eq name first) (list_any (bytes_eq name) (filter test names)) same)
    (λ later.
    let rest : list_any (bytes_eq name) (filter test names) ≡ true = passes_kept test name passes names later in
    elim (test first) as (λ b. list_any (bytes_eq name) (if b then first ∷ filter test names else filter test names) ≡ true) [
      | true ↦ or_right (bytes_eq name first) (list_any (bytes_eq name) (filter test names)) rest
      | false ↦ rest
    ])
    (or_cases (bytes_eq name first) (list_any (bytes_eq name) names) is)

pub input_is_included : InputIsIncluded
input_is_included globs names is =
    Contains-from_any same_bytes (codes "-") (included globs names)
    (passes_kept (is_included globs) (codes "-") refl names (list_any-from_Contains equal_names (codes "-") names is))
