-- The names of the glyphs that were stated, and how many there are.
use Rattle.std.proofs.Common.{◌≡◌, ◌≤◌, ◌+◌, ℕ, Bool, true, false, not, ◌&&◌, nat_le, List, [], ◌∷◌, ◌++◌, flat_map, length, refl, ap, ◌∙◌, append_assoc, append-nil, arith, inl, inr, length-append}
use Rattle.std.proofs.lemmas.Bool.{cases_Bool}
use Rattle.std.proofs.lemmas.Bool.Decides.{nat_tests}
use Rattle.std.proofs.lemmas.Grind.{flat_map-append}
use Rattle.std.proofs.lemmas.List.{map-append, length-map}
use Rattle.std.specs.List.{list_any}
use Rattle.t1_font.specs.Keys.{same_name}
use Rattle.t1_font.specs.Fonts.{Stated, Marks, value_of, glyph_of, firsts, keys_of}
use Rattle.t1_font.specs.PrivateText.{has_key}
use Rattle.t1_font.proofs.Stating.{has_table}
use Rattle.t1_font.proofs.Tables.{name_exact, firsts_one}

-- The names of the glyphs that were stated.
abbrev pub names_of : List Stated → List (List ℕ)
names_of es = keys_of (flat_map glyph_of es)

pub names_more : (es more : List Stated) → names_of (es ++ more) ≡ names_of es ++ names_of more
names_more es more = ap keys_of (flat_map-append glyph_of es more) ∙ map-append (λ p. p.0) (flat_map glyph_of es) (flat_map glyph_of more)

-- One name more.
one_more : (names : List (List ℕ)) (run : List ℕ) → length (firsts same_name names) ≤ length (firsts same_name (names ++ run ∷ []))
one_more names run =
    let first = firsts_one same_name name_exact names run in
    elim (cases_Bool (list_any (same_name run) names)) [
      | inl y ↦ (let same : firsts same_name (names ++ run ∷ []) ≡ firsts same_name names = rw y at first in rw same (omega arith))
      | inr n ↦ (let longer : firsts same_name (names ++ run ∷ []) ≡ firsts same_name names ++ run ∷ [] = rw n at first in rw longer
          (omega (arith, length-append (firsts same_name names) (run ∷ []))))
    ]

-- Names more.
pub fewer : (more names : List (List ℕ)) → length (firsts same_name names) ≤ length (firsts same_name (names ++ more))
fewer [] names = rw (append-nil names) (omega arith)
fewer (run ∷ more) names =
    let one = one_more names run in
    let others = fewer more (names ++ run ∷ []) in
    let all : length (firsts same_name ((names ++ run ∷ []) ++ more)) ≡ length (firsts same_name (names ++ (run ∷ more))) =
    ap (λ xs. length (firsts same_name xs)) (append_assoc names (run ∷ []) more) in
    omega (arith, one, others, all)

both_false : (b : Bool) → (b && not true) ≡ false
both_false true = refl
both_false false = refl

below : (n : ℕ) → n ≤ 65534 → nat_le 65535 n ≡ false
below n h = grind (arith, nat_tests)

-- There is room for a name that is there or is one of at most 65,535.
not_full : (names : List (List ℕ)) (run : List ℕ) (more : List (List ℕ)) → length (firsts same_name (names ++ (run ∷ more))) ≤ 65535
    → (nat_le 65535 (length (firsts same_name names)) && not (list_any (same_name run) names)) ≡ false
not_full names run more few =
    let first = firsts_one same_name name_exact names run in
    let others = fewer more (names ++ run ∷ []) in
    let all : length (firsts same_name ((names ++ run ∷ []) ++ more)) ≡ length (firsts same_name (names ++ (run ∷ more))) =
    ap (λ xs. length (firsts same_name xs)) (append_assoc names (run ∷ []) more) in
    elim (cases_Bool (list_any (same_name run) names)) [
      | inl y ↦ (rw y (both_false (nat_le 65535 (length (firsts same_name names)))))
      | inr n ↦ (let longer : firsts same_name (names ++ run ∷ []) ≡ firsts same_name names ++ run ∷ [] = rw n at first in
          let count : length (firsts same_name (names ++ run ∷ [])) ≡ length (firsts same_name names) + 1 =
          rw longer (length-append (firsts same_name names) (run ∷ [])) in
          let small : nat_le 65535 (length (firsts same_name names)) ≡ false = below (length (firsts same_name names))
          (omega (arith, count, others, all, few)) in
          rw small refl)
    ]

pub has_room : (marks : Marks) (before : List Stated) (run : List ℕ) (more : List (List ℕ)) → length (firsts same_name (names_of before ++ (run ∷ more)))
    ≤ 65535 → (nat_le 65535 (length (value_of marks before).glyphs) && not (has_key same_name (value_of marks before).glyphs run)) ≡ false
unfolding value_of
has_room marks before run more few =
    let pairs = flat_map glyph_of before in
    rw (has_table same_name name_exact [] pairs run, length-map) (not_full (names_of before) run more few)
