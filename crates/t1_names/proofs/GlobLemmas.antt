-- Rows of what passes at each place of a name, and how globs are read.
use Prim.Native.Nat.{suc, zero}
use Rattle.std.proofs.Common.{◌≡◌, ℕ, ◌+◌, ◌<◌, ◌≤◌, ◌&&◌, ◌||◌, Bool, true, false, eqb, leb, List, [], ◌∷◌, ◌++◌, ⊎_elim, add-one, append-nil, append_assoc, arith, drop, drop-cons, get_or, get_or-set_other, get_or-set_same, length, map, refl, sym, ap, subst, ◌∙◌}
use Rattle.std.proofs.Math.ListN.{set}
use Rattle.std.proofs.lemmas.Bool.{cases_eq, cond-false, cond-true, ne_eqb}
use Rattle.std.proofs.lemmas.Grind.{common_steps}
use Rattle.std.proofs.lemmas.List.Folds.{list_any_at}
use Rattle.std.specs.List.{list_any}
use Rattle.t1_names.specs.Globs.AreRead.{next, nothing}
use Rattle.t1_names.specs.Globs.{AreRead, IsRow, Piece, front, in_set, is_slash, last_part, matches, one_then, any_then}

-- A row up to a place, and from there on.
pub record AreHalves (before from : List ℕ → Bool) (name : List ℕ) (row : List Bool) (at : ℕ) : Type 0 where
  pub first : (k : ℕ) → k < at → get_or row k false ≡ before (drop k name)
  pub second : (k : ℕ) → at ≤ k → k ≤ length name → get_or row k false ≡ from (drop k name)

-- ---- the last part of a name
pub last_part-plain : (name : List ℕ) → list_any is_slash name ≡ false → name ≡ last_part name
last_part-plain [] plain = refl
last_part-plain (c ∷ cs) plain = sym (cond-false (list_any is_slash (c ∷ cs)) (last_part cs) (c ∷ cs) plain)

pub last_part-after : (name : List ℕ) (at d : ℕ) → at < length name → is_slash (get_or name at d) ≡ true → list_any is_slash (drop (suc at) name) ≡ false
    → drop (suc at) name ≡ last_part name
last_part-after [] at d less slash plain = absurd (omega arith)
last_part-after (c ∷ cs) zero d less slash plain =
    last_part-plain cs plain ∙ sym (cond-true (list_any is_slash (c ∷ cs)) (last_part cs) (c ∷ cs) (list_any_at is_slash (c ∷ cs) 0 d less slash))
last_part-after (c ∷ cs) (suc at) d less slash plain =
    last_part-after cs at d (omega arith) slash plain
    ∙ sym (cond-true (list_any is_slash (c ∷ cs)) (last_part cs) (c ∷ cs) (list_any_at is_slash (c ∷ cs) (suc at) d less slash))

-- ---- rows
drop_all : (name : List ℕ) (at : ℕ) → at ≡ length name → drop at name ≡ []
drop_all [] at is = grind (arith, common_steps)
drop_all (c ∷ cs) at is = grind (arith, common_steps)

drop_at : (name : List ℕ) (at d : ℕ) → at < length name → drop at name ≡ get_or name at d ∷ drop (at + 1) name
drop_at name at d less = rw (add-one) (drop-cons name at d less)

no_end : (name : List ℕ) (at : ℕ) → at < length name → matches [] (drop at name) ≡ false
no_end name at less = rw (drop_at name at 0 less) refl

pub row_at_end : (name : List ℕ) (row : List Bool) → length row ≡ length name + 1 → ((k : ℕ) → k < length name → get_or row k false ≡ false)
    → IsRow (matches []) name (set row (length name) true)
row_at_end name row long none at within =
    ⊎_elim
    (λ is. subst (λ n. get_or (set row (length name) true) n false ≡ matches [] (drop n name)) (sym is)
    (let less : length name < length row = omega arith in
    get_or-set_same row (length name) true false less ∙ sym (ap (matches []) (drop_all name (length name) refl))))
    (λ other.
    let less : at < length name = omega arith in
    get_or-set_other row (length name) at true false other ∙ none at less ∙ sym (no_end name at less))
    (cases_eq at (length name))

module _ (f : ℕ → Bool) (passes : List ℕ → Bool) (name : List ℕ) (row : List Bool) (long : length row ≡ length name + 1) where
  pub none_done : IsRow passes name row → AreHalves (one_then f passes) passes name row 0
  none_done is = record { first = λ k less. absurd (omega arith); second = λ k low high. is k high }

  pub one_done : (at d : ℕ) (value : Bool) → at < length name → AreHalves (one_then f passes) passes name row at
      → value ≡ (f (get_or name at d) && get_or row (at + 1) false) → AreHalves (one_then f passes) passes name (set row at value) (at + 1)
  one_done at d value less halves is = record {
    first = λ k low. ⊎_elim
        (λ here. subst (λ n. get_or (set row at value) n false ≡ one_then f passes (drop n name)) (sym here)
        (let room : at < length row = omega arith in
        get_or-set_same row at value false room ∙ is ∙ ap (λ b. f (get_or name at d) && b) (halves.second (at + 1) (omega arith) (omega arith))
        ∙ sym (ap (one_then f passes) (drop_at name at d less))))
        (λ other. get_or-set_other row at k value false other ∙ halves.first k (omega arith)) (cases_eq k at);
    second = λ k low high. get_or-set_other row at k value false (λ is. absurd (omega arith)) ∙ halves.second k (omega arith) high;
  }

  pub all_done : (at : ℕ) → at ≡ length name → AreHalves (one_then f passes) passes name row at → IsRow (one_then f passes) name (set row (length name) false)
  all_done at end halves k within =
      ⊎_elim
      (λ is. subst (λ n. get_or (set row (length name) false) n false ≡ one_then f passes (drop n name)) (sym is)
      (let less : length name < length row = omega arith in
      get_or-set_same row (length name) false false less ∙ sym (ap (one_then f passes) (drop_all name (length name) refl))))
      (λ other. get_or-set_other row (length name) k false false other ∙ halves.first k (omega arith))
      (cases_eq k (length name))

  pub at_end : IsRow passes name row → AreHalves passes (any_then f passes) name row (length name)
  at_end is = record {
    first = λ k less. is k (omega arith);
    second = λ k low high.
        let end : k ≡ length name = omega arith in
        is k high ∙ ap passes (drop_all name k end) ∙ sym (ap (any_then f passes) (drop_all name k end));
  }

  pub some_done : (at d : ℕ) (value : Bool) → at < length name → AreHalves passes (any_then f passes) name row (at + 1)
      → value ≡ (get_or row at false || (f (get_or name at d) && get_or row (at + 1) false)) → AreHalves passes (any_then f passes) name (set row at value) at
  some_done at d value less halves is = record {
    first = λ k low. get_or-set_other row at k value false (λ is. absurd (omega arith)) ∙ halves.first k (omega arith);
    second = λ k low high. ⊎_elim
        (λ here. subst (λ n. get_or (set row at value) n false ≡ any_then f passes (drop n name)) (sym here)
        (let room : at < length row = omega arith in
        get_or-set_same row at value false room ∙ is
        ∙ ap (λ b. b || (f (get_or name at d) && get_or row (at + 1) false)) (halves.first at (omega arith))
        ∙ ap (λ b. passes (drop at name) || (f (get_or name at d) && b)) (halves.second (at + 1) (omega arith) (omega arith))
        ∙ ap (λ l. passes l || (f (get_or name at d) && any_then f passes (drop (at + 1) name))) (drop_at name at d less)
        ∙ sym (ap (any_then f passes) (drop_at name at d less))))
        (λ other. get_or-set_other row at k value false other ∙ halves.second k (omega arith) high) (cases_eq k at);
  }

  pub row_of_all : AreHalves passes (any_then f passes) name row 0 → IsRow (any_then f passes) name row
  row_of_all halves k within = halves.second k (omega arith) within

-- ---- sets
or_false : (b : Bool) → (b || false) ≡ b
or_false true = refl
or_false false = refl

pub in_set-range : (a b c : ℕ) (members more after : List ℕ) → members ≡ a ∷ more → more ≡ 45 ∷ b ∷ after → (leb a c && leb c b) ≡ false
    → in_set members c ≡ in_set after c
in_set-range a b c members more after members_are more_is out =
    ap (λ l. in_set l c) (members_are ∙ ap (λ l. a ∷ l) more_is) ∙ ap (λ t. t || in_set after c) out

pub in_set-alone : (a c : ℕ) (members more : List ℕ) → members ≡ a ∷ more → ((b : ℕ) (after : List ℕ) → more ≡ 45 ∷ b ∷ after → ⊥) → eqb c a ≡ false
    → in_set members c ≡ in_set more c
in_set-alone a c members [] is none other = ap (λ l. in_set l c) is ∙ other
in_set-alone a c members (b ∷ []) is none other = ap (λ l. in_set l c) is ∙ ap (λ t. t || eqb c b) other
in_set-alone a c members (dash ∷ b ∷ more) is none other =
    ap (λ l. in_set l c) is
    ∙ cond-false (eqb dash 45) ((leb a c && leb c b) || in_set more c) (eqb c a || in_set (dash ∷ b ∷ more) c)
    (ne_eqb dash 45 (λ e. none b more (ap (λ d. d ∷ b ∷ more) e)))
    ∙ ap (λ t. t || in_set (dash ∷ b ∷ more) c) other

-- ---- reading
pub one_read : (text rest more after : List ℕ) (c : ℕ) (pieces : List Piece) (piece : Piece)
    → ((last : List Piece) → AreRead rest last → AreRead text (pieces ++ last)) → rest ≡ c ∷ more → piece ≡ (front c more).piece → after ≡ (front c more).rest
    → (last : List Piece) → AreRead after last → AreRead text ((pieces ++ piece ∷ []) ++ last)
one_read text rest more after c pieces piece before rest_is piece_is after_is last read =
    subst (AreRead text) (sym (append_assoc pieces (piece ∷ []) last))
    (before (piece ∷ last) (subst (λ r. AreRead r (piece ∷ last)) (sym rest_is)
    (subst (λ p. AreRead (c ∷ more) (p ∷ last)) (sym piece_is) (next c more last (subst (λ r. AreRead r last) after_is read)))))

pub all_read : (text rest : List ℕ) (pieces : List Piece) → ((last : List Piece) → AreRead rest last → AreRead text (pieces ++ last)) → rest ≡ []
    → AreRead text pieces
all_read text rest pieces before none = subst (AreRead text) (append-nil pieces) (before [] (subst (λ r. AreRead r []) (sym none) nothing))

pub any_of_map : {A B : Type 0} (f : A → B) (p : B → Bool) (xs : List A) → list_any (λ x. p (f x)) xs ≡ list_any p (map f xs)
any_of_map f p [] = refl
any_of_map f p (x ∷ xs) = ap (λ b. p (f x) || b) (any_of_map f p xs)

pub start_of_name : (name : List ℕ) (start : ℕ) → start ≡ 0 → list_any is_slash (drop start name) ≡ false → drop start name ≡ last_part name
start_of_name name start is plain =
    ap (λ n. drop n name) is ∙ last_part-plain name (subst (λ n. list_any is_slash (drop n name) ≡ false) is plain)
