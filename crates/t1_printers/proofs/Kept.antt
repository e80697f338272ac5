-- Names that are kept as far as there is room.
use Rattle.std.proofs.Common.{◌≡◌, ◌+◌, ◌-◌, ◌<◌, ◌≤◌, ℕ, zero, suc, nat_lt, Bool, true, false, List, [], ◌∷◌, ◌++◌, ap, arith, cond, inl, inr, length, refl, take}
use Rattle.std.proofs.lemmas.Bool.{cases_Bool, ltb-true, ltb-false}
use Rattle.t1_printers.specs.Widths.{width_of}

-- A name is in a room, with a separator of two characters.
abbrev pub has_room : ℕ → List ℕ → Bool
has_room room name = nat_lt (width_of name) (room - 1)

abbrev pub kept : ℕ → List (List ℕ) → List (List ℕ)
kept room [] = []
kept room (name ∷ names) = cond (has_room room name) (name ∷ kept (room - (width_of name + 2)) names) []

abbrev pub left : ℕ → List (List ℕ) → ℕ
left room [] = room
left room (name ∷ names) = cond (has_room room name) (left (room - (width_of name + 2)) names) room

-- What is kept of names with one more.
pub record KeepsOne (room : ℕ) (names : List (List ℕ)) (name : List ℕ) : Type 0 where
  pub names_are : kept room (names ++ name ∷ []) ≡ kept room names ++ name ∷ []
  pub left_is : left room (names ++ name ∷ []) ≡ left room names - (width_of name + 2)

pub record KeepsNone (room : ℕ) (names : List (List ℕ)) (name : List ℕ) : Type 0 where
  pub names_are : kept room (names ++ name ∷ []) ≡ kept room names
  pub left_is : left room (names ++ name ∷ []) ≡ left room names

-- all are kept, and there is room for it
pub keeps_one : (room : ℕ) (names : List (List ℕ)) (name : List ℕ) → length (kept room names) ≡ length names
    → has_room (left room names) name ≡ true → KeepsOne room names name
keeps_one room [] name all fits = record { names_are = rw fits refl; left_is = rw fits refl }
keeps_one room (n ∷ names) name all fits = elim (cases_Bool (has_room room n)) [
  | inl is ↦ (
      let all_later : length (kept (room - (width_of n + 2)) names) ≡ length names = omega (arith, rw is at all) in
      let later = keeps_one (room - (width_of n + 2)) names name all_later (rw is at fits) in
      record { names_are = rw is (ap (λ ns. n ∷ ns) later.names_are); left_is = rw is later.left_is })
  | inr not ↦ absurd (omega (arith, rw not at all))
]

-- all are kept, and there is no room for it
pub keeps_none : (room : ℕ) (names : List (List ℕ)) (name : List ℕ) → length (kept room names) ≡ length names
    → has_room (left room names) name ≡ false → KeepsNone room names name
keeps_none room [] name all fits = record { names_are = rw fits refl; left_is = rw fits refl }
keeps_none room (n ∷ names) name all fits = elim (cases_Bool (has_room room n)) [
  | inl is ↦ (
      let all_later : length (kept (room - (width_of n + 2)) names) ≡ length names = omega (arith, rw is at all) in
      let later = keeps_none (room - (width_of n + 2)) names name all_later (rw is at fits) in
      record { names_are = rw is (ap (λ ns. n ∷ ns) later.names_are); left_is = rw is later.left_is })
  | inr not ↦ absurd (omega (arith, rw not at all))
]

-- not all are kept
pub keeps_no_more : (room : ℕ) (names : List (List ℕ)) (name : List ℕ) → ¬ (length (kept room names) ≡ length names)
    → KeepsNone room names name
keeps_no_more room [] name some = absurd (some refl)
keeps_no_more room (n ∷ names) name some = elim (cases_Bool (has_room room n)) [
  | inl is ↦ (
      let later = keeps_no_more (room - (width_of n + 2)) names name (λ all. some (rw is (ap suc all))) in
      record { names_are = rw is (ap (λ ns. n ∷ ns) later.names_are); left_is = rw is later.left_is })
  | inr not ↦ record { names_are = rw not refl; left_is = rw not refl }
]

-- they are the first names
pub kept_first : (room : ℕ) (names : List (List ℕ)) → kept room names ≡ take (length (kept room names)) names
kept_first room [] = refl
kept_first room (n ∷ names) = elim (cases_Bool (has_room room n)) [
  | inl is ↦ rw is (ap (λ ns. n ∷ ns) (kept_first (room - (width_of n + 2)) names))
  | inr not ↦ rw not refl
]

pub kept_few : (room : ℕ) (names : List (List ℕ)) → length (kept room names) ≤ length names
kept_few room [] = omega arith
kept_few room (n ∷ names) = elim (cases_Bool (has_room room n)) [
  | inl is ↦ rw is (omega (arith, kept_few (room - (width_of n + 2)) names))
  | inr not ↦ rw not (omega arith)
]

-- The width of names with a separator each.
abbrev pub spread : List (List ℕ) → ℕ
spread [] = 0
spread (name ∷ names) = (width_of name + 2) + spread names

-- more of them are wider than the room
pub kept_wide : (room : ℕ) (names : List (List ℕ)) (n : ℕ) → length (kept room names) < n → n ≤ length names → room < spread (take n names)
kept_wide room [] n above below = absurd (omega (arith, above, below))
kept_wide room (m ∷ names) zero above below = absurd (omega (arith, above))
kept_wide room (m ∷ names) (suc n) above below =
    let more : spread (take (suc n) (m ∷ names)) ≡ (width_of m + 2) + spread (take n names) = refl in
    elim (cases_Bool (has_room room m)) [
      | inl is ↦ (
          let fits = ltb-true (width_of m) (room - 1) is in
          let later = kept_wide (room - (width_of m + 2)) names n (omega (arith, rw is at above)) (omega (arith, below)) in
          omega (arith, fits, later, more))
      | inr not ↦ (let wide = ltb-false (width_of m) (room - 1) not in omega (arith, wide, more))
    ]
