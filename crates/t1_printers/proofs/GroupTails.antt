-- What a group has of its lines is enough for its text.
use Rattle.std.proofs.Common.{◌≡◌, ◌+◌, ◌-◌, ◌<◌, ◌≤◌, ◌==◌, ℕ, zero, suc, codes, decimal, nat_le, nat_lt, Bool, true, false, List, [], ◌∷◌, ◌++◌, Option, None, ap, ap₂, arith, cond, inl, inr, length, length-append, append-nil, refl, subst, sym, take, ◌∙◌}
use Rattle.std.proofs.lemmas.Bool.{cases_Bool, eqb-false, eqb-true, lt-leb}
use Rattle.std.proofs.lemmas.List.{take-take}
use Rattle.std.proofs.lemmas.List.Sums.{sum_by-append}
use Rattle.std.specs.List.{flat_map}
use Rattle.t1_printers.proofs.Greatest.{greatest_from}
use Rattle.t1_printers.proofs.Kept.{kept, kept_few, kept_first, kept_wide, keeps_no_more, keeps_none, keeps_one, left, spread}
use Rattle.t1_printers.proofs.Runs.{last_after, last_push, names_after_push}
use Rattle.t1_printers.specs.Groups.{GroupValue, added, empty_group, tail_at, tail_fits, tail_of, with_run}
use Rattle.t1_printers.specs.Tails.{count_text, fits, greatest, more_text, names_text, separator, tail_text, tail_with}
use Rattle.t1_printers.specs.Units.{NamedUnit, begins_run, names_of}
use Rattle.t1_printers.specs.Widths.{begins_character, width_of}

-- A group has lines at these units.
pub record IsGroup (room : ℕ) (units : List NamedUnit) (g : GroupValue) : Type 0 where
  pub count : g.count ≡ length units
  pub runs : g.runs ≡ length (names_of units)
  pub last : g.last ≡ last_after None units
  pub names : g.names ≡ kept room (names_of units)
  pub left_is : g.left ≡ left room (names_of units)

pub no_lines : (room : ℕ) → IsGroup room [] (empty_group room)
no_lines room = record { count = refl; runs = refl; last = refl; names = refl; left_is = refl }

-- ---- a line more

-- The names of a group with a run more.
record IsRun (room : ℕ) (names : List (List ℕ)) (g : GroupValue) : Type 0 where
  pub runs : g.runs ≡ length names
  pub names_are : g.names ≡ kept room names
  pub left_is : g.left ≡ left room names

run_more : (room : ℕ) (names : List (List ℕ)) (name : List ℕ) (g : GroupValue) → IsRun room names g → IsRun room (names ++ name ∷ []) (with_run g name)
run_more room names name g is = elim (cases_Bool (length g.names == g.runs)) [
  | inl all ↦ (
      let whole : length (kept room names) ≡ length names =
      sym (ap length is.names_are) ∙ eqb-true (length g.names) g.runs all ∙ is.runs in
      elim (cases_Bool (nat_lt (width_of name) (g.left - 1))) [
        | inl room_for ↦ (
            let one = keeps_one room names name whole (subst (λ k. nat_lt (width_of name) (k - 1) ≡ true) is.left_is room_for) in
            rw all (rw room_for (record {
              runs = ap (λ k. k + 1) is.runs ∙ sym (length-append names (name ∷ []));
              names_are = ap (λ ns. ns ++ name ∷ []) is.names_are ∙ sym one.names_are;
              left_is = ap (λ k. k - (width_of name + 2)) is.left_is ∙ sym one.left_is;
            })))
        | inr none_for ↦ (
            let none = keeps_none room names name whole (subst (λ k. nat_lt (width_of name) (k - 1) ≡ false) is.left_is none_for) in
            rw all (rw none_for (record {
              runs = ap (λ k. k + 1) is.runs ∙ sym (length-append names (name ∷ []));
              names_are = is.names_are ∙ sym none.names_are;
              left_is = is.left_is ∙ sym none.left_is;
            })))
      ])
  | inr some ↦ (
      let none = keeps_no_more room names name
      (λ whole. eqb-false (length g.names) g.runs some (ap length is.names_are ∙ whole ∙ sym is.runs)) in
      rw some (record {
        runs = ap (λ k. k + 1) is.runs ∙ sym (length-append names (name ∷ []));
        names_are = is.names_are ∙ sym none.names_are;
        left_is = is.left_is ∙ sym none.left_is;
      }))
]

pub run_count : (g : GroupValue) (name : List ℕ) → (with_run g name).count ≡ g.count
run_count g name = elim (cases_Bool (length g.names == g.runs)) [
  | inl all ↦ elim (cases_Bool (nat_lt (width_of name) (g.left - 1))) [ inl fits ↦ rw all (rw fits refl) | inr wide ↦ rw all (rw wide refl) ]
  | inr some ↦ rw some refl
]

pub line_more : (room : ℕ) (units : List NamedUnit) (u : NamedUnit) (reason : Option (List ℕ)) (g : GroupValue) → IsGroup room units g
    → IsGroup room (units ++ u ∷ []) (added g u.number u.name reason)
line_more room units u reason g is =
    let pushed = names_after_push None units u in
    elim (cases_Bool (begins_run (last_after None units) u.number)) [
      | inl begins ↦ (
          let names : names_of (units ++ u ∷ []) ≡ names_of units ++ u.name ∷ [] = rw begins at pushed in
          let here : begins_run g.last u.number ≡ true = ap (λ l. begins_run l u.number) is.last ∙ begins in
          let run = run_more room (names_of units) u.name g (record { runs = is.runs; names_are = is.names; left_is = is.left_is }) in
          rw here (record {
            count = ap (λ k. k + 1) (run_count g u.name ∙ is.count) ∙ sym (length-append units (u ∷ []));
            runs = run.runs ∙ ap length (sym names);
            last = sym (last_push None units u);
            names = run.names_are ∙ ap (kept room) (sym names);
            left_is = run.left_is ∙ ap (left room) (sym names);
          }))
      | inr goes_on ↦ (
          let names : names_of (units ++ u ∷ []) ≡ names_of units = (rw goes_on at pushed) ∙ append-nil (names_of units) in
          let here : begins_run g.last u.number ≡ false = ap (λ l. begins_run l u.number) is.last ∙ goes_on in
          rw here (record {
            count = ap (λ k. k + 1) is.count ∙ sym (length-append units (u ∷ []));
            runs = is.runs ∙ ap length (sym names);
            last = sym (last_push None units u);
            names = is.names ∙ ap (kept room) (sym names);
            left_is = is.left_is ∙ ap (left room) (sym names);
          }))
    ]

-- ---- widths

pub width_append : (a b : List ℕ) → width_of (a ++ b) ≡ width_of a + width_of b
width_append a b = sum_by-append (λ x. cond (begins_character x) 1 0) a b

later_width : (names : List (List ℕ)) → width_of (flat_map (λ n. separator 1 ++ n) names) ≡ spread names
later_width [] = refl
later_width (n ∷ names) =
    let both = width_append (separator 1 ++ n) (flat_map (λ m. separator 1 ++ m) names) in
    let first = width_append (separator 1) n in
    let text : width_of (flat_map (λ m. separator 1 ++ m) (n ∷ names))
    ≡ width_of ((separator 1 ++ n) ++ flat_map (λ m. separator 1 ++ m) names) = refl in
    let more : spread (n ∷ names) ≡ (width_of n + 2) + spread names = refl in
    let two : width_of (separator 1) ≡ 2 = refl in
    omega (arith, both, first, text, more, two, later_width names)

names_width : (names : List (List ℕ)) → spread names ≤ width_of (names_text names) + 1
names_width [] = omega arith
names_width (n ∷ names) =
    let first = width_append (separator 0) (n ++ flat_map (λ m. separator 1 ++ m) names) in
    let second = width_append n (flat_map (λ m. separator 1 ++ m) names) in
    let text : width_of (names_text (n ∷ names)) ≡ width_of (separator 0 ++ (n ++ flat_map (λ m. separator 1 ++ m) names)) = refl in
    let more : spread (n ∷ names) ≡ (width_of n + 2) + spread names = refl in
    let one : width_of (separator 0) ≡ 1 = refl in
    omega (arith, first, second, text, more, one, later_width names)

tail_wide : (count : ℕ) (names : List (List ℕ)) (n : ℕ) → spread (take n names) ≤ width_of (tail_with count names n)
tail_wide count names n =
    let all = width_append (count_text count) (names_text (take n names) ++ more_text (length names - n)) in
    let some = width_append (32 ∷ 195 ∷ 151 ∷ 32 ∷ []) (decimal count ++ codes ":") in
    let rest = width_append (names_text (take n names)) (more_text (length names - n)) in
    omega (arith, all, some, rest, names_width (take n names))

-- ---- the text

greatest_few : (passes : ℕ → Bool) (n : ℕ) → greatest passes n ≤ n
greatest_few passes zero = omega arith
greatest_few passes (suc n) = elim (cases_Bool (passes (suc n))) [
  | inl is ↦ rw is (omega arith)
  | inr not ↦ rw not (omega (arith, greatest_few passes n))
]

greatest_agree : (p q : ℕ → Bool) (k : ℕ) → ((n : ℕ) → n ≤ k → p n ≡ q n) → greatest p k ≡ greatest q k
greatest_agree p q zero same = refl
greatest_agree p q (suc k) same =
    let last = same (suc k) (omega arith) in
    let later = greatest_agree p q k (λ n few. same n (omega (arith, few))) in
    rw (last, later) refl

tail_same : (room : ℕ) (units : List NamedUnit) (g : GroupValue) → IsGroup room units g → (n : ℕ) → n ≤ length g.names
    → tail_at g n ≡ tail_with (length units) (names_of units) n
tail_same room units g is n few =
    let names = names_of units in
    let first : take n g.names ≡ take n names =
    ap (take n) (is.names ∙ kept_first room names) ∙ take-take n (length (kept room names)) names (omega (arith, few, ap length is.names)) in
    ap₂ (λ a b. a ++ b) (ap count_text is.count) (ap₂ (λ a b. a ++ b) (ap names_text first) (ap (λ k. more_text (k - n)) is.runs))

pub tail_is : (kept_room room : ℕ) (units : List NamedUnit) (g : GroupValue) → IsGroup kept_room units g → room ≤ kept_room
    → tail_of room g ≡ tail_text room (length units) (names_of units)
tail_is kept_room room units g is small =
    let names = names_of units in
    let count = length units in
    let long : length g.names ≡ length (kept kept_room names) = ap length is.names in
    let few = kept_few kept_room names in
    let same : greatest (tail_fits room g) (length g.names) ≡ greatest (fits room count names) (length g.names) =
    greatest_agree (tail_fits room g) (fits room count names) (length g.names)
    (λ n below. ap (λ t. nat_le (width_of t) room) (tail_same kept_room units g is n below)) in
    let more = length names - length g.names in
    let none : (m : ℕ) → length g.names < m → m ≤ more + length g.names → fits room count names m ≡ false =
    λ m above below. (
    let wide = kept_wide kept_room names m (omega (arith, above, long)) (omega (arith, below, long, few)) in
    let text = tail_wide count names m in
    lt-leb (width_of (tail_with count names m)) room (omega (arith, wide, text, small))) in
    let all : more + length g.names ≡ length names = omega (arith, long, few) in
    let whole : greatest (fits room count names) (length names) ≡ greatest (fits room count names) (length g.names) =
    ap (greatest (fits room count names)) (sym all) ∙ greatest_from (fits room count names) (length g.names) more none in
    tail_same kept_room units g is (greatest (tail_fits room g) (length g.names)) (greatest_few (tail_fits room g) (length g.names))
    ∙ ap (tail_with count names) (same ∙ sym whole)
