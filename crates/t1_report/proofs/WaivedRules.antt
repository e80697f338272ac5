-- The rules of a set that aren't waived, taken out one after another.
use Rattle.std.proofs.Common.{◌≡◌, ◌⊎◌, ℕ, ◌<◌, ◌==◌, ◌&&◌, not, nat_le, inl, inr, Bool, false, List, [], ◌∷◌, refl, arith}
use Rattle.std.proofs.Math.Bool.{and-false, and-true}
use Rattle.std.proofs.lemmas.Bool.{cases_lt, cases_order, eq-eqb, le-leb, lt-leb, ne_eqb}
use Rattle.t1_font.specs.Keys.{same_name}
use Rattle.t1_rules.specs.declared.mask.Mask.{Mask}
use Rattle.t1_rules.specs.declared.rule.Rule.{Rule}
use Rattle.t1_rules.specs.Book.{last_number, number_of}
use Rattle.t1_rules.specs.Mask.{HasNoneAbove, IsLeastAbove, has}
use Rattle.t1_rules.proofs.Lemmas.Book.{in_book}
use Rattle.t1_report.specs.Waivers.{Waiver, is_waived}

-- A number that no rule has is waived nowhere.
pub waived_in_book : (waivers : List Waiver) (name : List ℕ) (n : ℕ) → (n ≡ 0) ⊎ (last_number < n) → is_waived waivers name n ≡ false
waived_in_book [] name n out = refl
waived_in_book (w ∷ waivers) name n out =
    let at = in_book w.1 in
    let other : (n == number_of w.1) ≡ false =
    ne_eqb n (number_of w.1) (λ e. elim out [ inl none ↦ omega (arith, at.0, none, e) | inr past ↦ omega (arith, at.1, past, e) ]) in
    rw (other, and-false (same_name name w.0)) (waived_in_book waivers name n out)

-- Nothing is taken out at first.
pub none_left_out : (waivers : List Waiver) (name : List ℕ) (has_it : ℕ → Bool) (n : ℕ) → has_it n ≡ (has_it n && not (nat_le n 0 && is_waived waivers name n))
none_left_out waivers name has_it n = elim (cases_lt 0 n) [
  | inl some ↦ rw (lt-leb n 0 some, and-true (has_it n)) refl
  | inr none ↦ rw (waived_in_book waivers name n (inl (omega (arith, none))), and-false (nat_le n 0), and-true (has_it n)) refl
]

-- One rule more is tested.
pub left_more : (waivers : List Waiver) (name : List ℕ) (rules : Mask) (floor : ℕ) (rule : Rule) → IsLeastAbove rules floor rule → (has_left : ℕ → Bool)
    → ((n : ℕ) → has_left n ≡ (has rules n && not (nat_le n floor && is_waived waivers name n)))
    → (n : ℕ) → (has_left n && not (is_waived waivers name (number_of rule) && number_of rule == n))
    ≡ (has rules n && not (nat_le n (number_of rule) && is_waived waivers name n))
left_more waivers name rules floor rule least has_left left n =
    elim (cases_order n (number_of rule)) [
      | inl same ↦ rw (
        left n,
        same,
        lt-leb (number_of rule) floor least.greater,
        eq-eqb (number_of rule) (number_of rule) refl,
        le-leb (number_of rule)
            (number_of rule) (omega arith),
        and-true (has rules (number_of rule)),
        and-true (is_waived waivers name (number_of rule)),
      ) refl
      | inr (inl less) ↦ elim (cases_lt floor n) [
        | inl above ↦ rw (left n, least.least n above less) refl
        | inr below ↦ rw (
          left n,
          le-leb n floor below,
          le-leb n (number_of rule) (omega (arith, less)),
          ne_eqb (number_of rule) n
              (λ e. omega (arith, e, less)),
          and-false (is_waived waivers name (number_of rule)),
          and-true (has rules n && not (is_waived waivers name n)),
        ) refl
      ]
      | inr (inr more) ↦ rw (
        left n,
        lt-leb n (number_of rule) more,
        lt-leb n floor (omega (arith, more, least.greater)),
        ne_eqb (number_of rule) n
            (λ e. omega (arith, e, more)),
        and-false (is_waived waivers name (number_of rule)),
        and-true (has rules n),
      ) (and-true (has rules n))
    ]

-- All are tested.
pub all_left : (waivers : List Waiver) (name : List ℕ) (rules : Mask) (floor : ℕ) → HasNoneAbove rules floor → (n : ℕ)
    → (has rules n && not (nat_le n floor && is_waived waivers name n)) ≡ (has rules n && not (is_waived waivers name n))
all_left waivers name rules floor none n =
    elim (cases_lt floor n) [
      | inr below ↦ rw (le-leb n floor below) refl
      | inl above ↦ elim (cases_lt last_number n) [
        | inl past ↦ rw (waived_in_book waivers name n (inr past), and-false (nat_le n floor)) refl
        | inr within ↦ rw (none n above within) refl
      ]
    ]
