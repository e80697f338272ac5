-- Lines that fit.
use Rattle.std.proofs.Common.{◌≡◌, ◌⊎◌, ◌-◌, ◌<◌, ◌≤◌, ℕ, zero, suc, Bool, true, true≢false, codes, decimal, take, List, [], ◌∷◌, ◌++◌, ap, arith, inl, inr, length, refl, sym, ◌∙◌}
use Rattle.std.proofs.lemmas.Bool.{cases_Bool, cases_eq, le-leb, leb-true}
use Rattle.t1_printers.proofs.GroupTails.{width_append}
use Rattle.t1_printers.specs.GroupLines.{rule_head}
use Rattle.t1_printers.specs.Laws.{LinesFitTerminals, NoMoreNamesFit}
use Rattle.t1_printers.specs.Tails.{fits, greatest, more_text, names_text, tail_text, tail_with}
use Rattle.t1_printers.specs.Terminals.{name_part, room_after, terminal_tail}
use Rattle.t1_printers.specs.Widths.{width_of}

greatest_passes : (passes : ℕ → Bool) (n : ℕ) → (passes (greatest passes n) ≡ true) ⊎ (greatest passes n ≡ 0)
greatest_passes passes zero = inr refl
greatest_passes passes (suc n) = elim (cases_Bool (passes (suc n))) [
  | inl is ↦ rw is (inl is)
  | inr not ↦ rw not (greatest_passes passes n)
]

greatest_most : (passes : ℕ → Bool) (n m : ℕ) → m ≤ n → passes m ≡ true → m ≤ greatest passes n
greatest_most passes zero m few is = omega (arith, few)
greatest_most passes (suc n) m few is = elim (cases_Bool (passes (suc n))) [
  | inl last ↦ rw last (omega (arith, few))
  | inr not ↦ elim (cases_eq m (suc n)) [
    | inl same ↦ absurd (true≢false (sym is ∙ ap passes same ∙ not))
    | inr other ↦ rw not (greatest_most passes n m (omega (arith, few, other)) is)
  ]
]

pub no_more : NoMoreNamesFit
no_more room count names shown few small =
    greatest_most (fits room count names) (length names) shown few (le-leb (width_of (tail_with count names shown)) room small)

tail_fits : (room count : ℕ) (names : List (List ℕ)) → (width_of (tail_text room count names) ≤ room) ⊎ (tail_text room count names ≡ tail_with count names 0)
tail_fits room count names = elim (greatest_passes (fits room count names) (length names)) [
  | inl is ↦ inl (leb-true (width_of (tail_text room count names)) room is)
  | inr none ↦ inr (ap (tail_with count names) none)
]

some_tail : (count : ℕ) (names : List (List ℕ)) (n : ℕ) → 0 < width_of (tail_with count names n)
some_tail count names n =
    let both = width_append (32 ∷ 195 ∷ 151 ∷ 32 ∷ []) ((decimal count ++ codes ":") ++ (names_text (take n names) ++ more_text (length names - n))) in
    omega (arith, both)

pub lines_fit : LinesFitTerminals
lines_fit width name rule count names =
    let tail = terminal_tail width name rule count names in
    let first = width_append (name_part name) (rule_head rule ++ tail) in
    let second = width_append (rule_head rule) tail in
    let room = room_after width name - width_of (rule_head rule) in
    elim (tail_fits room count names) [
      | inl small ↦ (let some = some_tail count names (greatest (fits room count names) (length names)) in inl (omega (arith, first, second, small, some)))
      | inr none ↦ inr none
    ]
