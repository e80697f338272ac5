-- Rows from which what was found differs, by what was found in fonts.
use Rattle.std.proofs.Common.{◌≡◌, ℕ, true, false, List, [], ◌∷◌, ◌++◌, Option, None, Some, cond, map, string_bytes, unwrap_or, inl, inr, refl, sym, ap, ap₂, ◌∙◌}
use Rattle.std.proofs.lemmas.Bool.{cases_Bool}
use Rattle.std.specs.Global.{Global}
use Rattle.std.specs.List.{flat_map}
use Rattle.std.specs.Map.{lookup}
use Rattle.std.specs.Str.{bytes_eq}
use Rattle.std.specs.declared.vec.Vec.{Vec}
use Rattle.t1_many.proofs.Texts.{equal}
use Rattle.t1_many.specs.Choice.{Choice, is_told}
use Rattle.t1_many.specs.KnownFaults.{Reading, RowValue, counts_of, distinct, found_count, is_among, kinds_in, mismatch, mismatch_at, mismatch_in, rule_of}
use Rattle.t1_many.specs.Readings.{counts_in}
use Rattle.t1_many.specs.RowValues.{row_value}
use Rattle.t1_many.specs.declared.readings.Reading.{Reading as Kept}
use Rattle.t1_known.proofs.FoundRows.{among-distinct, none_counted}
use Rattle.t1_known.specs.Private.Fonts.{FontsLeft, IsLeft, count_in, first_of, left_at, left_of}
use Rattle.t1_known.specs.Private.Kept.{Entry, rows_now}
use Rattle.t1_known.specs.Private.Mismatches.{told_in, told_of}
use Rattle.t1_known.specs.Readings.{AreReadingsOf}

-- ---- how often a kind was found

abbrev at : List (List ℕ × ℕ) → List ℕ → ℕ
at counts kind = unwrap_or (lookup (bytes_eq kind) counts) 0

kept_at : (entries : List (Vec ℕ Global × ℕ)) (kind : List ℕ) → count_in entries kind ≡ at (counts_in entries) kind
kept_at [] kind = refl
kept_at (e ∷ entries) kind = elim (cases_Bool (bytes_eq kind e.0.items)) [
  | inl same ↦ rw same refl
  | inr other ↦ rw other (kept_at entries kind)
]

counted_at : (f : List ℕ → ℕ) (kinds : List (List ℕ)) (kind : List ℕ)
    → at (map {B = List ℕ × ℕ} (λ k. (k, f k)) kinds) kind ≡ cond (is_among kinds kind) (f kind) 0
counted_at f [] kind = refl
counted_at f (k ∷ kinds) kind = elim (cases_Bool (bytes_eq kind k)) [
  | inl same ↦ rw same (ap f (sym (equal kind k same)))
  | inr other ↦ rw other (counted_at f kinds kind)
]

found_at : (kinds : List (List ℕ)) (kind : List ℕ) → at (counts_of kinds) kind ≡ found_count kinds kind
found_at kinds kind =
    counted_at (found_count kinds) (distinct kinds) kind ∙ ap (λ b. cond b (found_count kinds kind) 0) (among-distinct kind kinds)
    ∙ elim (cases_Bool (is_among kinds kind)) [
      | inl there ↦ rw there refl
      | inr out ↦ (let none = none_counted kind kinds out in rw out (sym none))
    ]

-- ---- what was found in a font

-- What is kept of a font is what was found in it.
abbrev AreKindsOf : Option Kept → Option (List (List ℕ)) → Type 0
AreKindsOf None None = Unit {0}
AreKindsOf None (Some kinds) = ⊥
AreKindsOf (Some kept) None = ⊥
AreKindsOf (Some kept) (Some kinds) = counts_in kept.counts.entries ≡ counts_of kinds

first_found : (all : List Kept) (readings : List Reading) → AreReadingsOf all readings → (font : List ℕ)
    → AreKindsOf (first_of all font) (kinds_in readings font)
first_found [] [] are font = tt
first_found [] (reading ∷ readings) are font = absurd are
first_found (kept ∷ all) [] are font = absurd are
first_found (kept ∷ all) (reading ∷ readings) are font = elim (cases_Bool (bytes_eq reading.font font)) [
  | inl same ↦
      let here : bytes_eq (string_bytes kept.font) font ≡ true = ap (λ f. bytes_eq f font) are.0.font ∙ same in
      rw (here, same) are.0.counts
  | inr other ↦
      let there : bytes_eq (string_bytes kept.font) font ≡ false = ap (λ f. bytes_eq f font) are.0.font ∙ other in
      rw (there, other) (first_found all readings are.1 font)
]

module _ (choice : Choice) (all : List Kept) (fonts : FontsLeft) (indexed : IsLeft all [] fonts) (readings : List Reading)
    (are : AreReadingsOf all readings) where
  row_same : (row : RowValue) → told_in choice row (left_at fonts row.font) ≡ mismatch choice readings row
  row_same row =
      ap (told_in choice row) (indexed row.font)
      ∙ go (first_of all row.font) (kinds_in readings row.font) (first_found all readings are row.font)
    where
      go : (kept : Option Kept) (kinds : Option (List (List ℕ))) → AreKindsOf kept kinds
          → told_in choice row (left_of kept false) ≡ mismatch_in choice row kinds
      go None None is = refl
      go None (Some kinds) is = absurd is
      go (Some kept) None is = absurd is
      go (Some kept) (Some kinds) is =
          ap (λ n. cond (is_told choice (rule_of row.kind)) (mismatch_at row n) [])
          (kept_at kept.counts.entries row.kind ∙ ap (λ counts. at counts row.kind) is ∙ found_at kinds row.kind)

  pub rows_same : (entries : List Entry) → flat_map (told_of choice fonts) entries ≡ flat_map (mismatch choice readings) (rows_now entries)
  rows_same [] = refl
  rows_same (entry ∷ entries) = ap₂ (λ a b. a ++ b) (row_same (row_value entry.1)) (rows_same entries)
