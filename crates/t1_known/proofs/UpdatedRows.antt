-- The rows that an update writes can be read back: each is in one line, and no key is there twice.
use Rattle.std.proofs.Common.{◌≡◌, ◌||◌, ◌&&◌, ℕ, Bool, true, false, true≢false, List, [], ◌∷◌, ◌++◌, map, Option, None, Some, Ok, inl, inr, refl, sym, ap, ap₂, subst, ◌∙◌}
use Rattle.std.proofs.lemmas.Bool.{cases_Bool}
use Rattle.std.specs.List.{AllByRecursion, IsDistinct, flat_map}
use Rattle.std.specs.Option.{is_some}
use Rattle.std.specs.Str.{bytes_eq}
use Rattle.t1_lines.proofs.Cuts.{some_same}
use Rattle.t1_many.proofs.Quiet.{no_line, no_row}
use Rattle.t1_many.proofs.Texts.{equal, itself}
use Rattle.t1_many.specs.Choice.{Choice, is_told}
use Rattle.t1_many.specs.KnownFaults.{IsRow, Reading, RowValue, beyond, distinct, found_count, is_among, is_judged, kinds_in, rows_behind, rows_in, rule_of, mismatch, updated, updated_behind}
use Rattle.t1_many.specs.Laws.{AreReadings}
use Rattle.t1_known.proofs.FoundRows.{all-distinct, counted, row_keys_once, rows_in_one_line}
use Rattle.t1_known.proofs.KeptRows.{one_key}
use Rattle.t1_known.proofs.ReadBack.{rows_are_read_back}
use Rattle.t1_known.proofs.ReadRows.{read_in_line}
use Rattle.t1_known.specs.Keys.{key_of}
use Rattle.t1_known.specs.Laws.{IsInOneLine, UpdatesAreReached, UpdatesAreReadBack}
use Rattle.t1_known.specs.Readings.{IsReadable}

-- No row has this key.
abbrev HasNone : List ℕ → List RowValue → Type 0
HasNone key rows = AllByRecursion (λ other. bytes_eq key other ≡ false) (map key_of rows)

none-append : (key : List ℕ) (a b : List RowValue) → HasNone key a → HasNone key b → HasNone key (a ++ b)
none-append key [] b none_a none_b = none_b
none-append key (row ∷ a) b none_a none_b = (none_a.0, none-append key a b none_a.1 none_b)

all-append : (P : RowValue → Type 0) (a b : List RowValue) → AllByRecursion P a → AllByRecursion P b → AllByRecursion P (a ++ b)
all-append P [] b all_a all_b = all_b
all-append P (row ∷ a) b all_a all_b = (all_a.0, all-append P a b all_a.1 all_b)

all_weaker : (P Q : RowValue → Type 0) → ((row : RowValue) → P row → Q row) → (rows : List RowValue) → AllByRecursion P rows → AllByRecursion Q rows
all_weaker P Q weaker [] all = tt
all_weaker P Q weaker (row ∷ rows) all = (weaker row all.0, all_weaker P Q weaker rows all.1)

-- keys differ where not both kinds and fonts are the same
keys_apart : (a b : RowValue) → IsRow a → IsRow b → (a.kind ≡ b.kind → a.font ≡ b.font → ⊥) → bytes_eq (key_of a) (key_of b) ≡ false
keys_apart a b is_a is_b never = elim (cases_Bool (bytes_eq (key_of a) (key_of b))) [
  | inl same ↦
      let parts = one_key a.kind a.font b.kind b.font is_a.kind is_b.kind (equal (key_of a) (key_of b) same) in
      absurd (never parts.0 parts.1)
  | inr other ↦ other
]

among_more : (fonts : List (List ℕ)) (other font : List ℕ) → is_among fonts font ≡ true → is_among (other ∷ fonts) font ≡ true
among_more fonts other font there = go (bytes_eq font other) (is_among fonts font) there
  where
    go : (a b : Bool) → b ≡ true → (a || b) ≡ true
    go true b is = refl
    go false b is = is

among_first : (fonts : List (List ℕ)) (font : List ℕ) → is_among (font ∷ fonts) font ≡ true
among_first fonts font = rw (itself font) refl

-- a font that is among some is none that isn't
fonts_apart : (fonts : List (List ℕ)) (a b : List ℕ) → is_among fonts a ≡ true → is_among fonts b ≡ false → bytes_eq a b ≡ false
fonts_apart fonts a b there out = elim (cases_Bool (bytes_eq a b)) [
  | inl same ↦ absurd (true≢false (sym there ∙ ap (is_among fonts) (equal a b same) ∙ out))
  | inr other ↦ other
]

-- ---- readings

readable_at : (readings : List Reading) (font : List ℕ) (kinds : List (List ℕ)) → AllByRecursion IsReadable readings
    → kinds_in readings font ≡ Some kinds → IsReadable (record { font = font; kinds = kinds })
readable_at [] font kinds all at = cc
readable_at (reading ∷ readings) font kinds all at = elim (cases_Bool (bytes_eq reading.font font)) [
  | inl same ↦
      let here : Some reading.kinds ≡ Some kinds = rw same at at in
      subst (λ f. IsReadable (record { font = f; kinds = kinds })) (equal reading.font font same)
      (subst (λ k. IsReadable (record { font = reading.font; kinds = k })) (some_same reading.kinds kinds here) all.0)
  | inr other ↦ (let there : kinds_in readings font ≡ Some kinds = rw other at at in readable_at readings font kinds all.1 there)
]

module _ (choice : Choice) (readings : List Reading) (readable : AllByRecursion IsReadable readings) (are : AreReadings choice readings) where
  -- A row of what was found in a font.
  record IsFresh (font : List ℕ) (row : RowValue) : Type 0 where
    in_line : IsInOneLine row
    font_is : row.font ≡ font
    judged : is_judged choice readings row ≡ true

  abbrev block : List ℕ → List RowValue
  block font = rows_in font (kinds_in readings font)

  fresh_rows : (font : List ℕ) (kinds : List (List ℕ)) (f : List ℕ → ℕ) (some : List (List ℕ)) → kinds_in readings font ≡ Some kinds
      → AllByRecursion IsInOneLine (counted font f some) → AllByRecursion (λ kind. is_told choice (rule_of kind) ≡ true) some
      → AllByRecursion (IsFresh font) (counted font f some)
  fresh_rows font kinds f [] at lines told = tt
  fresh_rows font kinds f (kind ∷ some) at lines told =
      (record { in_line = lines.0; font_is = refl; judged = rw (at, told.0) refl }, fresh_rows font kinds f some at lines.1 told.1)

  are_fresh : (font : List ℕ) → AllByRecursion (IsFresh font) (block font)
  are_fresh font = go (kinds_in readings font) refl
    where
      go : (kinds : Option (List (List ℕ))) → kinds_in readings font ≡ kinds → AllByRecursion (IsFresh font) (rows_in font kinds)
      go None at = tt
      go (Some kinds) at =
          fresh_rows font kinds (found_count kinds) (distinct kinds) at
          (rows_in_one_line (record { font = font; kinds = kinds }) (readable_at readings font kinds readable at))
          (all-distinct (λ kind. is_told choice (rule_of kind) ≡ true) kinds (are font kinds at).told)

  block_once : (font : List ℕ) → IsDistinct bytes_eq (map key_of (block font))
  unfolding IsDistinct
  block_once font = go (kinds_in readings font) refl
    where
      go : (kinds : Option (List (List ℕ))) → kinds_in readings font ≡ kinds → IsDistinct bytes_eq (map key_of (rows_in font kinds))
      go None at = tt
      go (Some kinds) at = row_keys_once (record { font = font; kinds = kinds }) (readable_at readings font kinds readable at)

  -- ---- each is in one line

  block_in_line : (font : List ℕ) → AllByRecursion IsInOneLine (block font)
  block_in_line font = all_weaker (IsFresh font) IsInOneLine (λ row fresh. fresh.in_line) (block font) (are_fresh font)

  behind_in_line : (done : List (List ℕ)) (suffix : List Reading) → AllByRecursion IsInOneLine (rows_behind readings done suffix)
  behind_in_line done [] = tt
  behind_in_line done (reading ∷ suffix) = elim (cases_Bool (is_among done reading.font)) [
    | inl gone ↦ rw gone (behind_in_line done suffix)
    | inr new ↦ rw new (all-append IsInOneLine (block reading.font) (rows_behind readings (reading.font ∷ done) suffix)
        (block_in_line reading.font) (behind_in_line (reading.font ∷ done) suffix))
  ]

  updated_in_line : (done : List (List ℕ)) (rows : List RowValue) → AllByRecursion IsInOneLine rows
      → AllByRecursion IsInOneLine (updated_behind choice readings done rows)
  updated_in_line done [] all = behind_in_line done readings
  updated_in_line done (row ∷ rows) all = elim (cases_Bool (is_judged choice readings row)) [
    | inl judged ↦ rw judged (elim (cases_Bool (is_among done row.font)) [
      | inl gone ↦ rw gone (updated_in_line done rows all.1)
      | inr new ↦ rw new (all-append IsInOneLine (block row.font) (updated_behind choice readings (row.font ∷ done) rows)
          (block_in_line row.font) (updated_in_line (row.font ∷ done) rows all.1))
    ])
    | inr stands ↦ rw stands (all.0, updated_in_line done rows all.1)
  ]

  -- ---- a row that is judged has another key than one that isn't

  judged_apart : (a b : RowValue) → is_judged choice readings a ≡ true → is_judged choice readings b ≡ false → a.kind ≡ b.kind → a.font ≡ b.font → ⊥
  judged_apart a b judged stands kinds fonts =
      true≢false (sym judged ∙ ap₂ (λ k f. is_some (kinds_in readings f) && is_told choice (rule_of k)) kinds fonts ∙ stands)

  module _ (a : RowValue) (is : IsRow a) (stands : is_judged choice readings a ≡ false) where
    none_fresh : (font : List ℕ) (rows : List RowValue) → AllByRecursion (IsFresh font) rows → HasNone (key_of a) rows
    none_fresh font [] all = tt
    none_fresh font (row ∷ rows) all = (
      keys_apart a row is all.0.in_line.is (λ kinds fonts. judged_apart row a all.0.judged stands (sym kinds) (sym fonts)),
      none_fresh font rows all.1,
    )

    none_behind : (done : List (List ℕ)) (suffix : List Reading) → HasNone (key_of a) (rows_behind readings done suffix)
    none_behind done [] = tt
    none_behind done (reading ∷ suffix) = elim (cases_Bool (is_among done reading.font)) [
      | inl gone ↦ rw gone (none_behind done suffix)
      | inr new ↦ rw new (none-append (key_of a) (block reading.font) (rows_behind readings (reading.font ∷ done) suffix)
          (none_fresh reading.font (block reading.font) (are_fresh reading.font)) (none_behind (reading.font ∷ done) suffix))
    ]

    none_updated : (done : List (List ℕ)) (rows : List RowValue) → HasNone (key_of a) rows → HasNone (key_of a) (updated_behind choice readings done rows)
    none_updated done [] none = none_behind done readings
    none_updated done (row ∷ rows) none = elim (cases_Bool (is_judged choice readings row)) [
      | inl judged ↦ rw judged (elim (cases_Bool (is_among done row.font)) [
        | inl gone ↦ rw gone (none_updated done rows none.1)
        | inr new ↦ rw new (none-append (key_of a) (block row.font) (updated_behind choice readings (row.font ∷ done) rows)
            (none_fresh row.font (block row.font) (are_fresh row.font)) (none_updated (row.font ∷ done) rows none.1))
      ])
      | inr left ↦ rw left (none.0, none_updated done rows none.1)
    ]

  -- ---- and another key than the rows of fonts that come later

  module _ (a : RowValue) (is : IsRow a) (judged : is_judged choice readings a ≡ true) where
    none_of_font : (font : List ℕ) (rows : List RowValue) → bytes_eq a.font font ≡ false → AllByRecursion (IsFresh font) rows → HasNone (key_of a) rows
    none_of_font font [] other all = tt
    none_of_font font (row ∷ rows) other all = (
      keys_apart a row is all.0.in_line.is
          (λ kinds fonts. true≢false (sym (itself a.font) ∙ ap (bytes_eq a.font) (fonts ∙ all.0.font_is) ∙ other)),
      none_of_font font rows other all.1,
    )

    none_later : (done : List (List ℕ)) (suffix : List Reading) → is_among done a.font ≡ true → HasNone (key_of a) (rows_behind readings done suffix)
    none_later done [] there = tt
    none_later done (reading ∷ suffix) there = elim (cases_Bool (is_among done reading.font)) [
      | inl gone ↦ rw gone (none_later done suffix there)
      | inr new ↦ rw new (none-append (key_of a) (block reading.font) (rows_behind readings (reading.font ∷ done) suffix)
          (none_of_font reading.font (block reading.font) (fonts_apart done a.font reading.font there new) (are_fresh reading.font))
          (none_later (reading.font ∷ done) suffix (among_more done reading.font a.font there)))
    ]

    none_left : (done : List (List ℕ)) (rows : List RowValue) → AllByRecursion IsInOneLine rows → is_among done a.font ≡ true
        → HasNone (key_of a) (updated_behind choice readings done rows)
    none_left done [] all there = none_later done readings there
    none_left done (row ∷ rows) all there = elim (cases_Bool (is_judged choice readings row)) [
      | inl replaced ↦ rw replaced (elim (cases_Bool (is_among done row.font)) [
        | inl gone ↦ rw gone (none_left done rows all.1 there)
        | inr new ↦ rw new (none-append (key_of a) (block row.font) (updated_behind choice readings (row.font ∷ done) rows)
            (none_of_font row.font (block row.font) (fonts_apart done a.font row.font there new) (are_fresh row.font))
            (none_left (row.font ∷ done) rows all.1 (among_more done row.font a.font there)))
      ])
      | inr stands ↦ rw stands (keys_apart a row is all.0.is (judged_apart a row judged stands), none_left done rows all.1 there)
    ]

  -- ---- no key is there twice

  once-append : (font : List ℕ) (rows rest : List RowValue) → AllByRecursion (IsFresh font) rows
      → ((row : RowValue) → IsFresh font row → HasNone (key_of row) rest) → IsDistinct bytes_eq (map key_of rows)
      → IsDistinct bytes_eq (map key_of rest) → IsDistinct bytes_eq (map key_of (rows ++ rest))
  unfolding IsDistinct
  once-append font [] rest all none once_rows once_rest = once_rest
  once-append font (row ∷ rows) rest all none once_rows once_rest = (
    none-append (key_of row) rows rest once_rows.0 (none row all.0),
    once-append font rows rest all.1 none once_rows.1 once_rest,
  )

  done_first : (done : List (List ℕ)) (font : List ℕ) (row : RowValue) → IsFresh font row → is_among (font ∷ done) row.font ≡ true
  done_first done font row fresh = ap (is_among (font ∷ done)) fresh.font_is ∙ among_first done font

  once_behind : (done : List (List ℕ)) (suffix : List Reading) → IsDistinct bytes_eq (map key_of (rows_behind readings done suffix))
  unfolding IsDistinct
  once_behind done [] = tt
  once_behind done (reading ∷ suffix) = elim (cases_Bool (is_among done reading.font)) [
    | inl gone ↦ rw gone (once_behind done suffix)
    | inr new ↦ rw new (once-append reading.font (block reading.font) (rows_behind readings (reading.font ∷ done) suffix) (are_fresh reading.font)
        (λ row fresh. none_later row fresh.in_line.is fresh.judged (reading.font ∷ done) suffix (done_first done reading.font row fresh))
        (block_once reading.font) (once_behind (reading.font ∷ done) suffix))
  ]

  once_updated : (done : List (List ℕ)) (rows : List RowValue) → AllByRecursion IsInOneLine rows → IsDistinct bytes_eq (map key_of rows)
      → IsDistinct bytes_eq (map key_of (updated_behind choice readings done rows))
  unfolding IsDistinct
  once_updated done [] all once = once_behind done readings
  once_updated done (row ∷ rows) all once = elim (cases_Bool (is_judged choice readings row)) [
    | inl judged ↦ rw judged (elim (cases_Bool (is_among done row.font)) [
      | inl gone ↦ rw gone (once_updated done rows all.1 once.1)
      | inr new ↦ rw new (once-append row.font (block row.font) (updated_behind choice readings (row.font ∷ done) rows) (are_fresh row.font)
          (λ other fresh. none_left other fresh.in_line.is fresh.judged (row.font ∷ done) rows all.1 (done_first done row.font other fresh))
          (block_once row.font) (once_updated (row.font ∷ done) rows all.1 once.1))
    ])
    | inr stands ↦ rw stands (none_updated row all.0.is stands done rows once.0, once_updated done rows all.1 once.1)
  ]

-- ---- the whole file

pub updates_are_read_back : UpdatesAreReadBack
updates_are_read_back choice readings text rows read readable are result is =
    let all = read_in_line text rows read.each in
    rows_are_read_back (updated choice readings rows) (updated_in_line choice readings readable are [] rows all)
    (once_updated choice readings readable are [] rows all read.once) result is

pub updates_are_reached : UpdatesAreReached
updates_are_reached choice readings text rows read readable are known is = elim (updates_are_read_back choice readings text rows read readable are (Ok known) is) [
  | inl same ↦
      let same_rows : known ≡ updated choice readings rows = cc in
      record {
        lines = λ font lines at. ap (λ k. beyond k font lines) same_rows ∙ no_line choice readings rows font lines are at;
        rows = subst (λ k. flat_map (mismatch choice readings) k ≡ []) (sym same_rows) (no_row choice readings rows are);
      }
  | inr memory ↦ cc
]
