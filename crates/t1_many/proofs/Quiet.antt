-- Once what was found was made the known faults, nothing goes beyond them and no row differs.
use Rattle.std.proofs.Common.{◌≡◌, ◌⊎◌, ◌<◌, ◌^◌, ℕ, ◌&&◌, ◌||◌, Bool, true, false, true≢false, not, nat_lt, List, [], ◌∷◌, ◌++◌, map, Option, Some, None, cond, inl, inr, refl, sym, ap, subst, ◌∙◌, arith}
use Rattle.std.proofs.lemmas.Bool.{and_parts, cases_Bool}
use Rattle.std.proofs.lemmas.Bool.Decides.{nat_tests}
use Rattle.std.proofs.lemmas.Fmt.{decimal_is_IsNumeral}
use Rattle.std.proofs.lemmas.Grind.{flat_map-append}
use Rattle.std.proofs.lemmas.List.Sums.{count_by-le-length}
use Rattle.std.specs.Fmt.{decimal}
use Rattle.std.specs.List.{AllByRecursion, filter, flat_map, list_any}
use Rattle.std.specs.Option.{is_some}
use Rattle.std.specs.Str.{bytes_eq}
use Rattle.std.specs.Str.Parse.{digits_value}
use Rattle.t1_many.proofs.Texts.{apart, equal, itself}
use Rattle.t1_many.specs.Choice.{Choice, is_told}
use Rattle.t1_many.specs.KnownFaults.{Reading, RowValue, distinct, found_count, is_among, is_judged, kind_of, kinds_in, differs, known_count, rows_behind, rows_in, rule_of, mismatch, mismatch_at, mismatch_in, mismatch_text, updated, updated_behind}
use Rattle.t1_many.specs.Laws.{AreReadings, IsReading, NoLineIsBeyond, NoRowDiffers}

-- ---- tests

not_below : (n : ℕ) → nat_lt n n ≡ false
not_below n = grind (arith, nat_tests)

no_other : (n : ℕ) → differs n n ≡ false
no_other n = let below = not_below n in rw below refl

or_second : (a b : Bool) → (a || b) ≡ true → a ≡ false → b ≡ true
or_second true b e first = absurd (true≢false first)
or_second false b e first = e

neither : (a b : Bool) → a ≡ false → b ≡ false → (a || b) ≡ false
neither true b first second = first
neither false b first second = second

-- ---- kinds

abbrev In : {X : Type 0} → X → List X → Type 0
In x [] = ⊥
In x (y ∷ ys) = (x ≡ y) ⊎ In x ys

-- So many of a kind as f says, in a row each.
abbrev counted : List ℕ → (List ℕ → ℕ) → List (List ℕ) → List RowValue
counted font f kinds = map (λ kind. record { count = decimal (f kind); kind = kind; font = font }) kinds

module _ (font : List ℕ) (f : List ℕ → ℕ) (few : (kind : List ℕ) → f kind < 2 ^ 64) (more : List RowValue) where
  value : (kind : List ℕ) → digits_value 10 (decimal (f kind)) ≡ f kind
  value kind = (decimal_is_IsNumeral (f kind) (few kind)).1

  -- a row of another kind before
  skipped : (row : RowValue) (rows : List RowValue) (kind : List ℕ) → bytes_eq row.kind kind ≡ false → known_count (row ∷ rows) font kind ≡ known_count rows font kind
  skipped row rows kind other = go (bytes_eq row.font font)
    where
      go : (b : Bool) → cond (b && bytes_eq row.kind kind) (digits_value 10 row.count) (known_count rows font kind) ≡ known_count rows font kind
      go true = rw other refl
      go false = refl

  -- rows that are taken out for another kind leave what is known of one
  filtered : (kind taken : List ℕ) (kinds : List (List ℕ)) → bytes_eq taken kind ≡ false
      → known_count (counted font f (filter (λ other. not (bytes_eq taken other)) kinds) ++ more) font kind ≡ known_count (counted font f kinds ++ more) font kind
  filtered kind taken [] apart = refl
  filtered kind taken (y ∷ ys) apart = elim (cases_Bool (bytes_eq taken y)) [
    | inl same ↦
        let is : taken ≡ y = equal taken y same in
        let other : bytes_eq y kind ≡ false = subst (λ t. bytes_eq t kind ≡ false) is apart in
        rw same (filtered kind taken ys apart
        ∙ sym (skipped (record { count = decimal (f y); kind = y; font = font }) (counted font f ys ++ more) kind other))
    | inr kept ↦
        rw kept (ap (λ n. cond (bytes_eq font font && bytes_eq y kind) (digits_value 10 (decimal (f y))) n) (filtered kind taken ys apart))
  ]

  -- of each kind that was found the count is known
  found : (kind : List ℕ) (kinds : List (List ℕ)) → In kind kinds → known_count (counted font f (distinct kinds) ++ more) font kind ≡ f kind
  found kind [] there = absurd there
  found kind (y ∷ ys) there = elim (cases_Bool (bytes_eq y kind)) [
    | inl same ↦
        let is : y ≡ kind = equal y kind same in
        rw (itself font, same) (value y ∙ ap f is)
    | inr other ↦
        skipped (record { count = decimal (f y); kind = y; font = font })
        (counted font f (filter (λ z. not (bytes_eq y z)) (distinct ys)) ++ more) kind other
        ∙ filtered kind y (distinct ys) other ∙ found kind ys (later other there)
  ]
    where
      later : bytes_eq y kind ≡ false → (kind ≡ y) ⊎ In kind ys → In kind ys
      later other (inl e) = absurd (true≢false (sym (itself y) ∙ subst (λ k. bytes_eq y k ≡ false) e other))
      later other (inr is) = is

-- ---- rows of other fonts

others : (other font : List ℕ) (f : List ℕ → ℕ) (kinds : List (List ℕ)) (more : List RowValue) (kind : List ℕ) → bytes_eq other font ≡ false
    → known_count (counted other f kinds ++ more) font kind ≡ known_count more font kind
others other font f [] more kind unlike = refl
others other font f (y ∷ ys) more kind unlike = rw unlike (others other font f ys more kind unlike)

in_others : (other font : List ℕ) (found_there : Option (List (List ℕ))) (more : List RowValue) (kind : List ℕ) → bytes_eq other font ≡ false
    → known_count (rows_in other found_there ++ more) font kind ≡ known_count more font kind
in_others other font None more kind unlike = refl
in_others other font (Some kinds) more kind unlike = others other font (found_count kinds) (distinct kinds) more kind unlike

-- ---- what is known after an update

-- whether one of the readings is of a font
abbrev has : List ℕ → List Reading → Bool
has font readings = list_any (λ (reading : Reading). bytes_eq reading.font font) readings

in_readings : (font : List ℕ) (kinds : List (List ℕ)) (readings : List Reading) → kinds_in readings font ≡ Some kinds → has font readings ≡ true
in_readings font kinds [] at = cc
in_readings font kinds (reading ∷ readings) at = elim (cases_Bool (bytes_eq reading.font font)) [
  | inl same ↦ rw same refl
  | inr other ↦ (let there : kinds_in readings font ≡ Some kinds = rw other at at in rw other (in_readings font kinds readings there))
]

told_at : (P : List ℕ → Type 0) (kind : List ℕ) (kinds : List (List ℕ)) → AllByRecursion P kinds → In kind kinds → P kind
told_at P kind [] all there = absurd there
told_at P kind (y ∷ ys) all (inl is) = subst P (sym is) all.0
told_at P kind (y ∷ ys) all (inr there) = told_at P kind ys all.1 there

module _ (choice : Choice) (readings : List Reading) (font : List ℕ) (kinds : List (List ℕ)) (at : kinds_in readings font ≡ Some kinds)
    (is : IsReading choice kinds) (kind : List ℕ) (there : In kind kinds) where
  few : (other : List ℕ) → found_count kinds other < 2 ^ 64
  few other = let most = count_by-le-length (bytes_eq other) kinds in let bound = is.few in omega (arith, most, bound)

  block : (other : List ℕ) (more : List RowValue) → bytes_eq other font ≡ true
      → known_count (rows_in other (kinds_in readings other) ++ more) font kind ≡ found_count kinds kind
  block other more same =
      subst (λ o. known_count (rows_in o (kinds_in readings o) ++ more) font kind ≡ found_count kinds kind) (sym (equal other font same))
      (subst (λ found_there. known_count (rows_in font found_there ++ more) font kind ≡ found_count kinds kind) (sym at)
      (found font (found_count kinds) few more kind kinds there))

  behind_rows : (done : List (List ℕ)) (suffix : List Reading) → is_among done font ≡ false → has font suffix ≡ true
      → known_count (rows_behind readings done suffix) font kind ≡ found_count kinds kind
  behind_rows done [] out some = absurd (true≢false (sym some))
  behind_rows done (reading ∷ suffix) out some = elim (cases_Bool (is_among done reading.font)) [
    | inl gone ↦ rw gone (behind_rows done suffix out (or_second _ _ some (elsewhere gone)))
    | inr new ↦ rw new (elim (cases_Bool (bytes_eq reading.font font)) [
      | inl same ↦ block reading.font (rows_behind readings (reading.font ∷ done) suffix) same
      | inr other ↦
          in_others reading.font font (kinds_in readings reading.font) (rows_behind readings (reading.font ∷ done) suffix) kind other
          ∙ behind_rows (reading.font ∷ done) suffix (neither _ _ (apart reading.font font other) out) (or_second _ _ some other)
    ])
  ]
    where
      elsewhere : is_among done reading.font ≡ true → bytes_eq reading.font font ≡ false
      elsewhere gone = elim (cases_Bool (bytes_eq reading.font font)) [
        | inl same ↦ absurd (true≢false (sym (subst (λ f. is_among done f ≡ true) (equal reading.font font same) gone) ∙ out))
        | inr other ↦ other
      ]

  -- a row that isn't judged is none of these
  standing : (row : RowValue) (more : List RowValue) → is_judged choice readings row ≡ false → known_count (row ∷ more) font kind ≡ known_count more font kind
  standing row more stands = elim (cases_Bool (bytes_eq row.font font && bytes_eq row.kind kind)) [
    | inl both ↦
        let parts = and_parts _ _ both in
        let of_font : row.font ≡ font = equal row.font font parts.0 in
        let of_kind : row.kind ≡ kind = equal row.kind kind parts.1 in
        let told : is_told choice (rule_of kind) ≡ true = told_at (λ k. is_told choice (rule_of k) ≡ true) kind kinds is.told there in
        let judged : is_judged choice readings row ≡ true = rw (of_font, of_kind, at, told) refl in
        absurd (true≢false (sym judged ∙ stands))
    | inr other ↦ rw other refl
  ]

  behind : (done : List (List ℕ)) (rows : List RowValue) → is_among done font ≡ false
      → known_count (updated_behind choice readings done rows) font kind ≡ found_count kinds kind
  behind done [] out = behind_rows done readings out (in_readings font kinds readings at)
  behind done (row ∷ rows) out = elim (cases_Bool (is_judged choice readings row)) [
    | inl judged ↦ rw judged (elim (cases_Bool (is_among done row.font)) [
      | inl gone ↦ rw gone (behind done rows out)
      | inr new ↦ rw new (elim (cases_Bool (bytes_eq row.font font)) [
        | inl same ↦ block row.font (updated_behind choice readings (row.font ∷ done) rows) same
        | inr other ↦
            in_others row.font font (kinds_in readings row.font) (updated_behind choice readings (row.font ∷ done) rows) kind other
            ∙ behind (row.font ∷ done) rows (neither _ _ (apart row.font font other) out)
      ])
    ])
    | inr stands ↦ rw stands (standing row (updated_behind choice readings done rows) stands ∙ behind done rows out)
  ]

-- ---- no line goes beyond

none_left : {X : Type 0} (p : X → Bool) (xs : List X) → ((x : X) → In x xs → p x ≡ false) → filter p xs ≡ []
none_left p [] none = refl
none_left p (x ∷ xs) none =
    ap (λ b. cond b (x ∷ filter p xs) (filter p xs)) (none x (inl refl)) ∙ none_left p xs (λ y there. none y (inr there))

in_map : {X Y : Type 0} (f : X → Y) (x : X) (xs : List X) → In x xs → In (f x) (map f xs)
in_map f x [] there = absurd there
in_map f x (y ∷ ys) (inl is) = inl (ap f is)
in_map f x (y ∷ ys) (inr there) = inr (in_map f x ys there)

pub no_line : NoLineIsBeyond
no_line choice readings rows font lines are at =
    none_left (λ l. nat_lt (known_count (updated choice readings rows) font (kind_of l)) (found_count (map kind_of lines) (kind_of l))) lines
    (λ l there.
    ap (λ n. nat_lt n (found_count (map kind_of lines) (kind_of l)))
    (behind choice readings font (map kind_of lines) at (are font (map kind_of lines) at) (kind_of l) (in_map kind_of l lines there) [] rows refl)
    ∙ not_below (found_count (map kind_of lines) (kind_of l)))

-- ---- no row differs

module _ (choice : Choice) (readings : List Reading) (are : AreReadings choice readings) where
  stands_still : (row : RowValue) → is_judged choice readings row ≡ false → mismatch choice readings row ≡ []
  stands_still row stands = go (kinds_in readings row.font) stands
    where
      go : (kinds : Option (List (List ℕ))) → (is_some kinds && is_told choice (rule_of row.kind)) ≡ false → mismatch_in choice row kinds ≡ []
      go None out = refl
      go (Some kinds) out = rw out refl

  reached : (font : List ℕ) (kinds : List (List ℕ)) → kinds_in readings font ≡ Some kinds → (some : List (List ℕ))
      → flat_map (mismatch choice readings) (counted font (found_count kinds) some) ≡ []
  reached font kinds at [] = refl
  reached font kinds at (kind ∷ some) =
      let most = count_by-le-length (bytes_eq kind) kinds in
      let bound = (are font kinds at).few in
      let value : digits_value 10 (decimal (found_count kinds kind)) ≡ found_count kinds kind =
      (decimal_is_IsNumeral (found_count kinds kind) (omega (arith, most, bound))).1 in
      let row : RowValue = record { count = decimal (found_count kinds kind); kind = kind; font = font } in
      let here : mismatch_at row (found_count kinds kind) ≡ [] =
      rw value (ap (λ b. cond b (mismatch_text row (found_count kinds kind)) []) (no_other (found_count kinds kind))) in
      let quiet : mismatch choice readings row ≡ [] = rw at (go (is_told choice (rule_of kind)) (mismatch_at row (found_count kinds kind)) here) in
      ap (λ text. text ++ flat_map (mismatch choice readings) (counted font (found_count kinds) some)) quiet ∙ reached font kinds at some
    where
      go : (b : Bool) (text : List ℕ) → text ≡ [] → cond b text [] ≡ []
      go true text none = none
      go false text none = refl

  block_reached : (font : List ℕ) → flat_map (mismatch choice readings) (rows_in font (kinds_in readings font)) ≡ []
  block_reached font = go (kinds_in readings font) refl
    where
      go : (kinds : Option (List (List ℕ))) → kinds_in readings font ≡ kinds → flat_map (mismatch choice readings) (rows_in font kinds) ≡ []
      go None at = refl
      go (Some kinds) at = reached font kinds at (distinct kinds)

  joined : (font : List ℕ) (more : List RowValue) → flat_map (mismatch choice readings) more ≡ []
      → flat_map (mismatch choice readings) (rows_in font (kinds_in readings font) ++ more) ≡ []
  joined font more quiet =
      flat_map-append (mismatch choice readings) (rows_in font (kinds_in readings font)) more
      ∙ ap (λ text. text ++ flat_map (mismatch choice readings) more) (block_reached font) ∙ quiet

  quiet_rows : (done : List (List ℕ)) (suffix : List Reading) → flat_map (mismatch choice readings) (rows_behind readings done suffix) ≡ []
  quiet_rows done [] = refl
  quiet_rows done (reading ∷ suffix) = elim (cases_Bool (is_among done reading.font)) [
    | inl gone ↦ rw gone (quiet_rows done suffix)
    | inr new ↦ rw new (joined reading.font (rows_behind readings (reading.font ∷ done) suffix) (quiet_rows (reading.font ∷ done) suffix))
  ]

  quiet : (done : List (List ℕ)) (rows : List RowValue) → flat_map (mismatch choice readings) (updated_behind choice readings done rows) ≡ []
  quiet done [] = quiet_rows done readings
  quiet done (row ∷ rows) = elim (cases_Bool (is_judged choice readings row)) [
    | inl judged ↦ rw judged (elim (cases_Bool (is_among done row.font)) [
      | inl gone ↦ rw gone (quiet done rows)
      | inr new ↦ rw new (joined row.font (updated_behind choice readings (row.font ∷ done) rows) (quiet (row.font ∷ done) rows))
    ])
    | inr stands ↦ rw stands (
        ap (λ text. text ++ flat_map (mismatch choice readings) (updated_behind choice readings done rows)) (stands_still row stands)
        ∙ quiet done rows)
  ]

pub no_row : NoRowDiffers
no_row choice readings rows are = quiet choice readings are [] rows
