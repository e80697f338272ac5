-- What a file of known faults spells is read back.
use Rattle.std.proofs.Common.{◌≡◌, ◌⊎◌, ◌<◌, ◌==◌, ◌&&◌, ℕ, true, false, true≢false, not, List, [], ◌∷◌, ◌++◌, length, map, Result, Ok, Err, cond, inl, inr, refl, sym, ap, ap₂, subst, ◌∙◌, arith, append_assoc}
use Rattle.std.proofs.lemmas.Bool.{and_parts, cases_Bool}
use Rattle.std.proofs.lemmas.Bool.Decides.{nat_tests}
use Rattle.std.proofs.lemmas.List.Elements.{filter-append}
use Rattle.std.specs.List.{AllByRecursion, AllZip, IsDistinct, flat_map, list_all}
use Rattle.std.specs.Str.{bytes_eq}
use Rattle.t1_many.proofs.Rows.{one_row}
use Rattle.t1_many.proofs.Texts.{equal, itself}
use Rattle.t1_many.specs.KnownFaults.{RowValue, file_text, row_text}
use Rattle.t1_scan.specs.Bytes.{is_decimal_digit}
use Rattle.t1_many.specs.RowValues.{IsNoRow}
use Rattle.t1_known.specs.Keys.{has_key, key_of}
use Rattle.t1_known.specs.Laws.{IsInOneLine, RowsAreReadBack}
use Rattle.t1_known.specs.Lines.{has_no_line_end, is_comment, lines_of, row_lines, spoken, with_byte}
use Rattle.t1_known.specs.Reads.{AreLinesOf, HasKeyTwice, HasNoRow, IsLineOf, IsReadAs, ReachesLine}
use Rattle.t1_known.specs.declared.known.NotKnown.{NotKnown}
use Rattle.t1_known.specs.declared.known.NotKnown.TheVariants.{Memory, NoRow, Twice}

-- ---- lines

-- a line that is ended
pub line_first : (line rest : List ℕ) → has_no_line_end line ≡ true → lines_of (line ++ 10 ∷ rest) ≡ line ∷ lines_of rest
line_first [] rest none = refl
line_first (c ∷ line) rest none =
    let parts = and_parts (not (c == 10)) (has_no_line_end line) none in
    let other : (c == 10) ≡ false = grind (arith, nat_tests, parts.0) in
    rw other (ap (with_byte c) (line_first line rest parts.1))

pub without-append : (a b : List ℕ) → has_no_line_end a ≡ true → has_no_line_end b ≡ true → has_no_line_end (a ++ b) ≡ true
without-append [] b none_a none_b = none_b
without-append (c ∷ a) b none_a none_b =
    let parts = and_parts (not (c == 10)) (has_no_line_end a) none_a in
    ap₂ (λ x y. x && y) parts.0 (without-append a b parts.1 none_b)

no_digit : (digits : List ℕ) → list_all is_decimal_digit digits ≡ true → has_no_line_end digits ≡ true
no_digit [] all = refl
no_digit (c ∷ digits) all =
    let parts = and_parts (is_decimal_digit c) (list_all is_decimal_digit digits) all in
    let other : not (c == 10) ≡ true = grind (arith, nat_tests, parts.0) in
    ap₂ (λ x y. x && y) other (no_digit digits parts.1)

-- the line of a row
abbrev pub line_text : RowValue → List ℕ
line_text row = row.count ++ (32 ∷ key_of row)

pub line_ended : (row : RowValue) → row_text row ≡ line_text row ++ 10 ∷ []
line_ended row =
    sym (append_assoc row.count (32 ∷ key_of row) (10 ∷ []) ∙ ap (λ t. row.count ++ (32 ∷ t)) (append_assoc row.kind (32 ∷ row.font) (10 ∷ [])))

module _ (row : RowValue) (is : IsInOneLine row) where
  in_line : has_no_line_end (line_text row) ≡ true
  in_line =
      without-append row.count (32 ∷ key_of row) (no_digit row.count is.is.count)
      (without-append row.kind (32 ∷ row.font) is.kind is.font)

  says : (count : List ℕ) → 0 < length count → list_all is_decimal_digit count ≡ true → is_comment (count ++ (32 ∷ key_of row)) ≡ false
  says [] some all = absurd (omega (arith, some))
  says (c ∷ count) some all =
      let parts = and_parts (is_decimal_digit c) (list_all is_decimal_digit count) all in
      grind (arith, nat_tests, parts.0)

  -- its line is the first one of what follows
  pub row_first : (rest : List ℕ) → row_lines (row_text row ++ rest) ≡ line_text row ∷ row_lines rest
  row_first rest =
      ap row_lines (ap (λ t. t ++ rest) (line_ended row) ∙ append_assoc (line_text row) (10 ∷ []) rest)
      ∙ ap spoken (line_first (line_text row) rest in_line)
      ∙ ap (λ b. cond (not b) (line_text row ∷ row_lines rest) (row_lines rest)) (says row.count is.is.counts is.is.count)

-- the lines of rows
pub lines_are : (rows : List RowValue) → AllByRecursion IsInOneLine rows → row_lines (flat_map row_text rows) ≡ map line_text rows
lines_are [] all = refl
lines_are (row ∷ rows) all =
    row_first row all.0 (flat_map row_text rows) ∙ ap (λ (lines : List (List ℕ)). line_text row ∷ lines) (lines_are rows all.1)

pub are_lines : (rows : List RowValue) → AllByRecursion IsInOneLine rows → AllZip IsLineOf (map line_text rows) rows
are_lines [] all = tt
are_lines (row ∷ rows) all = ((all.0.is, line_ended row), are_lines rows all.1)

-- ---- a line is that of one row

same_row : (line : List ℕ) (a b : RowValue) → IsLineOf line a → IsLineOf line b → a ≡ b
same_row line a b is_a is_b = one_row a b is_a.0 is_b.0 (is_a.1 ∙ sym is_b.1)

pub same_rows : (lines : List (List ℕ)) (a b : List RowValue) → AllZip IsLineOf lines a → AllZip IsLineOf lines b → a ≡ b
same_rows [] [] [] each_a each_b = refl
same_rows [] [] (y ∷ b) each_a each_b = absurd each_b
same_rows [] (x ∷ a) b each_a each_b = absurd each_a
same_rows (line ∷ lines) [] b each_a each_b = absurd each_a
same_rows (line ∷ lines) (x ∷ a) [] each_a each_b = absurd each_b
same_rows (line ∷ lines) (x ∷ a) (y ∷ b) each_a each_b =
    ap₂ (λ r (rs : List RowValue). r ∷ rs) (same_row line x y each_a.0 each_b.0) (same_rows lines a b each_a.1 each_b.1)

-- ---- no line of rows stops the reading

-- the rows up to a line, and that of the line
record HasRowAt (front : List (List ℕ)) (line : List ℕ) (rows : List RowValue) : Type 0 where
  before : List RowValue
  row : RowValue
  later : List RowValue
  split : rows ≡ before ++ row ∷ later
  each : AllZip IsLineOf front before
  is : IsLineOf line row

row_at : (front : List (List ℕ)) (line : List ℕ) (behind : List (List ℕ)) (rows : List RowValue) → AllZip IsLineOf (front ++ line ∷ behind) rows
    → HasRowAt front line rows
row_at [] line behind [] each = absurd each
row_at [] line behind (r ∷ rows) each = record { before = []; row = r; later = rows; split = refl; each = tt; is = each.0 }
row_at (l ∷ front) line behind [] each = absurd each
row_at (l ∷ front) line behind (r ∷ rows) each =
    let more = row_at front line behind rows each.1 in
    record {
      before = r ∷ more.before;
      row = more.row;
      later = more.later;
      split = ap (λ (rs : List RowValue). r ∷ rs) more.split;
      each = (each.0, more.each);
      is = more.is;
    }

unlike_at : (a : List ℕ) (before : List RowValue) (row : RowValue) (later : List RowValue)
    → AllByRecursion (λ b. bytes_eq a b ≡ false) (map key_of (before ++ row ∷ later)) → bytes_eq a (key_of row) ≡ false
unlike_at a [] row later all = all.0
unlike_at a (b ∷ before) row later all = unlike_at a before row later all.1

new_key : (before : List RowValue) (row : RowValue) (later : List RowValue) → IsDistinct bytes_eq (map key_of (before ++ row ∷ later))
    → has_key before (key_of row) ≡ true → ⊥
unfolding IsDistinct
new_key [] row later once there = true≢false (sym there)
new_key (b ∷ before) row later once there = elim (cases_Bool (bytes_eq (key_of row) (key_of b))) [
  | inl same ↦
      let keys : key_of row ≡ key_of b = equal (key_of row) (key_of b) same in
      let other : bytes_eq (key_of b) (key_of row) ≡ false = unlike_at (key_of b) before row later once.0 in
      true≢false (sym (itself (key_of b)) ∙ ap (bytes_eq (key_of b)) (sym keys) ∙ other)
  | inr other ↦ new_key before row later once.1 (rw other at there)
]

-- A line at which a reading stops after these rows.
abbrev pub IsFault : List ℕ → List RowValue → Type 0
IsFault line rows = IsNoRow line ⊎ ((row : RowValue) × IsLineOf line row × (has_key rows (key_of row) ≡ true))

-- such a line is none of lines that are rows
pub never : (front : List (List ℕ)) (line : List ℕ) (behind : List (List ℕ)) (rows before : List RowValue)
    → AreLinesOf (front ++ line ∷ behind) rows → AreLinesOf front before → IsFault line before → ⊥
never front line behind rows before are front_are (inl none) =
    let at = row_at front line behind rows are.each in
    none at.row at.is.0 at.is.1
never front line behind rows before are front_are (inr (row, is, twice)) =
    let at = row_at front line behind rows are.each in
    let same_before : before ≡ at.before = same_rows front before at.before front_are.each at.each in
    let same : row ≡ at.row = same_row line row at.row is at.is in
    new_key at.before at.row at.later (subst (λ rs. IsDistinct bytes_eq (map key_of rs)) at.split are.once)
    (ap₂ (λ rs r. has_key rs (key_of r)) (sym same_before) (sym same) ∙ twice)

pub no_row_stops : (text : List ℕ) (number : ℕ) (line : List ℕ) (fault : HasNoRow text number line) → IsFault line fault.rows
no_row_stops text number line fault = inl fault.none

pub key_twice_stops : (text : List ℕ) (number : ℕ) (line : List ℕ) (fault : HasKeyTwice text number line) → IsFault line fault.rows
key_twice_stops text number line fault = inr (fault.row, fault.is, fault.twice)

-- the lines that have to be rows, up to one of them and behind it
pub spoken_at : (front : List (List ℕ)) (line : List ℕ) (behind : List (List ℕ)) → is_comment line ≡ false
    → spoken (front ++ line ∷ behind) ≡ spoken front ++ line ∷ spoken behind
spoken_at front line behind speaks =
    filter-append (λ l. not (is_comment l)) front (line ∷ behind)
    ∙ ap (λ b. spoken front ++ cond (not b) (line ∷ spoken behind) (spoken behind)) speaks

-- no line of rows stops the reading
pub reached_never : (text : List ℕ) (number : ℕ) (line : List ℕ) (rows before : List RowValue) → AreLinesOf (row_lines text) rows
    → (reaches : ReachesLine text number line before) → IsFault line before → ⊥
reached_never text number line rows before are reaches fault =
    never (spoken reaches.front) line (spoken reaches.behind) rows before
    (subst (λ ls. AreLinesOf ls rows) (ap spoken reaches.split ∙ spoken_at reaches.front line reaches.behind reaches.speaks) are) reaches.are fault

module _ (rows : List RowValue) (text : List ℕ) (lines : row_lines text ≡ map line_text rows) (all : AllByRecursion IsInOneLine rows)
    (once : IsDistinct bytes_eq (map key_of rows)) where
  abbrev rows_are : AreLinesOf (row_lines text) rows
  rows_are = record { each = subst (λ ls. AllZip IsLineOf ls rows) (sym lines) (are_lines rows all); once = once }

  -- no fault can be reported of it
  pub no_fault : (number : ℕ) (line : List ℕ) → (HasNoRow text number line ⊎ HasKeyTwice text number line) → ⊥
  no_fault number line (inl none) = reached_never text number line rows none.rows rows_are none.reaches (no_row_stops text number line none)
  no_fault number line (inr twice) = reached_never text number line rows twice.rows rows_are twice.reaches (key_twice_stops text number line twice)

  pub read_back : (result : Result (List RowValue) NotKnown) → IsReadAs text result → (result ≡ Ok rows) ⊎ (result ≡ Err Memory)
  read_back (Ok read) is =
      inl (ap Ok (same_rows (map line_text rows) read rows (subst (λ ls. AllZip IsLineOf ls read) lines is.each) (are_lines rows all)))
  read_back (Err (NoRow line)) is = absurd (no_fault line.number line.text.now (inl is))
  read_back (Err (Twice line)) is = absurd (no_fault line.number line.text.now (inr is))
  read_back (Err Memory) is = inr refl

-- ---- the whole file

pub rows_are_read_back : RowsAreReadBack
rows_are_read_back rows all once result is =
    read_back rows (file_text rows) (lines_are rows all) all once result is
