-- Lines that were read.
use Rattle.std.proofs.Common.{◌≡◌, ◌<◌, ◌≤◌, ◌+◌, ◌||◌, ℕ, Bool, true, false, true≢false, not, List, [], ◌∷◌, ◌++◌, length, map, Err, cond, refl, sym, ap, subst, ◌∙◌, arith, append_assoc, append-nil, length-append}
use Rattle.std.proofs.lemmas.List.{map-append}
use Rattle.std.proofs.lemmas.List.Elements.{filter-append}
use Rattle.std.specs.List.{AllByRecursion, AllZip, IsDistinct}
use Rattle.std.specs.Str.{bytes_eq}
use Rattle.t1_many.proofs.Texts.{apart}
use Rattle.t1_many.specs.KnownFaults.{RowValue}
use Rattle.t1_many.specs.RowValues.{IsNoRow, row_value}
use Rattle.t1_known.specs.Keys.{has_key, key_of}
use Rattle.t1_known.specs.Lines.{is_comment, lines_of, row_lines, spoken}
use Rattle.t1_known.specs.Private.Kept.{Adds, AreKept, Entry, IsKept, IsKnownKey, KeepsLine, rows_now}
use Rattle.t1_known.specs.Reads.{AreLinesOf, HasKeyTwice, HasNoRow, IsLineOf, IsReadAs, ReachesLine}
use Rattle.t1_known.specs.declared.known.Line.{Line}
use Rattle.t1_known.specs.declared.known.NotKnown.{NotKnown}
use Rattle.t1_known.specs.declared.known.NotKnown.TheVariants.{Memory, NoRow, Twice}

-- Of the lines before the rest of a text, so many, those that have to be rows are the rows that are kept.
pub record HasRead (text : List ℕ) (number : ℕ) (rest : List ℕ) (entries : List Entry) : Type 0 where
  pub front : List (List ℕ)
  pub split : lines_of text ≡ front ++ lines_of rest
  pub number_is : number ≡ length front
  pub few : number + length rest ≤ length text
  pub are : AreLinesOf (spoken front) (rows_now entries)
  pub kept : AreKept entries

pub none_read : (text : List ℕ) (entries : List Entry) → entries ≡ [] → HasRead text 0 text entries
unfolding IsDistinct
none_read text entries none = subst (λ es. HasRead text 0 text es) (sym none) (record {
  front = [];
  split = refl;
  number_is = refl;
  few = omega arith;
  are = record { each = tt; once = tt };
  kept = tt;
})

-- ---- one line more

zip-push : (lines : List (List ℕ)) (rows : List RowValue) (line : List ℕ) (row : RowValue) → AllZip IsLineOf lines rows → IsLineOf line row
    → AllZip IsLineOf (lines ++ line ∷ []) (rows ++ row ∷ [])
zip-push [] [] line row each is = (is, tt)
zip-push [] (r ∷ rows) line row each is = absurd each
zip-push (l ∷ lines) [] line row each is = absurd each
zip-push (l ∷ lines) (r ∷ rows) line row each is = (each.0, zip-push lines rows line row each.1 is)

unlike-push : (a key : List ℕ) (keys : List (List ℕ)) → AllByRecursion (λ b. bytes_eq a b ≡ false) keys → bytes_eq a key ≡ false
    → AllByRecursion (λ b. bytes_eq a b ≡ false) (keys ++ key ∷ [])
unlike-push a key [] all is = (is, tt)
unlike-push a key (b ∷ keys) all is = (all.0, unlike-push a key keys all.1 is)

distinct-push : (rows : List RowValue) (row : RowValue) → IsDistinct bytes_eq (map key_of rows) → has_key rows (key_of row) ≡ false
    → IsDistinct bytes_eq (map key_of (rows ++ row ∷ []))
unfolding IsDistinct
distinct-push [] row once new = (tt, tt)
distinct-push (r ∷ rows) row once new =
    let parts = neither (bytes_eq (key_of row) (key_of r)) (has_key rows (key_of row)) new in
    let keys : map key_of (rows ++ row ∷ []) ≡ map key_of rows ++ key_of row ∷ [] = map-append key_of rows (row ∷ []) in (
      subst (λ ks. AllByRecursion (λ b. bytes_eq (key_of r) b ≡ false) ks) (sym keys)
          (unlike-push (key_of r) (key_of row) (map key_of rows) once.0 (apart (key_of row) (key_of r) parts.0)),
      distinct-push rows row once.1 parts.1,
    )
  where
    neither : (a b : Bool) → (a || b) ≡ false → (a ≡ false) × (b ≡ false)
    neither true b e = absurd (true≢false e)
    neither false b e = (refl, e)

kept-push : (entries : List Entry) (entry : Entry) → AreKept entries → IsKept entry → AreKept (entries ++ entry ∷ [])
kept-push [] entry kept is = (is, tt)
kept-push (e ∷ entries) entry kept is = (kept.0, kept-push entries entry kept.1 is)

-- one line more before what follows
spoken-push : (front : List (List ℕ)) (line : List ℕ) (b : Bool) → is_comment line ≡ b
    → spoken (front ++ line ∷ []) ≡ spoken front ++ cond (not b) (line ∷ []) []
spoken-push front line b is =
    filter-append (λ l. not (is_comment l)) front (line ∷ []) ∙ ap (λ c. spoken front ++ cond (not c) (line ∷ []) []) is

module _ (text : List ℕ) (number : ℕ) (rest line behind : List ℕ) (entries : List Entry) (cut : lines_of rest ≡ line ∷ lines_of behind)
    (less : length behind < length rest) (have : HasRead text number rest entries) where
  here : lines_of text ≡ have.front ++ line ∷ lines_of behind
  here = have.split ∙ ap (λ lines. have.front ++ lines) cut

  one_more : (new : List Entry) → AreLinesOf (spoken (have.front ++ line ∷ [])) (rows_now new) → AreKept new → HasRead text (number + 1) behind new
  one_more new are kept = record {
    front = have.front ++ line ∷ [];
    split = here ∙ sym (append_assoc have.front (line ∷ []) (lines_of behind));
    number_is = let before = have.number_is in omega (arith, before, length-append have.front (line ∷ []));
    few = let before = have.few in omega (arith, before, less);
    are = are;
    kept = kept;
  }

  -- a line that begins with `#`
  pub comment_read : is_comment line ≡ true → HasRead text (number + 1) behind entries
  comment_read is =
      one_more entries
      (subst (λ lines. AreLinesOf lines (rows_now entries)) (sym (spoken-push have.front line true is ∙ append-nil (spoken have.front))) have.are) have.kept

  module _ (is_row : is_comment line ≡ false) where
    reaches : ReachesLine text (number + 1) line (rows_now entries)
    reaches = record {
      front = have.front;
      behind = lines_of behind;
      split = here;
      number_is = ap (λ n. n + 1) have.number_is;
      speaks = is_row;
      are = have.are;
    }

    -- the line of a row
    pub row_kept : (new : List Entry) → KeepsLine line entries new → HasRead text (number + 1) behind new
    row_kept new keeps =
        let rows : rows_now (entries ++ keeps.entry ∷ []) ≡ rows_now entries ++ row_value keeps.entry.1 ∷ [] =
        map-append (λ (e : Entry). row_value e.1) entries (keeps.entry ∷ []) in
        subst (λ es. HasRead text (number + 1) behind es) (sym keeps.new_is)
        (one_more (entries ++ keeps.entry ∷ [])
        (subst (λ lines. AreLinesOf lines (rows_now (entries ++ keeps.entry ∷ []))) (sym (spoken-push have.front line false is_row))
        (subst (AreLinesOf (spoken have.front ++ line ∷ [])) (sym rows) (record {
          each = zip-push (spoken have.front) (rows_now entries) line (row_value keeps.entry.1) have.are.each keeps.line_is;
          once = distinct-push (rows_now entries) (row_value keeps.entry.1) have.are.once keeps.once;
        })))
        (kept-push entries keeps.entry have.kept keeps.kept))

    pub no_row : IsNoRow line → HasNoRow text (number + 1) line
    no_row none = record { rows = rows_now entries; reaches = reaches; none = none }

    pub key_twice : IsKnownKey line (rows_now entries) → HasKeyTwice text (number + 1) line
    key_twice known = record { rows = rows_now entries; reaches = reaches; row = known.row; is = known.is; twice = known.twice }

-- a line that stops the reading
pub line_failed : (text : List ℕ) (number : ℕ) (rest : List ℕ) (line : Line) (behind : List ℕ) (old new : List Entry) (e : NotKnown)
    → line.number ≡ number + 1 → lines_of rest ≡ line.text.now ∷ lines_of behind → length behind < length rest → HasRead text number rest old
    → is_comment line.text.now ≡ false → Adds line old new (Err e) → IsReadAs text (Err e)
line_failed text number rest line behind old new (NoRow at) numbered cut less have is_row is =
    subst (λ (l : Line). HasNoRow text l.number l.text.now) (sym is.0)
    (subst (λ n. HasNoRow text n line.text.now) (sym numbered) (no_row text number rest line.text.now behind old cut less have is_row is.1))
line_failed text number rest line behind old new (Twice at) numbered cut less have is_row is =
    subst (λ (l : Line). HasKeyTwice text l.number l.text.now) (sym is.0)
    (subst (λ n. HasKeyTwice text n line.text.now) (sym numbered) (key_twice text number rest line.text.now behind old cut less have is_row is.1))
line_failed text number rest line behind old new Memory numbered cut less have is_row is = tt

-- all lines
pub all_read : (text : List ℕ) (number : ℕ) (rest : List ℕ) (entries : List Entry) → rest ≡ [] → HasRead text number rest entries
    → AreLinesOf (row_lines text) (rows_now entries)
all_read text number rest entries end have =
    subst (λ lines. AreLinesOf (spoken lines) (rows_now entries))
    (sym (have.split ∙ ap (λ r. have.front ++ lines_of r) end ∙ append-nil have.front)) have.are
