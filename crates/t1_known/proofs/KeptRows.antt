-- Rows that are found by their keys.
use Rattle.std.proofs.Common.{◌≡◌, ◌<◌, ◌+◌, ◌-◌, ◌^◌, ◌&&◌, ℕ, suc, Bool, min, drop, ◌≤◌, length-drop, slice_range, ap₂, append_assoc, length-append, unwrap_or, true, false, true≢false, List, [], ◌∷◌, ◌++◌, length, Option, None, Some, cond, is_some, inl, inr, refl, sym, ap, subst, ◌∙◌, arith}
use Rattle.std.proofs.lemmas.Bool.{and_parts, cases_Bool}
use Rattle.std.proofs.lemmas.List.{append_cancel_right, take_all}
use Rattle.std.specs.Borrow.{Bor}
use Rattle.std.specs.Map.{lookup}
use Rattle.std.specs.Option.{SomeIff}
use Rattle.std.specs.Str.{bytes_eq}
use Rattle.std.specs.Str.Parse.{digits_value}
use Rattle.t1_many.proofs.Rows.{one_row}
use Rattle.t1_many.proofs.Texts.{equal, itself}
use Rattle.t1_many.specs.KnownFaults.{IsKind, IsRow, RowValue, known_count, row_text}
use Rattle.t1_many.specs.RowValues.{row_value}
use Rattle.t1_many.specs.declared.row.Row.{Row}
use Rattle.t1_known.specs.Keys.{count_at, has_key, key_of, key_text}
use Rattle.t1_known.specs.Private.Kept.{AreKept, Entry, IsKept, IsKnownKey, KeepsLine, rows_now}
use Rattle.t1_known.specs.Reads.{IsLineOf}

-- the test of a key
abbrev pub is_key : List ℕ → Bor (List ℕ) → Bool
is_key key k = bytes_eq key k.now

-- What is found at a key is the first row of that key.
abbrev pub IsAtKey : List RowValue → List ℕ → Option Row → Type 0
IsAtKey rows key None = (count_at rows key ≡ 0) × (has_key rows key ≡ false)
IsAtKey rows key (Some row) = (count_at rows key ≡ digits_value 10 row.count.now) × (has_key rows key ≡ true) × IsRow (row_value row) × (key_of (row_value row) ≡ key)

pub at_key : (entries : List Entry) (key : List ℕ) → AreKept entries → IsAtKey (rows_now entries) key (lookup (is_key key) entries)
at_key [] key kept = (refl, refl)
at_key (e ∷ entries) key kept = elim (cases_Bool (bytes_eq key e.0.now)) [
  | inl same ↦
      let here : bytes_eq key (key_of (row_value e.1)) ≡ true = subst (λ t. bytes_eq key t ≡ true) kept.0.1 same in
      rw same (rw here refl, rw here refl, kept.0.0, sym (equal key (key_of (row_value e.1)) here))
  | inr other ↦
      let there : bytes_eq key (key_of (row_value e.1)) ≡ false = subst (λ t. bytes_eq key t ≡ false) kept.0.1 other in
      rw other (later (lookup (is_key key) entries) there (at_key entries key kept.1))
]
  where
    later : (o : Option Row) → bytes_eq key (key_of (row_value e.1)) ≡ false → IsAtKey (rows_now entries) key o
        → IsAtKey (row_value e.1 ∷ rows_now entries) key o
    later None there is = (rw there is.0, rw there is.1)
    later (Some row) there is = (rw there is.0, rw there is.1, is.2, is.3)

module _ (entries : List Entry) (key : List ℕ) (kept : AreKept entries) where
  found : (o : Option Row) → o ≡ lookup (is_key key) entries → IsAtKey (rows_now entries) key o
  found o is = subst (IsAtKey (rows_now entries) key) (sym is) (at_key entries key kept)

  pub found_row : (row : Row) → Some row ≡ lookup (is_key key) entries → IsAtKey (rows_now entries) key (Some row)
  found_row row is = found (Some row) is

  pub found_none : None ≡ lookup (is_key key) entries → IsAtKey (rows_now entries) key None
  found_none is = found None is

  pub contains : is_some (lookup (is_key key) entries) ≡ has_key (rows_now entries) key
  contains = go (lookup (is_key key) entries) (at_key entries key kept)
    where
      go : (o : Option Row) → IsAtKey (rows_now entries) key o → is_some o ≡ has_key (rows_now entries) key
      go None is = sym is.1
      go (Some row) is = sym is.1

-- ---- a line that becomes a row

lengths : (count rest : List ℕ) → drop (length count + 1) (count ++ (32 ∷ rest)) ≡ rest
lengths [] rest = refl
lengths (c ∷ count) rest = let more : length (c ∷ count) + 1 ≡ suc (length count + 1) = omega arith in rw more (lengths count rest)

module _ (line : List ℕ) (row : RowValue) (is : IsLineOf line row) where
  split : line ≡ row.count ++ (32 ∷ key_of row)
  split =
      let joined : row_text row ≡ (row.count ++ (32 ∷ key_of row)) ++ (10 ∷ []) =
      sym (append_assoc row.count (32 ∷ key_of row) (10 ∷ []) ∙ ap (λ t. row.count ++ (32 ∷ t)) (append_assoc row.kind (32 ∷ row.font) (10 ∷ []))) in
      append_cancel_right line (row.count ++ (32 ∷ key_of row)) (10 ∷ []) (sym is.1 ∙ joined)

  pub key_within : length row.count + 1 ≤ length line
  key_within = omega (arith, ap length split, length-append row.count (32 ∷ key_of row))

  pub key_cut : slice_range line (length row.count + 1) (length line) ≡ key_of row
  key_cut =
      take_all (length line - (length row.count + 1)) (drop (length row.count + 1) line) (omega (arith, length-drop (length row.count + 1) line))
      ∙ ap (drop (length row.count + 1)) split ∙ lengths row.count (key_of row)

pub known_key : (line : List ℕ) (entries : List Entry) (key : List ℕ) (row : Row) → AreKept entries → IsLineOf line (row_value row)
    → key ≡ key_of (row_value row) → is_some (lookup (is_key key) entries) ≡ true → IsKnownKey line (rows_now entries)
known_key line entries key row kept is same there =
    record {
      row = row_value row;
      is = is;
      twice = subst (λ k. has_key (rows_now entries) k ≡ true) same (sym (contains entries key kept) ∙ there);
    }

pub kept_line : (line : List ℕ) (old new : List Entry) (key : Bor (List ℕ)) (row : Row) → AreKept old → IsLineOf line (row_value row)
    → key.now ≡ key_of (row_value row) → is_some (lookup (is_key key.now) old) ≡ false → new ≡ old ++ (key, row) ∷ []
    → KeepsLine line old new
kept_line line old new key row kept is same out new_is =
    record {
      entry = (key, row);
      new_is = new_is;
      kept = (is.0, same);
      line_is = is;
      once = subst (λ k. has_key (rows_now old) k ≡ false) same (sym (contains old key.now kept) ∙ out);
    }

pub none_of : {X : Type 0} (o : Option X) → is_some o ≡ false → o ≡ None
none_of None e = refl
none_of (Some x) e = absurd (true≢false e)

-- ---- the kind and the font of a key

abbrev made : List ℕ → List ℕ → RowValue
made kind font = record { count = 48 ∷ []; kind = kind; font = font ++ 48 ∷ [] }

made_text : (kind font : List ℕ) → row_text (made kind font) ≡ 48 ∷ (32 ∷ ((key_text kind font ++ 48 ∷ []) ++ 10 ∷ []))
made_text kind font =
    sym (ap (λ t. 48 ∷ (32 ∷ t)) (ap (λ t. t ++ 10 ∷ []) (append_assoc kind (32 ∷ font) (48 ∷ [])) ∙ append_assoc kind ((32 ∷ font) ++ 48 ∷ []) (10 ∷ [])))

made_is : (kind font : List ℕ) → IsKind kind → IsRow (made kind font)
made_is kind font is = record { counts = omega arith; count = refl; kind = is; font = omega (arith, length-append font (48 ∷ [])) }

-- a key is that of one kind and one font
pub one_key : (kind font kind' font' : List ℕ) → IsKind kind → IsKind kind' → key_text kind font ≡ key_text kind' font'
    → (kind ≡ kind') × (font ≡ font')
one_key kind font kind' font' is is' same =
    let texts : row_text (made kind font) ≡ row_text (made kind' font') =
    made_text kind font ∙ ap (λ t. 48 ∷ (32 ∷ ((t ++ 48 ∷ []) ++ 10 ∷ []))) same ∙ sym (made_text kind' font') in
    let rows : made kind font ≡ made kind' font' = one_row (made kind font) (made kind' font') (made_is kind font is) (made_is kind' font' is') texts in
    (ap (λ (r : RowValue). r.kind) rows, append_cancel_right font font' (48 ∷ []) (ap (λ (r : RowValue). r.font) rows))

same_key : (row : RowValue) (kind font : List ℕ) → IsKind row.kind → IsKind kind
    → bytes_eq (key_text kind font) (key_of row) ≡ (bytes_eq row.font font && bytes_eq row.kind kind)
same_key row kind font is kind_is = elim (cases_Bool (bytes_eq (key_text kind font) (key_of row))) [
  | inl same ↦
      let parts = one_key kind font row.kind row.font kind_is is (equal (key_text kind font) (key_of row) same) in
      let fonts : bytes_eq row.font font ≡ true = subst (λ f. bytes_eq row.font f ≡ true) (sym parts.1) (itself row.font) in
      let kinds : bytes_eq row.kind kind ≡ true = subst (λ k. bytes_eq row.kind k ≡ true) (sym parts.0) (itself row.kind) in
      rw (same, fonts, kinds) refl
  | inr other ↦ elim (cases_Bool (bytes_eq row.font font && bytes_eq row.kind kind)) [
    | inl both ↦
        let parts = and_parts _ _ both in
        let fonts : row.font ≡ font = equal row.font font parts.0 in
        let kinds : row.kind ≡ kind = equal row.kind kind parts.1 in
        let keys : key_of row ≡ key_text kind font = ap₂ key_text kinds fonts in
        absurd (true≢false (sym (itself (key_text kind font)) ∙ ap (bytes_eq (key_text kind font)) (sym keys) ∙ other))
    | inr not_both ↦ rw (other, not_both) refl
  ]
]

-- what a key says is what is known of its kind and font
pub at_kind : (entries : List Entry) (kind font : List ℕ) → AreKept entries → IsKind kind
    → count_at (rows_now entries) (key_text kind font) ≡ known_count (rows_now entries) font kind
at_kind [] kind font kept is = refl
at_kind (e ∷ entries) kind font kept is =
    ap₂ (λ b n. cond b (digits_value 10 e.1.count.now) n) (same_key (row_value e.1) kind font kept.0.0.kind is) (at_kind entries kind font kept.1 is)

-- ---- a count

pub at_most : (n : ℕ) (o : Option ℕ) → SomeIff o (n < 2 ^ 64) n → unwrap_or o (2 ^ 64 - 1) ≡ min n (2 ^ 64 - 1)
at_most n None many = omega (arith, many)
at_most n (Some m) is = let few = is.0 in let same = is.1 in omega (arith, few, same)

-- an entry among those that are kept
pub kept_at : (entries before : List Entry) (entry : Entry) (behind : List Entry) → entries ≡ before ++ entry ∷ behind → AreKept entries → IsKept entry
kept_at entries before entry behind split kept = go before (subst AreKept split kept)
  where
    go : (es : List Entry) → AreKept (es ++ entry ∷ behind) → IsKept entry
    go [] all = all.0
    go (e ∷ es) all = go es all.1
