-- One statement more, and the value of all.
-- Each kind of statement changes its own part of the value, as an entry put at the end of the list that the part is looked up in.
use Rattle.std.proofs.Common.{◌≡◌, ◌+◌, ℕ, zero, suc, length, length-append, slice_index_or, Bool, true, false, cond, ◌||◌, Some, None, List, [], ◌∷◌, ◌++◌, map, refl, ap, sym, ◌∙◌, arith, nat_eq, nat_lt, count_by, set, inl, inr, flat_map, append_assoc}
use Rattle.std.specs.Option.{option_or, unwrap_or}
use Rattle.std.proofs.Math.Bool.{or-false}
use Rattle.std.proofs.lemmas.Grind.{common_steps, flat_map-append}
use Rattle.std.proofs.lemmas.List.{append-nil}
use Rattle.std.proofs.lemmas.List.Folds.{list_any-append}
use Rattle.std.proofs.lemmas.List.Sums.{sum_by-append}
use Rattle.std.proofs.lemmas.Bool.{cases_Bool}
use Rattle.std.proofs.lemmas.Bool.Decides.{nat_tests}
use Rattle.std.specs.List.{list_any}
use Rattle.t1_scan.specs.Texts.{Lexeme}
use Rattle.t1_font.specs.declared.encoding.Encoding.{Encoding}
use Rattle.t1_font.specs.declared.encoding.Encoding.TheVariants.{Absent}
use Rattle.t1_font.specs.declared.key.Key.{Key}
use Rattle.t1_font.specs.declared.key.Key.TheVariants.{FontType, PaintType, UniqueId, PrivateUniqueId, Password, MinFeature, LenIv, BlueValues, OtherBlues, FamilyBlues, FamilyOtherBlues, BlueScale, BlueShift, BlueFuzz, StdHw, StdVw, StemSnapH, StemSnapV, FontMatrix, FontBBox, Xuid, LanguageGroup}
use Rattle.t1_font.specs.Keys.{same_name, index_of, key_places}
use Rattle.t1_font.specs.Puts.{put, put_pair, twice_more}
use Rattle.t1_font.specs.PrivateText.{has_key}
use Rattle.t1_font.specs.Fonts.{Stated, Marks, FontValue, plain, encoding, code, bad_code, size, subr, glyph, plain_of, encoding_of, code_of, size_of, subr_of, glyph_of, is_encoding, is_bad_code, last_of, after_last, firsts, last_under, keys_of, table_of, repeats, twice_of, value_of, at_most_two, once_more, times_in}
use Rattle.t1_font.specs.Laws.Keys.{TwiceIsAgain}
use Rattle.t1_font.specs.Values.{value_of_entry, value_of_token}
use Rattle.t1_font.proofs.Tables.{IsExact, nat_exact, name_exact, any_firsts, firsts_one, tab_step}

-- The last of a list with one more.
last_more : {A : Type 0} (xs : List A) (x : A) → last_of (xs ++ x ∷ []) ≡ Some x
last_more [] x = refl
last_more (y ∷ ys) x = rw (last_more ys x) refl

-- What is after the last such, with one more.
pub after_one : {A : Type 0} (a : A → Bool) (xs : List A) (x : A) → after_last a (xs ++ x ∷ []) ≡ cond (a x) [] (after_last a xs ++ x ∷ [])
after_one a [] x = refl
after_one a (y ∷ ys) x =
    let ih = after_one a ys x in
    let any = list_any-append a ys (x ∷ []) in
    elim (cases_Bool (a x)) [
      | inl h ↦ (let i = rw h at ih in let n : list_any a (ys ++ x ∷ []) ≡ true =
          any ∙ (rw h (elim (list_any a ys) as (λ b. (b || true) ≡ true) [ true ↦ refl | false ↦ refl ])) in rw (h, n) i)
      | inr h ↦ (let i = rw h at ih in let n : list_any a (ys ++ x ∷ []) ≡ list_any a ys = any ∙ (rw h (or-false (list_any a ys))) in
          rw (h, n)
          (elim (list_any a ys) as (λ b. cond b (after_last a (ys ++ x ∷ [])) (cond (a y) (ys ++ x ∷ []) (y ∷ (ys ++ x ∷ []))) ≡ cond b (after_last a ys)
          (cond (a y) ys (y ∷ ys)) ++ x ∷ []) [
            | true ↦ i
            | false ↦ elim (a y) as (λ b. cond b (ys ++ x ∷ []) (y ∷ (ys ++ x ∷ [])) ≡ cond b ys (y ∷ ys) ++ x ∷ []) [ true ↦ refl | false ↦ refl ]
          ]))
    ]

module _ {K : Type 0} (eq : K → K → Bool) where
  -- What was set last, with one more.
  pub last_one : {V : Type 0} (j k : K) (v : V) (ps : List (K × V)) → last_under eq j (ps ++ (k, v) ∷ []) ≡ cond (eq j k) (Some v) (last_under eq j ps)
  last_one j k v [] = elim (eq j k) as (λ b. option_or None (cond b (Some v) None) ≡ cond b (Some v) None) [ true ↦ refl | false ↦ refl ]
  last_one j k v (p ∷ ps) =
      rw (last_one j k v ps)
      (elim (eq j k) as (λ b. option_or (cond b (Some v) (last_under eq j ps)) (cond (eq j p.0) (Some p.1) None) ≡ cond b (Some v)
      (option_or (last_under eq j ps) (cond (eq j p.0) (Some p.1) None))) [ true ↦ refl | false ↦ refl ])

  keys_one : {V : Type 0} (ps : List (K × V)) (k : K) (v : V) → keys_of (ps ++ (k, v) ∷ []) ≡ keys_of ps ++ k ∷ []
  keys_one [] k v = refl
  keys_one (p ∷ ps) k v = ap (λ ks. p.0 ∷ ks) (keys_one ps k v)

  keys_tab : {V : Type 0} (f : K → V) (k : K) (ns : List K) → list_any (λ (p : K × V). eq k p.0) (map (λ j. (j, f j)) ns) ≡ list_any (eq k) ns
  keys_tab f k [] = refl
  keys_tab f k (n ∷ ns) = ap (λ b. eq k n || b) (keys_tab f k ns)

  -- A table with one pair more.
  pub table_one : IsExact eq → {V : Type 0} (d : V) (ps : List (K × V)) (k : K) (v : V) → table_of eq d (ps ++ (k, v) ∷ []) ≡ put_pair eq (table_of eq d ps) k v
  table_one e d ps k v =
      rw (keys_one ps k v)
      (tab_step eq e (λ j. unwrap_or (last_under eq j ps) d) (λ j. unwrap_or (last_under eq j (ps ++ (k, v) ∷ [])) d) k v
      (λ j. ap (λ o. unwrap_or o d) (last_one j k v ps)
      ∙ elim (eq j k) as (λ b. unwrap_or (cond b (Some v) (last_under eq j ps)) d ≡ cond b v (unwrap_or (last_under eq j ps) d))
      [ true ↦ refl | false ↦ refl ])
      (keys_of ps))

  count_cons : (p : K → Bool) (x : K) (xs : List K) → count_by p (x ∷ xs) ≡ cond (p x) 1 0 + count_by p xs
  count_cons p x xs = grind (arith, common_steps, sum_by-append (λ x. cond (p x) 1 0) (x ∷ []) xs)

  -- One key more: it is there twice if it was there before.
  again_one : (before ks : List K) (k : K) → repeats eq before (ks ++ k ∷ []) ≡ repeats eq before ks ++ cond (list_any (eq k) (before ++ ks)) (k ∷ []) []
  again_one before [] k = rw (append-nil before) (append-nil (cond (list_any (eq k) before) (k ∷ []) []))
  again_one before (j ∷ ks) k =
      ap (λ xs. cond (list_any (eq j) before) (j ∷ []) [] ++ xs)
      (again_one (before ++ j ∷ []) ks k ∙ ap (λ xs. repeats eq (before ++ j ∷ []) ks ++ cond (list_any (eq k) xs) (k ∷ []) [])
      (append_assoc before (j ∷ []) ks))
      ∙ sym (append_assoc (cond (list_any (eq j) before) (j ∷ []) []) (repeats eq (before ++ j ∷ []) ks)
      (cond (list_any (eq k) (before ++ (j ∷ ks))) (k ∷ []) []))

  twice_one : IsExact eq → (ks : List K) (k : K) → twice_of eq (ks ++ k ∷ []) ≡ twice_more eq (twice_of eq ks) k (list_any (eq k) ks)
  twice_one e ks k =
      let all = repeats eq [] ks in
      ap (firsts eq) (again_one [] ks k)
      ∙ (elim (list_any (eq k) ks) as (λ b. firsts eq (all ++ cond b (k ∷ []) []) ≡ twice_more eq (firsts eq all) k b) [
        | true ↦ firsts_one eq e all k ∙ rw (any_firsts eq e k all) refl
        | false ↦ ap (firsts eq) (append-nil all)
      ])

  -- A key is there twice exactly where it appears twice or more.
  more_than : (b : Bool) (n : ℕ) → (b || cond (b || (true || false)) (nat_lt 0 n) (nat_lt 1 n)) ≡ cond b (nat_lt 0 (1 + n)) (nat_lt 1 (1 + n))
  more_than true n = sym (let one : nat_lt 0 (1 + n) ≡ true = grind (arith, nat_tests) in one)
  more_than false n = grind (arith, nat_tests)

  not_itself : (b : Bool) (j k : K) → eq k j ≡ false → list_any (eq k) (cond b (j ∷ []) []) ≡ false
  not_itself true j k h = rw h refl
  not_itself false j k h = refl

  itself : (b : Bool) (j k : K) → eq k j ≡ true → list_any (eq k) (cond b (j ∷ []) []) ≡ b
  itself true j k h = rw h refl
  itself false j k h = refl

  any_again : IsExact eq → (before ks : List K) (k : K) → list_any (eq k) (repeats eq before ks) ≡ cond (list_any (eq k) before) (nat_lt 0 (count_by (eq k) ks))
      (nat_lt 1 (count_by (eq k) ks))
  any_again e before [] k = elim (list_any (eq k) before) as (λ b. false ≡ cond b (nat_lt 0 0) (nat_lt 1 0)) [ true ↦ refl | false ↦ refl ]
  any_again e before (j ∷ ks) k =
      let here = cond (list_any (eq j) before) (j ∷ []) [] in
      list_any-append (eq k) here (repeats eq (before ++ j ∷ []) ks)
      ∙ (rw (any_again e (before ++ j ∷ []) ks k, list_any-append (eq k) before (j ∷ []), count_cons (eq k) j ks)
      (elim (cases_Bool (eq k j)) [
        | inl y ↦ (let s = e.exact k j y in
            let same : list_any (eq k) here ≡ list_any (eq k) before = itself (list_any (eq j) before) j k y ∙ ap (λ i. list_any (eq i) before) (sym s) in
            rw (same, y) (more_than (list_any (eq k) before) (count_by (eq k) ks)))
        | inr n ↦ (let none : list_any (eq k) here ≡ false = not_itself (list_any (eq j) before) j k n in
            let kept : 0 + count_by (eq k) ks ≡ count_by (eq k) ks = omega arith in
            rw (none, n, or-false (list_any (eq k) before), kept) refl)
      ]))

  pub any_twice : IsExact eq → (ks : List K) (k : K) → list_any (eq k) (twice_of eq ks) ≡ nat_lt 1 (count_by (eq k) ks)
  any_twice e ks k = any_firsts eq e k (repeats eq [] ks) ∙ any_again e [] ks k

  -- A table has the keys that its pairs have.
  pub has_table : IsExact eq → {V : Type 0} (d : V) (ps : List (K × V)) (k : K) → has_key eq (table_of eq d ps) k ≡ list_any (eq k) (keys_of ps)
  has_table e d ps k = keys_tab (λ j. unwrap_or (last_under eq j ps) d) k (firsts eq (keys_of ps)) ∙ any_firsts eq e k (keys_of ps)

  -- What is twice in a table with one pair more.
  pub twice_step : IsExact eq → {V : Type 0} (d : V) (ps : List (K × V)) (k : K) (v : V) → twice_of eq (keys_of (ps ++ (k, v) ∷ [])) ≡ twice_more eq
      (twice_of eq (keys_of ps)) k (has_key eq (table_of eq d ps) k)
  twice_step e d ps k v =
      ap (twice_of eq) (keys_one ps k v) ∙ twice_one e (keys_of ps) k
      ∙ ap (twice_more eq (twice_of eq (keys_of ps)) k) (sym (has_table e d ps k))

-- How often, with one more.
twice_enough : (n : ℕ) → once_more (at_most_two n) ≡ at_most_two (suc n)
twice_enough zero = refl
twice_enough (suc zero) = refl
twice_enough (suc (suc n)) = refl

one_form : (forms : List Encoding) (form : Encoding) → at_most_two (length (forms ++ form ∷ [])) ≡ once_more (at_most_two (length forms))
one_form forms form =
    let longer : length (forms ++ form ∷ []) ≡ suc (length forms) = omega (arith, length-append forms (form ∷ [])) in
    rw longer (sym (twice_enough (length forms)))

times_more : (j k : ℕ) (ks : List ℕ) → times_in (ks ++ k ∷ []) j ≡ cond (nat_eq j k) (once_more (times_in ks j)) (times_in ks j)
times_more j k ks = go (nat_eq j k) (sum_by-append (λ x. cond (nat_eq j x) 1 0) ks (k ∷ []))
  where
    go : (b : Bool) → count_by (nat_eq j) (ks ++ k ∷ []) ≡ count_by (nat_eq j) ks + (0 + cond b 1 0)
        → times_in (ks ++ k ∷ []) j ≡ cond b (once_more (times_in ks j)) (times_in ks j)
    go true is =
        let more : count_by (nat_eq j) (ks ++ k ∷ []) ≡ suc (count_by (nat_eq j) ks) = omega (arith, is) in
        rw more (sym (twice_enough (count_by (nat_eq j) ks)))
    go false is =
        let same : count_by (nat_eq j) (ks ++ k ∷ []) ≡ count_by (nat_eq j) ks = omega (arith, is) in
        rw same refl

fm_one : {A : Type 0} (f : Stated → List A) (es : List Stated) (e : Stated) → flat_map f (es ++ e ∷ []) ≡ flat_map f es ++ f e
fm_one f es e = flat_map-append f es (e ∷ []) ∙ ap (λ xs. flat_map f es ++ xs) (let one : flat_map f (e ∷ []) ≡ f e = grind (arith, common_steps) in one)

-- The value by what each kind of statement says.
abbrev pub value_from : Marks → List (ℕ × Lexeme) → List Encoding → List (ℕ × List ℕ) → Bool → List ℕ → List (ℕ × List ℕ) → List (List ℕ × List ℕ) → FontValue
value_from marks plains forms codes bad sizes subrs glyphs = record {
  plain = map (λ k. value_of_entry (last_under nat_eq k plains)) key_places;
  encoding = unwrap_or (last_of forms) Absent;
  codes = table_of nat_eq [] codes;
  bad_code = bad;
  size = last_of sizes;
  subrs = table_of nat_eq [] subrs;
  subrs_twice = twice_of nat_eq (keys_of subrs);
  glyphs = table_of same_name [] glyphs;
  glyphs_twice = twice_of same_name (keys_of glyphs);
  no_end = marks.no_end;
  extra = marks.extra;
  key_times = map (times_in (keys_of plains)) key_places;
  encoding_times = at_most_two (length forms);
  clear_text = [];
  private_text = [];
}

module _ (marks : Marks) (es : List Stated) where
  more : (e : Stated) → is_encoding e ≡ false →
      value_of marks (es ++ e ∷ []) ≡ value_from marks
      (flat_map plain_of es ++ plain_of e) (flat_map encoding_of es ++ encoding_of e)
      (flat_map code_of (after_last is_encoding es) ++ code_of e)
      (list_any is_bad_code (after_last is_encoding es) || is_bad_code e)
      (flat_map size_of es ++ size_of e) (flat_map subr_of es ++ subr_of e) (flat_map glyph_of es ++ glyph_of e)
  unfolding value_of
  more e h =
      let front = after_last is_encoding es in
      let after : after_last is_encoding (es ++ e ∷ []) ≡ front ++ e ∷ [] = after_one is_encoding es e ∙ (rw h refl) in
      let bad : list_any is_bad_code (front ++ e ∷ []) ≡ (list_any is_bad_code front || is_bad_code e) = list_any-append is_bad_code front (e ∷ [])
      ∙ ap (λ b. list_any is_bad_code front || b) (or-false (is_bad_code e)) in
      rw (
        after,
        bad,
        fm_one plain_of es e,
        fm_one encoding_of es e,
        fm_one code_of front e,
        fm_one size_of es e,
        fm_one subr_of
            es e,
        fm_one glyph_of es e,
      ) refl

  new_form : (form : Encoding) →
      value_of marks (es ++ encoding form ∷ []) ≡ value_from marks
      (flat_map plain_of es ++ []) (flat_map encoding_of es ++ form ∷ []) [] false
      (flat_map size_of es ++ []) (flat_map subr_of es ++ []) (flat_map glyph_of es ++ [])
  unfolding value_of
  new_form form =
      let e = encoding form in
      let after : after_last is_encoding (es ++ e ∷ []) ≡ [] = after_one is_encoding es e in
      rw (after, fm_one plain_of es e, fm_one encoding_of es e, fm_one size_of es e, fm_one subr_of es e, fm_one glyph_of es e) refl

  placed : (k : Key) (t : Lexeme) → map (λ j. value_of_entry (last_under nat_eq j (flat_map plain_of es ++ (index_of k, t) ∷ []))) key_places
      ≡ set (map (λ j. value_of_entry (last_under nat_eq j (flat_map plain_of es))) key_places) (index_of k) (value_of_token t)
  placed FontType t = simp last_one
  placed PaintType t = simp last_one
  placed UniqueId t = simp last_one
  placed PrivateUniqueId t = simp last_one
  placed Password t = simp last_one
  placed MinFeature t = simp last_one
  placed LenIv t = simp last_one
  placed BlueValues t = simp last_one
  placed OtherBlues t = simp last_one
  placed FamilyBlues t = simp last_one
  placed FamilyOtherBlues t = simp last_one
  placed BlueScale t = simp last_one
  placed BlueShift t = simp last_one
  placed BlueFuzz t = simp last_one
  placed StdHw t = simp last_one
  placed StdVw t = simp last_one
  placed StemSnapH t = simp last_one
  placed StemSnapV t = simp last_one
  placed FontMatrix t = simp last_one
  placed FontBBox t = simp last_one
  placed Xuid t = simp last_one
  placed LanguageGroup t = simp last_one

  counted : (k : Key) (t : Lexeme) → map (times_in (keys_of (flat_map plain_of es ++ (index_of k, t) ∷ []))) key_places
      ≡ set (map (times_in (keys_of (flat_map plain_of es))) key_places) (index_of k)
      (once_more (slice_index_or (map (times_in (keys_of (flat_map plain_of es))) key_places) (index_of k) 0))
  counted FontType t = simp (keys_one nat_eq, times_more)
  counted PaintType t = simp (keys_one nat_eq, times_more)
  counted UniqueId t = simp (keys_one nat_eq, times_more)
  counted PrivateUniqueId t = simp (keys_one nat_eq, times_more)
  counted Password t = simp (keys_one nat_eq, times_more)
  counted MinFeature t = simp (keys_one nat_eq, times_more)
  counted LenIv t = simp (keys_one nat_eq, times_more)
  counted BlueValues t = simp (keys_one nat_eq, times_more)
  counted OtherBlues t = simp (keys_one nat_eq, times_more)
  counted FamilyBlues t = simp (keys_one nat_eq, times_more)
  counted FamilyOtherBlues t = simp (keys_one nat_eq, times_more)
  counted BlueScale t = simp (keys_one nat_eq, times_more)
  counted BlueShift t = simp (keys_one nat_eq, times_more)
  counted BlueFuzz t = simp (keys_one nat_eq, times_more)
  counted StdHw t = simp (keys_one nat_eq, times_more)
  counted StdVw t = simp (keys_one nat_eq, times_more)
  counted StemSnapH t = simp (keys_one nat_eq, times_more)
  counted StemSnapV t = simp (keys_one nat_eq, times_more)
  counted FontMatrix t = simp (keys_one nat_eq, times_more)
  counted FontBBox t = simp (keys_one nat_eq, times_more)
  counted Xuid t = simp (keys_one nat_eq, times_more)
  counted LanguageGroup t = simp (keys_one nat_eq, times_more)

  -- What one statement more changes.
  pub value_step : (e : Stated) → value_of marks (es ++ e ∷ []) ≡ put (value_of marks es) e
  unfolding value_of
  value_step (plain k t) = more (plain k t) refl ∙ simp (append-nil, or-false, placed k t, counted k t)
  value_step (encoding form) = new_form form ∙ simp (append-nil, last_more, one_form)
  value_step (code n name) = more (code n name) refl ∙ simp (append-nil, or-false, table_one nat_eq nat_exact)
  value_step bad_code = more bad_code refl
      ∙ simp append-nil (ap (λ b. record (value_of marks es) { bad_code = b })
      (let e : (list_any is_bad_code (after_last is_encoding es) || true) ≡ true = elim (list_any is_bad_code (after_last is_encoding es)) as
      (λ b. (b || true) ≡ true) [ true ↦ refl | false ↦ refl ] in e))
  value_step (size n) = more (size n) refl ∙ simp (append-nil, or-false, last_more)
  value_step (subr n bytes) =
      let pairs = table_one nat_eq nat_exact [] (flat_map subr_of es) n bytes in
      let flags = twice_step nat_eq nat_exact [] (flat_map subr_of es) n bytes in
      more (subr n bytes) refl ∙ simp (append-nil, or-false) (rw (pairs, flags) refl)
  value_step (glyph name bytes) =
      let pairs = table_one same_name name_exact [] (flat_map glyph_of es) name bytes in
      let flags = twice_step same_name name_exact [] (flat_map glyph_of es) name bytes in
      more (glyph name bytes) refl ∙ simp (append-nil, or-false) (rw (pairs, flags) refl)

pub twice_is_again : TwiceIsAgain
unfolding value_of
twice_is_again marks es = (any_twice nat_eq nat_exact (keys_of (flat_map subr_of es)), any_twice same_name name_exact (keys_of (flat_map glyph_of es)))
