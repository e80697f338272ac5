-- Where braces and brackets are paired, the text nests them.
use Rattle.std.proofs.Common.{◌≡◌, ◌+◌, ◌-◌, ◌==◌, ◌<◌, ◌≤◌, ℕ, zero, suc, Bool, true, false, not, if◌then◌else◌, nat_lt, Option, Some, None, List, [], ◌∷◌, ◌++◌, length, drop, take, refl, sym, ap, subst, ◌∙◌, ◌⊎◌, inl, inr, arith, length-append, length-drop, append_assoc}
use Rattle.std.proofs.lemmas.Bool.{and_from, cases_Bool}
use Rattle.std.proofs.lemmas.Bool.Decides.{nat_tests}
use Rattle.std.proofs.lemmas.List.{take-append-drop, take_all}
use Rattle.std.proofs.lemmas.List.Sums.{prefix_len-le-length}
use Rattle.std.specs.Bool.{then_some}
use Rattle.std.specs.List.{list_all}
use Rattle.t1_scan.specs.Bytes.{is_line_end}
use Rattle.t1_scan.specs.Lengths.{comment_len, string_len, angle_len}
use Rattle.t1_scan.specs.Spelling.{Part, byte, comment, string, hexadecimal, double_angle, part_text, letters_text, is_not_angle}
use Rattle.t1_scan.proofs.PartsFound.{part_40, part_60, not_false, not_angle, no_angle, angle_other, list_cases}
use Rattle.t1_scan.proofs.Prefixes.{prefix_all, prefix_stops}
use Rattle.t1_scan.proofs.StringsFound.{is_byte, none_some, further_some, has_letters, has_hexadecimal}
use Rattle.t1_words.specs.Pairs.{closed, holds, is_none_open, open_after, pairs, skipped_len}
use Rattle.t1_words.specs.Nested.{Paired, nothing, part, double_close, braces, brackets, paired_text, is_plain_part, has_plain_parts, paired_depth, is_last_comment, IsNested}
use Rattle.t1_words.proofs.PairsRead.{single, pairs_first, part_read, closed_last, angles_read, comment_step, end_read}

-- What a test that holds says of what is there.
holds_some : {A : Type 0} (test : A → Bool) (o : Option A) → holds test o ≡ true → (x : A) × (o ≡ Some x) × (test x ≡ true)
holds_some test None h = cc
holds_some test (Some x) h = (x, refl, h)

kept_some : {A : Type 0} (b : Bool) (x y : A) → then_some b x ≡ Some y → (b ≡ true) × (x ≡ y)
kept_some true x y h = (refl, cc)
kept_some false x y h = cc

-- What a byte opens or closes, and what is skipped with it.
record IsStepped (o : List ℕ) (b : ℕ) (s : List ℕ) : Type 0 where
  left : List ℕ
  len : ℕ
  opens : open_after b o ≡ Some left
  skips : skipped_len b s ≡ Some len
  goes : pairs (len - 1) left s ≡ true

stepped : (o : List ℕ) (b : ℕ) (s : List ℕ) → pairs 0 o (b ∷ s) ≡ true → IsStepped o b s
stepped o b s e =
    let x = holds_some (λ left. holds (λ n. pairs (n - 1) left s) (skipped_len b s)) (open_after b o) (sym (pairs_first o b s) ∙ e) in
    let y = holds_some (λ n. pairs (n - 1) x.0 s) (skipped_len b s) x.2 in
    record { left = x.0; len = y.0; opens = x.1; skips = y.1; goes = y.2 }

-- A bracket, which is one byte.
single_goes : {o : List ℕ} {b : ℕ} {s : List ℕ} (x : IsStepped o b s) → skipped_len b s ≡ Some 1 → pairs 0 x.left s ≡ true
single_goes {s = s} x one =
    let same : x.len ≡ 1 = (let skips = x.skips in cc) in
    ap (λ n. pairs (n - 1) x.left s) (sym same) ∙ x.goes

-- What begins with a part that is skipped whole.
record HasPart (s : List ℕ) : Type 0 where
  part : Part
  rest : List ℕ
  plain : is_plain_part part ≡ true
  whole : s ≡ part_text part ++ rest

string_part : (s : List ℕ) (m : ℕ) → string_len false 1 s ≡ Some m → HasPart (40 ∷ s)
string_part s m e =
    let l = has_letters (length s) 0 s m (omega arith) e in
    record {
      part = string l.letters;
      rest = l.rest;
      plain = l.plain;
      whole = ap (λ t. 40 ∷ t) (l.whole ∙ sym (append_assoc (letters_text l.letters) (41 ∷ []) l.rest));
    }

angle_part : (s : List ℕ) (m : ℕ) → angle_len s ≡ Some m → HasPart (60 ∷ s)
angle_part [] m e = absurd (none_some no_angle e)
angle_part (c ∷ t) m e =
    elim (cases_Bool (c == 60)) [
      | inl h ↦ record { part = double_angle; rest = t; plain = refl; whole = ap (λ x. 60 ∷ x ∷ t) (is_byte c 60 h) }
      | inr h ↦
          (let x = has_hexadecimal (c ∷ t) m (sym (angle_other c t h) ∙ e) in
          record {
            part = hexadecimal x.bytes;
            rest = x.rest;
            plain = and_from (is_not_angle x.bytes) (list_all (λ b. not (b == 62)) x.bytes) (not_angle c t x.bytes x.rest x.whole h) x.plain;
            whole = ap (λ u. 60 ∷ u) (x.whole ∙ sym (append_assoc x.bytes (62 ∷ []) x.rest));
          })
    ]

comment_part : (s : List ℕ) (b : ℕ) (u : List ℕ) → drop (comment_len s) s ≡ b ∷ u → HasPart (37 ∷ s)
comment_part s b u h =
    let p : ℕ → Bool = λ c. not (is_line_end c) in
    let front = take (comment_len s) s in
    let ends = prefix_stops p s b u h in
    record {
      part = comment front b;
      rest = u;
      plain = and_from (list_all p front) (is_line_end b) (prefix_all p s) (not_false (is_line_end b) ends);
      whole = ap (λ t. 37 ∷ t) (sym (take-append-drop (comment_len s) s) ∙ ap (λ t. front ++ t) h ∙ sym (append_assoc front (b ∷ []) u));
    }

-- The partner of a bracket.
abbrev partner : ℕ → ℕ
partner b = if b == 123 then 125 else 93

-- What is left ends the text.
record IsLast (o rest : List ℕ) : Type 0 where
  none : o ≡ []
  last : is_last_comment rest ≡ true

-- What is left closes the innermost open bracket.
record IsClosing (o rest : List ℕ) : Type 0 where
  bracket : ℕ
  outer : List ℕ
  after : List ℕ
  closes : closed bracket o ≡ Some outer
  whole : rest ≡ partner bracket ∷ after
  goes : pairs 0 outer after ≡ true

-- What is nested up to there.
record HasNested (o s : List ℕ) : Type 0 where
  tree : Paired
  rest : List ℕ
  plain : has_plain_parts tree ≡ true
  shallow : length o + paired_depth tree ≤ 32
  whole : s ≡ paired_text tree ++ rest
  ends : IsLast o rest ⊎ IsClosing o rest

-- In shorter texts it is found.
abbrev Finds : ℕ → Type 0
Finds n = (o s : List ℕ) → length s ≤ n → length o ≤ 32 → pairs 0 o s ≡ true → HasNested o s

fits_more : (o : List ℕ) (b : ℕ) → nat_lt (length o) 32 ≡ true → length (o ++ b ∷ []) ≤ 32
fits_more o b h =
    let fits : length o < 32 = grind (arith, nat_tests) in
    omega (arith, length-append o (b ∷ []))

-- The bracket that is closed was the one that opened.
same_bracket : (a : ℕ) (o rest : List ℕ) (c : IsClosing (o ++ a ∷ []) rest) → (a ≡ c.bracket) × (o ≡ c.outer)
same_bracket a o rest c =
    let k = kept_some (a == c.bracket) o c.outer (sym (closed_last c.bracket a o) ∙ c.closes) in
    (is_byte a c.bracket k.0, k.1)

closes_with : (a : ℕ) (o rest : List ℕ) (c : IsClosing (o ++ a ∷ []) rest) → rest ≡ partner a ∷ c.after
closes_with a o rest c = c.whole ∙ ap (λ b. partner b ∷ c.after) (sym (same_bracket a o rest c).0)

goes_with : (a : ℕ) (o rest : List ℕ) (c : IsClosing (o ++ a ∷ []) rest) → pairs 0 o c.after ≡ true
goes_with a o rest c = ap (λ l. pairs 0 l c.after) (same_bracket a o rest c).1 ∙ c.goes

-- What follows a closed bracket is shorter.
shorter : (a : ℕ) (o t : List ℕ) (x : HasNested (o ++ a ∷ []) t) (c : IsClosing (o ++ a ∷ []) x.rest) → length c.after < length t
shorter a o t x c =
    let rest = ap length (closes_with a o x.rest c) in
    let all = ap length x.whole in
    omega (arith, length-append (paired_text x.tree) x.rest)

not_last : (a : ℕ) (o rest : List ℕ) → IsLast (o ++ a ∷ []) rest → ⊥
not_last a o rest h =
    let none = ap length h.none in
    omega (arith, length-append o (a ∷ []))

with_braces : (o t : List ℕ) (x : HasNested (o ++ 123 ∷ []) t) (c : IsClosing (o ++ 123 ∷ []) x.rest) → HasNested o c.after → HasNested o (123 ∷ t)
with_braces o t x c more = record {
  tree = braces x.tree more.tree;
  rest = more.rest;
  plain = and_from (has_plain_parts x.tree) (has_plain_parts more.tree) x.plain more.plain;
  shallow = omega (arith, x.shallow, more.shallow, length-append o (123 ∷ []));
  whole =
      ap (λ u. 123 ∷ u) (x.whole ∙ ap (λ r. paired_text x.tree ++ r) (closes_with 123 o x.rest c ∙ ap (λ u. 125 ∷ u) more.whole)
      ∙ sym (append_assoc (paired_text x.tree) (125 ∷ paired_text more.tree) more.rest));
  ends = more.ends;
}

with_brackets : (o t : List ℕ) (x : HasNested (o ++ 91 ∷ []) t) (c : IsClosing (o ++ 91 ∷ []) x.rest) → HasNested o c.after → HasNested o (91 ∷ t)
with_brackets o t x c more = record {
  tree = brackets x.tree more.tree;
  rest = more.rest;
  plain = and_from (has_plain_parts x.tree) (has_plain_parts more.tree) x.plain more.plain;
  shallow = omega (arith, x.shallow, more.shallow, length-append o (91 ∷ []));
  whole =
      ap (λ u. 91 ∷ u) (x.whole ∙ ap (λ r. paired_text x.tree ++ r) (closes_with 91 o x.rest c ∙ ap (λ u. 93 ∷ u) more.whole)
      ∙ sym (append_assoc (paired_text x.tree) (93 ∷ paired_text more.tree) more.rest));
  ends = more.ends;
}

found_brace : (n : ℕ) (o t : List ℕ) → Finds n → length t ≤ n → length o ≤ 32 → pairs 0 o (123 ∷ t) ≡ true → HasNested o (123 ∷ t)
found_brace n o t again room deep e =
    let x = stepped o 123 t e in
    let k = kept_some (nat_lt (length o) 32) (o ++ 123 ∷ []) x.left x.opens in
    let goes : pairs 0 (o ++ 123 ∷ []) t ≡ true = ap (λ l. pairs 0 l t) k.1 ∙ single_goes x (single 123 t refl refl refl refl refl) in
    let inner = again (o ++ 123 ∷ []) t room (fits_more o 123 k.0) goes in
    elim inner.ends [
      | inl h ↦ absurd (not_last 123 o inner.rest h)
      | inr c ↦
          (let less = shorter 123 o t inner c in
          with_braces o t inner c (again o c.after (omega arith) deep (goes_with 123 o inner.rest c)))
    ]

found_bracket : (n : ℕ) (o t : List ℕ) → Finds n → length t ≤ n → length o ≤ 32 → pairs 0 o (91 ∷ t) ≡ true → HasNested o (91 ∷ t)
found_bracket n o t again room deep e =
    let x = stepped o 91 t e in
    let k = kept_some (nat_lt (length o) 32) (o ++ 91 ∷ []) x.left x.opens in
    let goes : pairs 0 (o ++ 91 ∷ []) t ≡ true = ap (λ l. pairs 0 l t) k.1 ∙ single_goes x (single 91 t refl refl refl refl refl) in
    let inner = again (o ++ 91 ∷ []) t room (fits_more o 91 k.0) goes in
    elim inner.ends [
      | inl h ↦ absurd (not_last 91 o inner.rest h)
      | inr c ↦
          (let less = shorter 91 o t inner c in
          with_brackets o t inner c (again o c.after (omega arith) deep (goes_with 91 o inner.rest c)))
    ]

found_close_brace : (o t : List ℕ) → length o ≤ 32 → pairs 0 o (125 ∷ t) ≡ true → HasNested o (125 ∷ t)
found_close_brace o t deep e =
    let x = stepped o 125 t e in
    record {
      tree = nothing;
      rest = 125 ∷ t;
      plain = refl;
      shallow = omega arith;
      whole = refl;
      ends = inr (record { bracket = 123; outer = x.left; after = t; closes = x.opens; whole = refl; goes = single_goes x (single 125 t refl refl refl refl refl) });
    }

found_close_bracket : (o t : List ℕ) → length o ≤ 32 → pairs 0 o (93 ∷ t) ≡ true → HasNested o (93 ∷ t)
found_close_bracket o t deep e =
    let x = stepped o 93 t e in
    record {
      tree = nothing;
      rest = 93 ∷ t;
      plain = refl;
      shallow = omega arith;
      whole = refl;
      ends = inr (record { bracket = 91; outer = x.left; after = t; closes = x.opens; whole = refl; goes = single_goes x (single 93 t refl refl refl refl refl) });
    }

no_lone_parenthesis : (o t : List ℕ) → pairs 0 o (41 ∷ t) ≡ true → ⊥
no_lone_parenthesis o t e =
    let skips = (stepped o 41 t e).skips in none_some refl skips

with_angles : (o u : List ℕ) → HasNested o u → HasNested o (62 ∷ 62 ∷ u)
with_angles o u more = record {
  tree = double_close more.tree;
  rest = more.rest;
  plain = more.plain;
  shallow = more.shallow;
  whole = ap (λ t. 62 ∷ 62 ∷ t) more.whole;
  ends = more.ends;
}

found_angles : (n : ℕ) (o t : List ℕ) → Finds n → length t ≤ n → length o ≤ 32 → pairs 0 o (62 ∷ t) ≡ true → HasNested o (62 ∷ t)
found_angles n o [] again room deep e =
    let skips = (stepped o 62 [] e).skips in absurd (none_some refl skips)
found_angles n o (c ∷ u) again room deep e =
    let x = stepped o 62 (c ∷ u) e in
    let is = is_byte c 62 (kept_some (c == 62) 2 x.len x.skips).0 in
    let goes : pairs 0 o u ≡ true = sym (ap (λ d. pairs 0 o (62 ∷ d ∷ u)) is ∙ angles_read o u) ∙ e in
    subst (λ d. HasNested o (62 ∷ d ∷ u)) (sym is) (with_angles o u (again o u (omega arith) deep goes))

part_some : (q : Part) → 1 ≤ length (part_text q)
part_some (byte b) = omega arith
part_some (comment bytes line_end) = omega arith
part_some (string _) = omega arith
part_some (hexadecimal bytes) = omega arith
part_some double_angle = omega arith

with_part : (o s : List ℕ) (p : HasPart s) → HasNested o p.rest → HasNested o s
with_part o s p more = record {
  tree = part p.part more.tree;
  rest = more.rest;
  plain = and_from (is_plain_part p.part) (has_plain_parts more.tree) p.plain more.plain;
  shallow = more.shallow;
  whole =
      p.whole ∙ ap (λ r. part_text p.part ++ r) more.whole ∙ sym (append_assoc (part_text p.part) (paired_text more.tree) more.rest);
  ends = more.ends;
}

part_goes : (o s : List ℕ) (p : HasPart s) → pairs 0 o s ≡ true → pairs 0 o p.rest ≡ true
part_goes o s p e = sym (ap (pairs 0 o) p.whole ∙ part_read p.part o p.rest p.plain) ∙ e

shorter_part : (s : List ℕ) (p : HasPart s) → length p.rest < length s
shorter_part s p =
    let all = ap length p.whole in
    omega (arith, part_some p.part, length-append (part_text p.part) p.rest)

found_part : (n : ℕ) (o : List ℕ) (b : ℕ) (t : List ℕ) → Finds n → length t ≤ n → length o ≤ 32 → pairs 0 o (b ∷ t) ≡ true → HasPart (b ∷ t)
    → HasNested o (b ∷ t)
found_part n o b t again room deep e p =
    let less = shorter_part (b ∷ t) p in
    with_part o (b ∷ t) p (again o p.rest (omega arith) deep (part_goes o (b ∷ t) p e))

none_open : (o : List ℕ) → is_none_open o ≡ true → o ≡ []
none_open [] h = refl
none_open (b ∷ o) h = cc

last_comment : (s : List ℕ) → drop (comment_len s) s ≡ [] → list_all (λ c. not (is_line_end c)) s ≡ true
last_comment s h =
    let p : ℕ → Bool = λ c. not (is_line_end c) in
    let none = ap length h in
    let all : take (comment_len s) s ≡ s = take_all (comment_len s) s (omega (arith, length-drop (comment_len s) s)) in
    ap (list_all p) (sym all) ∙ prefix_all p s

found_comment : (n : ℕ) (o t : List ℕ) → Finds n → length t ≤ n → length o ≤ 32 → pairs 0 o (37 ∷ t) ≡ true → HasNested o (37 ∷ t)
found_comment n o t again room deep e =
    elim (list_cases (drop (comment_len t) t)) [
      | inl none ↦
          (let ended = sym (comment_step o t (prefix_len-le-length (λ c. not (is_line_end c)) t) ∙ ap (pairs 0 o) none ∙ end_read o) ∙ e in
          record {
            tree = nothing;
            rest = 37 ∷ t;
            plain = refl;
            shallow = omega arith;
            whole = refl;
            ends = inl (record { none = none_open o ended; last = last_comment t none });
          })
      | inr w ↦ found_part n o 37 t again room deep e (comment_part t w.0 w.1 w.2)
    ]

found_string : (n : ℕ) (o t : List ℕ) → Finds n → length t ≤ n → length o ≤ 32 → pairs 0 o (40 ∷ t) ≡ true → HasNested o (40 ∷ t)
found_string n o t again room deep e =
    let x = stepped o 40 t e in
    let m = further_some 1 x.len (string_len false 1 t) (sym (part_40 t) ∙ x.skips) in
    found_part n o 40 t again room deep e (string_part t m.0 m.1)

found_angle : (n : ℕ) (o t : List ℕ) → Finds n → length t ≤ n → length o ≤ 32 → pairs 0 o (60 ∷ t) ≡ true → HasNested o (60 ∷ t)
found_angle n o t again room deep e =
    let x = stepped o 60 t e in
    let m = further_some 1 x.len (angle_len t) (sym (part_60 t) ∙ x.skips) in
    found_part n o 60 t again room deep e (angle_part t m.0 m.1)

-- By the first byte.
found_first : (n : ℕ) (o : List ℕ) (b : ℕ) (t : List ℕ) → Finds n → length t ≤ n → length o ≤ 32 → pairs 0 o (b ∷ t) ≡ true → HasNested o (b ∷ t)
found_first n o b t again room deep e =
    let P : ℕ → Type 0 = λ c. pairs 0 o (c ∷ t) ≡ true → HasNested o (c ∷ t) in
    elim (cases_Bool (b == 123)) [
      | inl h ↦ subst P (sym (is_byte b 123 h)) (found_brace n o t again room deep) e
      | inr h123 ↦ elim (cases_Bool (b == 91)) [
        | inl h ↦ subst P (sym (is_byte b 91 h)) (found_bracket n o t again room deep) e
        | inr h91 ↦ elim (cases_Bool (b == 125)) [
          | inl h ↦ subst P (sym (is_byte b 125 h)) (found_close_brace o t deep) e
          | inr h125 ↦ elim (cases_Bool (b == 93)) [
            | inl h ↦ subst P (sym (is_byte b 93 h)) (found_close_bracket o t deep) e
            | inr h93 ↦ elim (cases_Bool (b == 41)) [
              | inl h ↦ absurd (no_lone_parenthesis o t (ap (λ c. pairs 0 o (c ∷ t)) (sym (is_byte b 41 h)) ∙ e))
              | inr h41 ↦ elim (cases_Bool (b == 62)) [
                | inl h ↦ subst P (sym (is_byte b 62 h)) (found_angles n o t again room deep) e
                | inr h62 ↦ elim (cases_Bool (b == 37)) [
                  | inl h ↦ subst P (sym (is_byte b 37 h)) (found_comment n o t again room deep) e
                  | inr h37 ↦ elim (cases_Bool (b == 40)) [
                    | inl h ↦ subst P (sym (is_byte b 40 h)) (found_string n o t again room deep) e
                    | inr h40 ↦ elim (cases_Bool (b == 60)) [
                      | inl h ↦ subst P (sym (is_byte b 60 h)) (found_angle n o t again room deep) e
                      | inr h60 ↦ found_part n o b t again room deep e (record {
                        part = byte b;
                        rest = t;
                        plain = rw (h37, h40, h41, h60, h62, h91, h93, h123, h125) refl;
                        whole = refl;
                      })
                    ]
                  ]
                ]
              ]
            ]
          ]
        ]
      ]
    ]

found : (n : ℕ) → Finds n
found n o [] room deep e = record {
  tree = nothing;
  rest = [];
  plain = refl;
  shallow = omega arith;
  whole = refl;
  ends = inl (record { none = none_open o (sym (end_read o) ∙ e); last = refl });
}
found zero o (b ∷ t) room deep e = absurd (omega arith)
found (suc n) o (b ∷ t) room deep e = found_first n o b t (found n) (omega arith) deep e

none_closed : (b : ℕ) (outer : List ℕ) → closed b [] ≡ Some outer → ⊥
none_closed b outer h = cc

-- No bracket is innermost where none is open.
not_closing : (rest : List ℕ) → IsClosing [] rest → ⊥
not_closing rest c = none_closed c.bracket c.outer c.closes

pub paired_is_nested : (s : List ℕ) → pairs 0 [] s ≡ true → IsNested s
paired_is_nested s e =
    let x = found (length s) [] s (omega arith) (omega arith) e in
    elim x.ends [
      | inl h ↦ record { tree = x.tree; last = x.rest; plain = x.plain; shallow = omega (arith, x.shallow); ends = h.last; whole = x.whole }
      | inr c ↦ absurd (not_closing x.rest c)
    ]
