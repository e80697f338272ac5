-- Where a string ends, it was spelled in plain form.
use Rattle.std.proofs.Common.{◌≡◌, ◌+◌, ◌==◌, ◌<◌, ◌≤◌, ℕ, zero, suc, true, false, ◌||◌, not, Option, Some, None, List, [], ◌∷◌, ◌++◌, length, refl, sym, ap, subst, ◌∙◌, inl, inr, arith, length-append, append_assoc}
use Rattle.std.proofs.lemmas.Bool.{and_from, cases_Bool, not_from_false}
use Rattle.std.proofs.lemmas.Bool.Decides.{nat_tests}
use Rattle.std.specs.List.{list_all}
use Rattle.t1_scan.specs.Lengths.{further, string_len, close_len}
use Rattle.t1_scan.specs.Spelling.{Letters, no_letters, letter, escaped, parentheses, letters_text, are_letters}
use Rattle.t1_scan.proofs.StringsRead.{string_letter, string_escaped, string_opens, string_closes, string_last}

pub is_byte : (b n : ℕ) → (b == n) ≡ true → b ≡ n
is_byte b n h = grind (arith, nat_tests)

-- a length that is further than n
pub further_some : (n k : ℕ) (o : Option ℕ) → further n o ≡ Some k → (m : ℕ) × (o ≡ Some m) × (k ≡ n + m)
further_some n k None h = cc
further_some n k (Some m) h = let e : n + m ≡ k = cc in (m, refl, sym e)

-- what is left of a string in which so many parentheses are open
abbrev pub string_tail : ℕ → List ℕ → Option ℕ
string_tail zero s = Some 0
string_tail (suc d) s = string_len false (suc d) s

-- letters, the parenthesis after them, and what is left then
pub record HasLetters (d : ℕ) (s : List ℕ) (n : ℕ) : Type 0 where
  pub letters : Letters
  pub rest : List ℕ
  pub left : ℕ
  pub plain : are_letters letters ≡ true
  pub whole : s ≡ letters_text letters ++ (41 ∷ rest)
  pub len : n ≡ length (letters_text letters) + (1 + left)
  pub tail : string_tail d rest ≡ Some left

-- one letter more at the beginning
with_letter : (d b : ℕ) (s : List ℕ) (m : ℕ) → not (b == 40 || b == 41 || b == 92) ≡ true → HasLetters d s m → HasLetters d (b ∷ s) (1 + m)
with_letter d b s m h l = record {
  letters = letter b l.letters;
  rest = l.rest;
  left = l.left;
  plain = and_from (not (b == 40 || b == 41 || b == 92)) (are_letters l.letters) h l.plain;
  whole = ap (λ t. b ∷ t) l.whole;
  len = omega (arith, l.len);
  tail = l.tail;
}

with_escaped : (d b : ℕ) (s : List ℕ) (m : ℕ) → HasLetters d s m → HasLetters d (92 ∷ b ∷ s) (2 + m)
with_escaped d b s m l = record {
  letters = escaped b l.letters;
  rest = l.rest;
  left = l.left;
  plain = l.plain;
  whole = ap (λ t. 92 ∷ b ∷ t) l.whole;
  len = omega (arith, l.len);
  tail = l.tail;
}

with_parentheses : (d : ℕ) (s : List ℕ) (m : ℕ) → (inner : HasLetters (suc d) s m) → HasLetters d inner.rest inner.left → HasLetters d (40 ∷ s) (1 + m)
with_parentheses d s m inner more = record {
  letters = parentheses inner.letters more.letters;
  rest = more.rest;
  left = more.left;
  plain = and_from (are_letters inner.letters) (are_letters more.letters) inner.plain more.plain;
  whole = ap (λ t. 40 ∷ t) (inner.whole ∙ ap (λ t. letters_text inner.letters ++ (41 ∷ t)) more.whole
      ∙ sym (append_assoc (letters_text inner.letters) (41 ∷ letters_text more.letters) (41 ∷ more.rest)));
  len = omega (arith, inner.len, more.len, length-append (letters_text inner.letters) (41 ∷ letters_text more.letters));
  tail = more.tail;
}

shorter : (d : ℕ) (s : List ℕ) (m : ℕ) → (l : HasLetters d s m) → length l.rest < length s
shorter d s m l =
    omega (arith, ap length l.whole, length-append (letters_text l.letters) (41 ∷ l.rest))

no_string : (d : ℕ) → string_len false (suc d) [] ≡ None
unfolding string_len
no_string d = refl

no_escape : (d : ℕ) → string_len false (suc d) (92 ∷ []) ≡ None
unfolding string_len
no_escape d = let nonzero : (suc d == 0) ≡ false = grind (arith, nat_tests) in rw nonzero refl

closed : (d : ℕ) (s : List ℕ) → string_len false (suc d) (41 ∷ s) ≡ further 1 (string_tail d s)
closed zero s = string_last s
closed (suc d) s =
    let more : suc d + 1 ≡ suc (suc d) = omega arith in
    ap (λ k. string_len false k (41 ∷ s)) (sym more) ∙ string_closes (suc d) s (omega arith)

-- nothing is something
pub none_some : {o : Option ℕ} {n : ℕ} → o ≡ None → o ≡ Some n → ⊥
none_some h e = cc

-- a backslash and the byte that it takes, where letters are found in each shorter text
escape : (d : ℕ) (s : List ℕ) (n : ℕ) → ((t : List ℕ) (m : ℕ) → length t < length s → string_len false (suc d) t ≡ Some m → HasLetters d t m)
    → string_len false (suc d) (92 ∷ s) ≡ Some n → HasLetters d (92 ∷ s) n
escape d [] n found e = absurd (none_some (no_escape d) e)
escape d (b ∷ s) n found e =
    let p = further_some 2 n (string_len false (suc d) s) (sym (string_escaped (suc d) b s (omega arith)) ∙ e) in
    subst (λ k. HasLetters d (92 ∷ b ∷ s) k) (sym p.2) (with_escaped d b s p.0 (found s p.0 (omega arith) p.1))

pub has_letters : (fuel d : ℕ) (s : List ℕ) (n : ℕ) → length s ≤ fuel → string_len false (suc d) s ≡ Some n → HasLetters d s n
has_letters fuel d [] n room e = absurd (none_some (no_string d) e)
has_letters zero d (b ∷ s) n room e = absurd (omega arith)
has_letters (suc fuel) d (b ∷ s) n room e =
    let P : ℕ → Type 0 = λ c. string_len false (suc d) (c ∷ s) ≡ Some n → HasLetters d (c ∷ s) n in
    elim (cases_Bool (b == 40)) [
      | inl h ↦ subst P (sym (is_byte b 40 h)) (λ f.
          let deeper : suc d + 1 ≡ suc (suc d) = omega arith in
          let opened = sym (string_opens (suc d) s ∙ ap (λ k. further 1 (string_len false k s)) deeper) ∙ f in
          let p = further_some 1 n (string_len false (suc (suc d)) s) opened in
          let inner = has_letters fuel (suc d) s p.0 (omega arith) p.1 in
          let less = shorter (suc d) s p.0 inner in
          let more = has_letters fuel d inner.rest inner.left (omega arith) inner.tail in
          subst (λ k. HasLetters d (40 ∷ s) k) (sym p.2) (with_parentheses d s p.0 inner more)) e
      | inr h40 ↦ elim (cases_Bool (b == 41)) [
        | inl h ↦ subst P (sym (is_byte b 41 h)) (λ f.
            let p = further_some 1 n (string_tail d s) (sym (closed d s) ∙ f) in
            record { letters = no_letters; rest = s; left = p.0; plain = refl; whole = refl; len = omega (arith, p.2); tail = p.1 }) e
        | inr h41 ↦ elim (cases_Bool (b == 92)) [
          | inl h ↦ subst P (sym (is_byte b 92 h)) (escape d s n (λ t m short f. has_letters fuel d t m (omega arith) f)) e
          | inr h92 ↦
              (let plain : not (b == 40 || b == 41 || b == 92) ≡ true = rw (h40, h41, h92) refl in
              let p = further_some 1 n (string_len false (suc d) s) (sym (string_letter (suc d) b s (omega arith) plain) ∙ e) in
              subst (λ k. HasLetters d (b ∷ s) k) (sym p.2) (with_letter d b s p.0 plain (has_letters fuel d s p.0 (omega arith) p.1)))
        ]
      ]
    ]

-- a hexadecimal string, after its `<`
pub record HasHexadecimal (s : List ℕ) (n : ℕ) : Type 0 where
  pub bytes : List ℕ
  pub rest : List ℕ
  pub plain : list_all (λ b. not (b == 62)) bytes ≡ true
  pub whole : s ≡ bytes ++ (62 ∷ rest)
  pub len : n ≡ length bytes + 1

no_close : close_len [] ≡ None
unfolding close_len
no_close = refl

close_here : (b : ℕ) (s : List ℕ) → (b == 62) ≡ true → close_len (b ∷ s) ≡ Some 1
unfolding close_len
close_here b s h = rw h refl

close_later : (b : ℕ) (s : List ℕ) → (b == 62) ≡ false → close_len (b ∷ s) ≡ further 1 (close_len s)
unfolding close_len
close_later b s h = rw h refl

pub same_length : {o : Option ℕ} {n m : ℕ} → o ≡ Some n → o ≡ Some m → m ≡ n
same_length h e = cc

pub has_hexadecimal : (s : List ℕ) (n : ℕ) → close_len s ≡ Some n → HasHexadecimal s n
has_hexadecimal [] n e = absurd (none_some no_close e)
has_hexadecimal (b ∷ s) n e =
    elim (cases_Bool (b == 62)) [
      | inl h ↦ record { bytes = []; rest = s; plain = refl; whole = ap (λ c. c ∷ s) (is_byte b 62 h); len = same_length (close_here b s h) e }
      | inr h ↦
          (let p = further_some 1 n (close_len s) (sym (close_later b s h) ∙ e) in
          let more = has_hexadecimal s p.0 p.1 in
          record {
            bytes = b ∷ more.bytes;
            rest = more.rest;
            plain = and_from (not (b == 62)) (list_all (λ c. not (c == 62)) more.bytes) (not_from_false (b == 62) h) more.plain;
            whole = ap (λ t. b ∷ t) more.whole;
            len = omega (arith, p.2, more.len);
          })
    ]
