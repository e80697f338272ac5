-- Where an array or a procedure ends, it was spelled in plain form, and nests at most 32 deep.
use Rattle.std.proofs.Common.{◌≡◌, ◌+◌, ◌==◌, ◌<◌, ◌≤◌, ℕ, zero, suc, Bool, true, false, not, if◌then◌else◌, Option, Some, List, [], ◌∷◌, ◌++◌, length, refl, sym, ap, subst, ◌∙◌, inl, inr, arith, length-append, append_assoc}
use Rattle.std.proofs.lemmas.Bool.{and_from, cases_Bool, cases_lt}
use Rattle.std.proofs.lemmas.Bool.Decides.{nat_tests}
use Rattle.t1_scan.specs.Lengths.{further, inside_len}
use Rattle.t1_scan.specs.Spelling.{Part, byte, comment, string, hexadecimal, double_angle, part_text, is_idle, is_part, Body, nothing, part, procedure, array, body_text, is_body, body_depth}
use Rattle.t1_scan.proofs.BodiesRead.{step, too_deep, opens_procedure, closes_procedure, opens_array, closes_array, part_read, inside_last, inside_last_array}
use Rattle.t1_scan.proofs.StringsFound.{is_byte, further_some, none_some}
use Rattle.t1_scan.proofs.PartsFound.{nothing_inside, found_part}

-- how many arrays and procedures are open inside one more
abbrev arrays_in : Bool → ℕ → ℕ
arrays_in true a = a
arrays_in false a = a + 1

abbrev braces_in : Bool → ℕ → ℕ
braces_in true p = p + 1
braces_in false p = p

abbrev closer : Bool → ℕ
closer true = 125
closer false = 93

inside_sum : (f : Bool) (a p : ℕ) → arrays_in f a + braces_in f p ≡ a + p + 1
inside_sum true a p = omega arith
inside_sum false a p = omega arith

-- what is left where so many are open
abbrev body_tail : ℕ → ℕ → List ℕ → Option ℕ
body_tail a p s = if a + p == 0 then Some 0 else inside_len 0 a p s

tail_open : (a p : ℕ) (s : List ℕ) → 1 ≤ a + p → body_tail a p s ≡ inside_len 0 a p s
tail_open a p s some = let nonzero : (a + p == 0) ≡ false = grind (arith, nat_tests) in rw nonzero refl

-- a body, the bracket after it, and what is left then
pub record HasBody (f : Bool) (a p : ℕ) (s : List ℕ) (n : ℕ) : Type 0 where
  pub body : Body
  pub rest : List ℕ
  pub left : ℕ
  pub plain : is_body f body ≡ true
  pub shallow : a + p + (1 + body_depth body) ≤ 32
  pub whole : s ≡ body_text body ++ (closer f ∷ rest)
  pub len : n ≡ length (body_text body) + (1 + left)
  pub tail : body_tail a p rest ≡ Some left

with_part : (f : Bool) (a p : ℕ) (q : Part) (s t : List ℕ) (n m : ℕ) → is_part f q ≡ true → s ≡ part_text q ++ t → n ≡ length (part_text q) + m
    → HasBody f a p t m → HasBody f a p s n
with_part f a p q s t n m plain whole len x = record {
  body = part q x.body;
  rest = x.rest;
  left = x.left;
  plain = and_from (is_part f q) (is_body f x.body) plain x.plain;
  shallow = x.shallow;
  whole = whole ∙ ap (λ u. part_text q ++ u) x.whole ∙ sym (append_assoc (part_text q) (body_text x.body) (closer f ∷ x.rest));
  len = omega (arith, len, x.len, length-append (part_text q) (body_text x.body));
  tail = x.tail;
}

with_procedure : (f : Bool) (a p : ℕ) (s : List ℕ) (m k : ℕ) → (inner : HasBody true (arrays_in f a) (braces_in f p) s m) → HasBody f a p inner.rest k
    → k ≡ inner.left → HasBody f a p (123 ∷ s) (1 + m)
with_procedure f a p s m k inner more same = record {
  body = procedure inner.body more.body;
  rest = more.rest;
  left = more.left;
  plain = and_from (is_body true inner.body) (is_body f more.body) inner.plain more.plain;
  shallow = omega (arith, inner.shallow, more.shallow, inside_sum f a p);
  whole = ap (λ t. 123 ∷ t) (inner.whole ∙ ap (λ t. body_text inner.body ++ (125 ∷ t)) more.whole
      ∙ sym (append_assoc (body_text inner.body) (125 ∷ body_text more.body) (closer f ∷ more.rest)));
  len = omega (arith, same, inner.len, more.len, length-append (body_text inner.body) (125 ∷ body_text more.body));
  tail = more.tail;
}

with_array : (a p : ℕ) (s : List ℕ) (m k : ℕ) → (inner : HasBody false (a + 1) p s m) → HasBody false a p inner.rest k → k ≡ inner.left
    → HasBody false a p (91 ∷ s) (1 + m)
with_array a p s m k inner more same = record {
  body = array inner.body more.body;
  rest = more.rest;
  left = more.left;
  plain = and_from (is_body false inner.body) (is_body false more.body) inner.plain more.plain;
  shallow = omega (arith, inner.shallow, more.shallow);
  whole = ap (λ t. 91 ∷ t) (inner.whole ∙ ap (λ t. body_text inner.body ++ (93 ∷ t)) more.whole
      ∙ sym (append_assoc (body_text inner.body) (93 ∷ body_text more.body) (93 ∷ more.rest)));
  len = omega (arith, same, inner.len, more.len, length-append (body_text inner.body) (93 ∷ body_text more.body));
  tail = more.tail;
}

less : (f : Bool) (a p : ℕ) (s : List ℕ) (n : ℕ) → (x : HasBody f a p s n) → length x.rest < length s
less f a p s n x = omega (arith, ap length x.whole, length-append (body_text x.body) (closer f ∷ x.rest))

-- the last bracket of this array or procedure
closed_last : (f : Bool) (s : List ℕ) → inside_len 0 (arrays_in f 0) (braces_in f 0) (closer f ∷ s) ≡ Some 1
closed_last true s = inside_last s
closed_last false s = inside_last_array s

closed_more : (f : Bool) (a p : ℕ) (s : List ℕ) → (braces_in f p == 0) ≡ not f → 1 ≤ a + p → a + p ≤ 32 → inside_len 0 (arrays_in f a) (braces_in f p)
    (closer f ∷ s) ≡ further 1 (inside_len 0 a p s)
closed_more true a p s e some shallow = step (closes_procedure a p s some) shallow
closed_more false a p s e some shallow = step (closes_array a p s e some) shallow

closed_body : (f : Bool) (a p : ℕ) (s : List ℕ) → (braces_in f p == 0) ≡ not f → a + p ≤ 32 → inside_len 0 (arrays_in f a) (braces_in f p)
    (closer f ∷ s) ≡ further 1 (body_tail a p s)
closed_body f a p s e shallow =
    elim (cases_lt 0 (a + p)) [
      | inl some ↦ closed_more f a p s e (omega arith) shallow ∙ ap (further 1) (sym (tail_open a p s (omega arith)))
      | inr none ↦
          (let no_arrays : 0 ≡ a = omega arith in
          let no_braces : 0 ≡ p = omega arith in
          subst (λ x. inside_len 0 (arrays_in f x) (braces_in f p) (closer f ∷ s) ≡ further 1 (body_tail x p s)) no_arrays
          (subst (λ y. inside_len 0 (arrays_in f 0) (braces_in f y) (closer f ∷ s) ≡ further 1 (body_tail 0 y s)) no_braces (closed_last f s)))
    ]

-- what is found in each shorter text
abbrev Finds : ℕ → Type 0
Finds size = (f : Bool) (a p : ℕ) (s : List ℕ) (n : ℕ) → (braces_in f p == 0) ≡ not f → a + p + 1 ≤ 32 → length s < size
    → inside_len 0 (arrays_in f a) (braces_in f p) s ≡ Some n → HasBody f a p s n

body_closed : (f : Bool) (a p : ℕ) (s : List ℕ) (n : ℕ) → (braces_in f p == 0) ≡ not f → a + p + 1 ≤ 32 → inside_len 0 (arrays_in f a) (braces_in f p)
    (closer f ∷ s) ≡ Some n → HasBody f a p (closer f ∷ s) n
body_closed f a p s n e shallow h =
    let q = further_some 1 n (body_tail a p s) (sym (closed_body f a p s e (omega arith)) ∙ h) in
    record { body = nothing; rest = s; left = q.0; plain = refl; shallow = omega arith; whole = refl; len = omega (arith, q.2); tail = q.1 }

body_procedure : (f : Bool) (a p : ℕ) (s : List ℕ) (n : ℕ) → Finds (length (123 ∷ s)) → (braces_in f p == 0) ≡ not f → a + p + 1 ≤ 32
    → inside_len 0 (arrays_in f a) (braces_in f p) (123 ∷ s) ≡ Some n → HasBody f a p (123 ∷ s) n
body_procedure f a p s n finds e shallow h =
    let A = arrays_in f a in
    let P = braces_in f p in
    let sum = inside_sum f a p in
    elim (cases_lt 32 (A + (P + 1))) [
      | inl past ↦ absurd (none_some (too_deep (opens_procedure A P s) past) h)
      | inr fits ↦
          (let q = further_some 1 n (inside_len 0 A (P + 1) s) (sym (step (opens_procedure A P s) fits) ∙ h) in
          let nonzero : (P + 1 == 0) ≡ not true = grind (arith, nat_tests) in
          let inner = finds true A P s q.0 nonzero (omega (arith, sum)) (omega arith) q.1 in
          let shorter = less true A P s q.0 inner in
          let more = finds f a p inner.rest inner.left e shallow (omega arith) (sym (tail_open A P inner.rest (omega (arith, sum))) ∙ inner.tail) in
          subst (λ k. HasBody f a p (123 ∷ s) k) (sym q.2) (with_procedure f a p s q.0 inner.left inner more refl))
    ]

body_array : (a p : ℕ) (s : List ℕ) (n : ℕ) → Finds (length (91 ∷ s)) → (p == 0) ≡ true → a + p + 1 ≤ 32 → inside_len 0 (a + 1) p (91 ∷ s) ≡ Some n
    → HasBody false a p (91 ∷ s) n
body_array a p s n finds e shallow h =
    elim (cases_lt 32 (a + 1 + 1 + p)) [
      | inl past ↦ absurd (none_some (too_deep (opens_array (a + 1) p s e) past) h)
      | inr fits ↦
          (let q = further_some 1 n (inside_len 0 (a + 1 + 1) p s) (sym (step (opens_array (a + 1) p s e) fits) ∙ h) in
          let inner = finds false (a + 1) p s q.0 e (omega arith) (omega arith) q.1 in
          let shorter = less false (a + 1) p s q.0 inner in
          let more = finds false a p inner.rest inner.left e shallow (omega arith) (sym (tail_open (a + 1) p inner.rest (omega arith)) ∙ inner.tail) in
          subst (λ k. HasBody false a p (91 ∷ s) k) (sym q.2) (with_array a p s q.0 inner.left inner more refl))
    ]

part_some : (q : Part) → 1 ≤ length (part_text q)
part_some (byte _) = omega arith
part_some (comment _ _) = omega arith
part_some (string _) = omega arith
part_some (hexadecimal _) = omega arith
part_some double_angle = omega arith

body_part : (f : Bool) (a p b : ℕ) (s : List ℕ) (n : ℕ) → Finds (length (b ∷ s)) → (braces_in f p == 0) ≡ not f → a + p + 1 ≤ 32
    → ((b == 37) ≡ false → (b == 40) ≡ false → (b == 60) ≡ false → is_idle f b ≡ true) → inside_len 0 (arrays_in f a) (braces_in f p) (b ∷ s) ≡ Some n
    → HasBody f a p (b ∷ s) n
body_part f a p b s n finds e shallow idle h =
    let A = arrays_in f a in
    let P = braces_in f p in
    let sum = inside_sum f a p in
    let x = found_part f A P b s n (omega (arith, sum)) (omega (arith, sum)) idle h in
    let read = part_read x.part f A P x.rest e (omega (arith, sum)) (omega (arith, sum)) x.plain in
    let q = further_some (length (part_text x.part)) n (inside_len 0 A P x.rest) (sym (ap (inside_len 0 A P) x.whole ∙ read) ∙ h) in
    let shorter : length x.rest < length (b ∷ s) = omega (arith, ap length x.whole, length-append (part_text x.part) x.rest, part_some x.part) in
    with_part f a p x.part (b ∷ s) x.rest n q.0 x.plain x.whole q.2 (finds f a p x.rest q.0 e shallow shorter q.1)

body_byte : (f : Bool) (a p b : ℕ) (s : List ℕ) (n : ℕ) → Finds (length (b ∷ s)) → (braces_in f p == 0) ≡ not f → a + p + 1 ≤ 32
    → inside_len 0 (arrays_in f a) (braces_in f p) (b ∷ s) ≡ Some n → HasBody f a p (b ∷ s) n
body_byte true a p b s n finds e shallow h =
    elim (cases_Bool (b == 123)) [
      | inl is ↦
          (let P : ℕ → Type 0 = λ c. Finds (length (c ∷ s)) → inside_len 0 a (p + 1) (c ∷ s) ≡ Some n → HasBody true a p (c ∷ s) n in
          subst P (sym (is_byte b 123 is)) (λ g k. body_procedure true a p s n g e shallow k) finds h)
      | inr h123 ↦ elim (cases_Bool (b == 125)) [
        | inl is ↦
            (let P : ℕ → Type 0 = λ c. inside_len 0 a (p + 1) (c ∷ s) ≡ Some n → HasBody true a p (c ∷ s) n in
            subst P (sym (is_byte b 125 is)) (body_closed true a p s n e shallow) h)
        | inr h125 ↦ body_part true a p b s n finds e shallow (λ h37 h40 h60. rw (h37, h40, h60, h123, h125) refl) h
      ]
    ]
body_byte false a p b s n finds e shallow h =
    elim (cases_Bool (b == 123)) [
      | inl is ↦
          (let P : ℕ → Type 0 = λ c. Finds (length (c ∷ s)) → inside_len 0 (a + 1) p (c ∷ s) ≡ Some n → HasBody false a p (c ∷ s) n in
          subst P (sym (is_byte b 123 is)) (λ g k. body_procedure false a p s n g e shallow k) finds h)
      | inr h123 ↦ elim (cases_Bool (b == 93)) [
        | inl is ↦
            (let P : ℕ → Type 0 = λ c. inside_len 0 (a + 1) p (c ∷ s) ≡ Some n → HasBody false a p (c ∷ s) n in
            subst P (sym (is_byte b 93 is)) (body_closed false a p s n e shallow) h)
        | inr h93 ↦ elim (cases_Bool (b == 91)) [
          | inl is ↦
              (let P : ℕ → Type 0 = λ c. Finds (length (c ∷ s)) → inside_len 0 (a + 1) p (c ∷ s) ≡ Some n → HasBody false a p (c ∷ s) n in
              subst P (sym (is_byte b 91 is)) (λ g k. body_array a p s n g e shallow k) finds h)
          | inr h91 ↦ body_part false a p b s n finds e shallow (λ h37 h40 h60. rw (h37, h40, h60, h123, h91, h93) refl) h
        ]
      ]
    ]

pub has_body : (fuel : ℕ) → Finds fuel
has_body zero f a p s n e shallow room h = absurd (omega arith)
has_body (suc fuel) f a p [] n e shallow room h = absurd (none_some (nothing_inside (arrays_in f a) (braces_in f p)) h)
has_body (suc fuel) f a p (b ∷ s) n e shallow room h =
    body_byte f a p b s n (λ g c d t m flag fits short k. has_body fuel g c d t m flag fits (omega arith) k) e shallow h
