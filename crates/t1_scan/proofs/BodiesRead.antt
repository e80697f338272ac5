-- An array or a procedure in plain form is read to its end, or not at all where it nests too deep.
use Rattle.std.proofs.Common.{◌≡◌, ◌+◌, ◌-◌, ◌==◌, ◌<◌, ◌≤◌, ℕ, Bool, true, false, ◌&&◌, not, if◌then◌else◌, Option, Some, None, List, [], ◌∷◌, ◌++◌, length, drop, refl, sym, ap, ◌∙◌, inl, inr, arith, length-append, append_assoc}
use Rattle.std.proofs.lemmas.Bool.{and_parts, cases_lt, false≢true}
use Rattle.std.proofs.lemmas.Bool.Decides.{nat_tests}
use Rattle.std.proofs.Math.Seq.{drop-append_seam}
use Rattle.std.specs.List.{list_all}
use Rattle.t1_scan.specs.Bytes.{is_line_end}
use Rattle.t1_scan.specs.Lengths.{further, comment_len, angle_len, part_len, arrays_after, braces_after, inside_len}
use Rattle.t1_scan.specs.Spelling.{Part, byte, comment, string, hexadecimal, double_angle, part_text, is_idle, is_part, letters_text, Body, nothing, part, procedure, array, body_text, is_body, body_depth}
use Rattle.t1_scan.proofs.Steps.{further_zero, IsOpenAfter, inside_more, inside_deep}
use Rattle.t1_scan.proofs.StringsRead.{join, string_read, angle_read}

-- a step over n bytes, from so many open arrays and procedures to so many
pub record IsStep (a p a' p' b n : ℕ) (s : List ℕ) : Type 0 where
  pub arrays : a' ≡ arrays_after b a p
  pub braces : p' ≡ braces_after b p
  pub some : 1 ≤ a' + p'
  pub len : part_len b s ≡ Some n
  pub one : 1 ≤ n
  pub within : n ≤ 1 + length s

pub step : {a p a' p' b n : ℕ} {s : List ℕ} → IsStep a p a' p' b n s → a' + p' ≤ 32 → inside_len 0 a p (b ∷ s) ≡ further n (inside_len 0 a' p' (drop n (b ∷ s)))
step {a} {p} {a'} {p'} {b} {n} {s} h shallow =
    let state : IsOpenAfter (b ∷ s) 0 a p a' p' = record { within = omega arith; arrays = h.arrays; braces = h.braces } in
    let places : 0 + n ≡ n = omega arith in
    sym (further_zero (inside_len 0 a p (b ∷ s)))
    ∙ inside_more state n h.len (omega (arith, h.some)) shallow h.one (omega (arith, h.within))
    ∙ ap (λ k. further k (inside_len 0 a' p' (drop k (b ∷ s)))) places

pub too_deep : {a p a' p' b n : ℕ} {s : List ℕ} → IsStep a p a' p' b n s → 32 < a' + p' → inside_len 0 a p (b ∷ s) ≡ None
too_deep {a} {p} {a'} {p'} {b} {n} {s} h deep =
    let state : IsOpenAfter (b ∷ s) 0 a p a' p' = record { within = omega arith; arrays = h.arrays; braces = h.braces } in
    sym (further_zero (inside_len 0 a p (b ∷ s))) ∙ inside_deep state deep

-- what a byte that is no bracket leaves open
pub arrays_steady : (a p b : ℕ) → (b == 91) ≡ false → (b == 93) ≡ false → a ≡ arrays_after b a p
arrays_steady a p b h k = rw (h, k) (elim (p == 0) as (λ c. a ≡ (if c && false then a + 1 else (if c && false then a - 1 else a)))
    [ true ↦ refl | false ↦ refl ])

arrays_ignored : (a p b : ℕ) → (p == 0) ≡ false → a ≡ arrays_after b a p
arrays_ignored a p b h = rw h refl

pub braces_steady : (p b : ℕ) → (b == 123) ≡ false → (b == 125) ≡ false → p ≡ braces_after b p
braces_steady p b h k = rw (h, k) refl

braces_ignored : (p b : ℕ) → (b == 123) ≡ false → (p == 0) ≡ true → p ≡ braces_after b p
braces_ignored p b h k =
    let none : p ≡ 0 = grind (arith, nat_tests) in
    rw (h, none) (elim (b == 125) as (λ c. 0 ≡ (if c then 0 - 1 else 0)) [ true ↦ refl | false ↦ refl ])

-- a byte that is skipped alone
pub single_part : (b : ℕ) (s : List ℕ) → (b == 37) ≡ false → (b == 40) ≡ false → (b == 60) ≡ false → part_len b s ≡ Some 1
unfolding part_len
single_part b s h k l = rw (h, k, l) refl

idle_step : (f : Bool) (a p b : ℕ) (s : List ℕ) → (p == 0) ≡ not f → 1 ≤ a + p → is_idle f b ≡ true → IsStep a p a p b 1 s
idle_step true a p b s e some h =
    let percent : (b == 37) ≡ false = grind (arith, nat_tests) in
    let parenthesis : (b == 40) ≡ false = grind (arith, nat_tests) in
    let angle : (b == 60) ≡ false = grind (arith, nat_tests) in
    let opens : (b == 123) ≡ false = grind (arith, nat_tests) in
    let closes : (b == 125) ≡ false = grind (arith, nat_tests) in
    record {
      arrays = arrays_ignored a p b e;
      braces = braces_steady p b opens closes;
      some = some;
      len = single_part b s percent parenthesis angle;
      one = omega arith;
      within = omega arith;
    }
idle_step false a p b s e some h =
    let percent : (b == 37) ≡ false = grind (arith, nat_tests) in
    let parenthesis : (b == 40) ≡ false = grind (arith, nat_tests) in
    let angle : (b == 60) ≡ false = grind (arith, nat_tests) in
    let opens : (b == 123) ≡ false = grind (arith, nat_tests) in
    let open_array : (b == 91) ≡ false = grind (arith, nat_tests) in
    let close_array : (b == 93) ≡ false = grind (arith, nat_tests) in
    record {
      arrays = arrays_steady a p b open_array close_array;
      braces = braces_ignored p b opens e;
      some = some;
      len = single_part b s percent parenthesis angle;
      one = omega arith;
      within = omega arith;
    }

line_end_idle : (f : Bool) (b : ℕ) → is_line_end b ≡ true → is_idle f b ≡ true
line_end_idle true b h = grind (arith, nat_tests)
line_end_idle false b h = grind (arith, nat_tests)

-- the bytes of a comment, up to the end of its line
pub comment_read : (bytes : List ℕ) (line_end : ℕ) (s : List ℕ) → list_all (λ b. not (is_line_end b)) bytes ≡ true → is_line_end line_end ≡ true
    → comment_len (bytes ++ (line_end ∷ s)) ≡ length bytes
comment_read [] line_end s h k = rw k refl
comment_read (b ∷ bytes) line_end s h k =
    let p = and_parts (not (is_line_end b)) (list_all (λ c. not (is_line_end c)) bytes) h in
    rw (p.0, comment_read bytes line_end s p.1 k) (omega arith)

-- a part is read whole, with what follows left
whole : {a p b n : ℕ} (t s : List ℕ) → IsStep a p a p b n (t ++ s) → n ≡ length (b ∷ t) → a + p ≤ 32 → inside_len 0 a p ((b ∷ t) ++ s)
    ≡ further (length (b ∷ t)) (inside_len 0 a p s)
whole {a} {p} {b} {n} t s h e shallow =
    step h shallow ∙ ap (λ k. further k (inside_len 0 a p (drop k ((b ∷ t) ++ s)))) e
    ∙ ap (λ r. further (length (b ∷ t)) (inside_len 0 a p r)) (drop-append_seam (b ∷ t) s)

pub part_read : (q : Part) (f : Bool) (a p : ℕ) (s : List ℕ) → (p == 0) ≡ not f → 1 ≤ a + p → a + p ≤ 32 → is_part f q ≡ true
    → inside_len 0 a p (part_text q ++ s) ≡ further (length (part_text q)) (inside_len 0 a p s)
unfolding part_len angle_len
part_read (byte b) f a p s e some shallow h = whole [] s (idle_step f a p b s e some h) refl shallow
part_read (comment bytes line_end) f a p s e some shallow h =
    let parts = and_parts (list_all (λ b. not (is_line_end b)) bytes) (is_line_end line_end) h in
    let read = comment_read bytes line_end s parts.0 parts.1 in
    let state : IsStep a p a p 37 (1 + length bytes) (bytes ++ (line_end ∷ s)) = record {
      arrays = arrays_steady a p 37 refl refl;
      braces = braces_steady p 37 refl refl;
      some = some;
      len = ap (λ n. Some (1 + n)) read;
      one = omega arith;
      within = omega (arith, length-append bytes (line_end ∷ s));
    } in
    let front : inside_len 0 a p ((37 ∷ bytes) ++ (line_end ∷ s)) ≡ further (length (37 ∷ bytes)) (inside_len 0 a p (line_end ∷ s)) =
    whole bytes (line_end ∷ s) state (omega arith) shallow in
    let back : inside_len 0 a p (line_end ∷ s) ≡ further 1 (inside_len 0 a p s) =
    whole [] s (idle_step f a p line_end s e some (line_end_idle f line_end parts.1)) refl shallow in
    ap (λ t. inside_len 0 a p (37 ∷ t)) (append_assoc bytes (line_end ∷ []) s)
    ∙ join (inside_len 0 a p s) (length (37 ∷ bytes)) 1 (length (37 ∷ (bytes ++ (line_end ∷ [])))) front back
    (omega (arith, length-append bytes (line_end ∷ [])))
part_read (string letters) f a p s e some shallow h =
    let read = string_read letters s h in
    whole (letters_text letters ++ (41 ∷ [])) s (record {
      arrays = arrays_steady a p 40 refl refl;
      braces = braces_steady p 40 refl refl;
      some = some;
      len = ap (further 1) read;
      one = omega arith;
      within = omega (arith, length-append (letters_text letters ++ (41 ∷ [])) s);
    }) (omega arith) shallow
part_read (hexadecimal bytes) f a p s e some shallow h =
    let read = angle_read bytes s h in
    whole (bytes ++ (62 ∷ [])) s (record {
      arrays = arrays_steady a p 60 refl refl;
      braces = braces_steady p 60 refl refl;
      some = some;
      len = ap (further 1) read;
      one = omega arith;
      within = omega (arith, length-append (bytes ++ (62 ∷ [])) s);
    }) (omega arith) shallow
part_read double_angle f a p s e some shallow h =
    whole (60 ∷ []) s (record {
      arrays = arrays_steady a p 60 refl refl;
      braces = braces_steady p 60 refl refl;
      some = some;
      len = refl;
      one = omega arith;
      within = omega arith;
    }) refl shallow

-- one bracket more
pub opens_procedure : (a p : ℕ) (s : List ℕ) → IsStep a p a (p + 1) 123 1 s
opens_procedure a p s = record {
  arrays = arrays_steady a p 123 refl refl;
  braces = refl;
  some = omega arith;
  len = single_part 123 s refl refl refl;
  one = omega arith;
  within = omega arith;
}

pub closes_procedure : (a p : ℕ) (s : List ℕ) → 1 ≤ a + p → IsStep a (p + 1) a p 125 1 s
closes_procedure a p s some = record {
  arrays = arrays_steady a (p + 1) 125 refl refl;
  braces = omega arith;
  some = some;
  len = single_part 125 s refl refl refl;
  one = omega arith;
  within = omega arith;
}

pub opens_array : (a p : ℕ) (s : List ℕ) → (p == 0) ≡ true → IsStep a p (a + 1) p 91 1 s
opens_array a p s e = record {
  arrays = rw e refl;
  braces = refl;
  some = omega arith;
  len = single_part 91 s refl refl refl;
  one = omega arith;
  within = omega arith;
}

pub closes_array : (a p : ℕ) (s : List ℕ) → (p == 0) ≡ true → 1 ≤ a + p → IsStep (a + 1) p a p 93 1 s
closes_array a p s e some = record {
  arrays = rw e (let back : (a + 1) - 1 ≡ a = omega arith in sym back);
  braces = refl;
  some = some;
  len = single_part 93 s refl refl refl;
  one = omega arith;
  within = omega arith;
}

-- brackets, with so many bytes between them and so many after
bracketed_len : (before after : ℕ) (x y : List ℕ) → length (before ∷ (x ++ (after ∷ y))) ≡ 1 + (length x + (1 + length y))
bracketed_len before after x y = omega (arith, length-append x (after ∷ y))

pub body_read : (x : Body) (f : Bool) (a p : ℕ) (s : List ℕ) → (p == 0) ≡ not f → 1 ≤ a + p → a + p + body_depth x ≤ 32 → is_body f x ≡ true
    → inside_len 0 a p (body_text x ++ s) ≡ further (length (body_text x)) (inside_len 0 a p s)
body_read nothing f a p s e some shallow h = sym (further_zero (inside_len 0 a p s))
body_read (part q more) f a p s e some shallow h =
    let parts = and_parts (is_part f q) (is_body f more) h in
    let rest = body_text more ++ s in
    ap (inside_len 0 a p) (append_assoc (part_text q) (body_text more) s)
    ∙ join (inside_len 0 a p s) (length (part_text q)) (length (body_text more)) (length (part_text q ++ body_text more))
    (part_read q f a p rest e some (omega arith) parts.0) (body_read more f a p s e some shallow parts.1) (length-append (part_text q) (body_text more))
body_read (procedure inner more) f a p s e some shallow h =
    let parts = and_parts (is_body true inner) (is_body f more) h in
    let rest = body_text more ++ s in
    let nonzero : (p + 1 == 0) ≡ not true = grind (arith, nat_tests) in
    let behind = join (inside_len 0 a p s) 1 (length (body_text more)) (1 + length (body_text more)) (step (closes_procedure a p rest some) (omega arith))
    (body_read more f a p s e some (omega arith) parts.1) refl in
    let inside = join (inside_len 0 a p s) (length (body_text inner)) (1 + length (body_text more)) (length (body_text inner) + (1 + length (body_text more)))
    (body_read inner true a (p + 1) (125 ∷ rest) nonzero (omega arith) (omega arith) parts.0) behind refl in
    ap (λ t. inside_len 0 a p (123 ∷ t)) (append_assoc (body_text inner) (125 ∷ body_text more) s)
    ∙ join (inside_len 0 a p s) 1 (length (body_text inner) + (1 + length (body_text more))) (length (body_text (procedure inner more)))
    (step (opens_procedure a p (body_text inner ++ (125 ∷ rest))) (omega arith)) inside (bracketed_len 123 125 (body_text inner) (body_text more))
body_read (array inner more) true a p s e some shallow h = absurd (false≢true h)
body_read (array inner more) false a p s e some shallow h =
    let parts = and_parts (is_body false inner) (is_body false more) h in
    let rest = body_text more ++ s in
    let behind = join (inside_len 0 a p s) 1 (length (body_text more)) (1 + length (body_text more)) (step (closes_array a p rest e some) (omega arith))
    (body_read more false a p s e some (omega arith) parts.1) refl in
    let inside = join (inside_len 0 a p s) (length (body_text inner)) (1 + length (body_text more)) (length (body_text inner) + (1 + length (body_text more)))
    (body_read inner false (a + 1) p (93 ∷ rest) e (omega arith) (omega arith) parts.0) behind refl in
    ap (λ t. inside_len 0 a p (91 ∷ t)) (append_assoc (body_text inner) (93 ∷ body_text more) s)
    ∙ join (inside_len 0 a p s) 1 (length (body_text inner) + (1 + length (body_text more))) (length (body_text (array inner more)))
    (step (opens_array a p (body_text inner ++ (93 ∷ rest)) e) (omega arith)) inside (bracketed_len 91 93 (body_text inner) (body_text more))

-- no length further is none
further_none : (n : ℕ) {o q : Option ℕ} → o ≡ further n q → q ≡ None → o ≡ None
further_none n e none = e ∙ ap (further n) none

pub body_deep : (x : Body) (f : Bool) (a p : ℕ) (s : List ℕ) → (p == 0) ≡ not f → 1 ≤ a + p → a + p ≤ 32 → 32 < a + p + body_depth x → is_body f x ≡ true
    → inside_len 0 a p (body_text x ++ s) ≡ None
body_deep nothing f a p s e some shallow deep h = absurd (omega arith)
body_deep (part q more) f a p s e some shallow deep h =
    let parts = and_parts (is_part f q) (is_body f more) h in
    let rest = body_text more ++ s in
    ap (inside_len 0 a p) (append_assoc (part_text q) (body_text more) s)
    ∙ further_none (length (part_text q)) (part_read q f a p rest e some shallow parts.0) (body_deep more f a p s e some shallow deep parts.1)
body_deep (procedure inner more) f a p s e some shallow deep h =
    let parts = and_parts (is_body true inner) (is_body f more) h in
    let rest = body_text more ++ s in
    let nonzero : (p + 1 == 0) ≡ not true = grind (arith, nat_tests) in
    let opens = opens_procedure a p (body_text inner ++ (125 ∷ rest)) in
    ap (λ t. inside_len 0 a p (123 ∷ t)) (append_assoc (body_text inner) (125 ∷ body_text more) s)
    ∙ elim (cases_lt 32 (a + (p + 1))) [
      | inl past ↦ too_deep opens past
      | inr fits ↦ further_none 1 (step opens fits) (elim (cases_lt 32 (a + (p + 1) + body_depth inner)) [
        | inl past ↦ body_deep inner true a (p + 1) (125 ∷ rest) nonzero (omega arith) fits past parts.0
        | inr within ↦ further_none (length (body_text inner)) (body_read inner true a (p + 1) (125 ∷ rest) nonzero (omega arith) within parts.0)
            (further_none 1 (step (closes_procedure a p rest some) shallow) (body_deep more f a p s e some shallow (omega arith) parts.1))
      ])
    ]
body_deep (array inner more) true a p s e some shallow deep h = absurd (false≢true h)
body_deep (array inner more) false a p s e some shallow deep h =
    let parts = and_parts (is_body false inner) (is_body false more) h in
    let rest = body_text more ++ s in
    let opens = opens_array a p (body_text inner ++ (93 ∷ rest)) e in
    ap (λ t. inside_len 0 a p (91 ∷ t)) (append_assoc (body_text inner) (93 ∷ body_text more) s)
    ∙ elim (cases_lt 32 (a + 1 + p)) [
      | inl past ↦ too_deep opens past
      | inr fits ↦ further_none 1 (step opens fits) (elim (cases_lt 32 (a + 1 + p + body_depth inner)) [
        | inl past ↦ body_deep inner false (a + 1) p (93 ∷ rest) e (omega arith) fits past parts.0
        | inr within ↦ further_none (length (body_text inner)) (body_read inner false (a + 1) p (93 ∷ rest) e (omega arith) within parts.0)
            (further_none 1 (step (closes_array a p rest e some) shallow) (body_deep more false a p s e some shallow (omega arith) parts.1))
      ])
    ]

pub inside_last : (s : List ℕ) → inside_len 0 0 1 (125 ∷ s) ≡ Some 1
unfolding inside_len
inside_last s = refl

pub inside_last_array : (s : List ℕ) → inside_len 0 1 0 (93 ∷ s) ≡ Some 1
unfolding inside_len
inside_last_array s = refl

-- a procedure, after its first brace
pub procedure_read : (x : Body) (s : List ℕ) → is_body true x ≡ true → 1 + body_depth x ≤ 32 → inside_len 0 0 1 ((body_text x ++ (125 ∷ [])) ++ s)
    ≡ Some (length (body_text x ++ (125 ∷ [])))
procedure_read x s h shallow =
    ap (inside_len 0 0 1) (append_assoc (body_text x) (125 ∷ []) s)
    ∙ body_read x true 0 1 (125 ∷ s) refl (omega arith) (omega arith) h
    ∙ ap (further (length (body_text x))) (inside_last s)
    ∙ ap Some (sym (length-append (body_text x) (125 ∷ [])))

-- an array, after its first bracket
pub array_read : (x : Body) (s : List ℕ) → is_body false x ≡ true → 1 + body_depth x ≤ 32 → inside_len 0 1 0 ((body_text x ++ (93 ∷ [])) ++ s)
    ≡ Some (length (body_text x ++ (93 ∷ [])))
array_read x s h shallow =
    ap (inside_len 0 1 0) (append_assoc (body_text x) (93 ∷ []) s)
    ∙ body_read x false 1 0 (93 ∷ s) refl (omega arith) (omega arith) h
    ∙ ap (further (length (body_text x))) (inside_last_array s)
    ∙ ap Some (sym (length-append (body_text x) (93 ∷ [])))

pub procedure_deep : (x : Body) (s : List ℕ) → is_body true x ≡ true → 32 < 1 + body_depth x → inside_len 0 0 1 ((body_text x ++ (125 ∷ [])) ++ s) ≡ None
procedure_deep x s h deep =
    ap (inside_len 0 0 1) (append_assoc (body_text x) (125 ∷ []) s)
    ∙ body_deep x true 0 1 (125 ∷ s) refl (omega arith) (omega arith) (omega arith) h

pub array_deep : (x : Body) (s : List ℕ) → is_body false x ≡ true → 32 < 1 + body_depth x → inside_len 0 1 0 ((body_text x ++ (93 ∷ [])) ++ s) ≡ None
array_deep x s h deep =
    ap (inside_len 0 1 0) (append_assoc (body_text x) (93 ∷ []) s)
    ∙ body_deep x false 1 0 (93 ∷ s) refl (omega arith) (omega arith) (omega arith) h
