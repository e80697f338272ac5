-- A string in plain form is read to its end.
use Rattle.std.proofs.Common.{◌≡◌, ◌+◌, ◌-◌, ◌==◌, ◌≤◌, ℕ, true, false, ◌||◌, not, Option, Some, List, [], ◌∷◌, ◌++◌, length, refl, sym, ap, ◌∙◌, arith, length-append, append_assoc}
use Rattle.std.proofs.lemmas.Bool.{and_parts}
use Rattle.std.proofs.lemmas.Bool.Decides.{nat_tests}
use Rattle.std.specs.List.{list_all}
use Rattle.t1_scan.specs.Lengths.{further, string_len, close_len, angle_len}
use Rattle.t1_scan.specs.Spelling.{Letters, no_letters, letter, escaped, parentheses, letters_text, are_letters, are_hexadecimal}
use Rattle.t1_scan.proofs.Steps.{further_more, further_zero}

-- a byte in a string that neither opens nor closes
pub string_letter : (depth b : ℕ) (s : List ℕ) → 1 ≤ depth → not (b == 40 || b == 41 || b == 92) ≡ true → string_len false depth (b ∷ s)
    ≡ further 1 (string_len false depth s)
unfolding string_len
string_letter depth b s some plain =
    let opens : (b == 40) ≡ false = grind (arith, nat_tests) in
    let closes : (b == 41) ≡ false = grind (arith, nat_tests) in
    let escapes : (b == 92) ≡ false = grind (arith, nat_tests) in
    let nonzero : (depth == 0) ≡ false = grind (arith, nat_tests) in
    rw (opens, closes, escapes, nonzero) refl

pub string_escaped : (depth b : ℕ) (s : List ℕ) → 1 ≤ depth → string_len false depth (92 ∷ b ∷ s) ≡ further 2 (string_len false depth s)
unfolding string_len
string_escaped depth b s some =
    let nonzero : (depth == 0) ≡ false = grind (arith, nat_tests) in
    rw (nonzero) (further_more 1 1 (string_len false depth s))

pub string_opens : (depth : ℕ) (s : List ℕ) → string_len false depth (40 ∷ s) ≡ further 1 (string_len false (depth + 1) s)
unfolding string_len
string_opens depth s =
    let nonzero : (depth + 1 == 0) ≡ false = grind (arith, nat_tests) in
    rw (nonzero) refl

pub string_closes : (depth : ℕ) (s : List ℕ) → 1 ≤ depth → string_len false (depth + 1) (41 ∷ s) ≡ further 1 (string_len false depth s)
unfolding string_len
string_closes depth s some =
    let back : (depth + 1) - 1 ≡ depth = omega arith in
    let nonzero : (depth == 0) ≡ false = grind (arith, nat_tests) in
    rw (back, nonzero) refl

-- n bytes of a text and then m
pub join : {o p : Option ℕ} (q : Option ℕ) (n m k : ℕ) → o ≡ further n p → p ≡ further m q → k ≡ n + m → o ≡ further k q
join {o} {p} q n m k e f s = e ∙ ap (further n) f ∙ further_more n m q ∙ ap (λ i. further i q) (sym s)

pub letters_read : (l : Letters) (depth : ℕ) (s : List ℕ) → 1 ≤ depth → are_letters l ≡ true → string_len false depth (letters_text l ++ s)
    ≡ further (length (letters_text l)) (string_len false depth s)
letters_read no_letters depth s some h = sym (further_zero (string_len false depth s))
letters_read (letter b more) depth s some h =
    let p = and_parts (not (b == 40 || b == 41 || b == 92)) (are_letters more) h in
    join (string_len false depth s) 1 (length (letters_text more)) (length (b ∷ letters_text more)) (string_letter depth b (letters_text more ++ s) some p.0)
    (letters_read more depth s some p.1) (omega arith)
letters_read (escaped b more) depth s some h =
    join (string_len false depth s) 2 (length (letters_text more)) (length (92 ∷ b ∷ letters_text more)) (string_escaped depth b (letters_text more ++ s) some)
    (letters_read more depth s some h) (omega arith)
letters_read (parentheses inner more) depth s some h =
    let p = and_parts (are_letters inner) (are_letters more) h in
    let rest = letters_text more ++ s in
    let behind = join (string_len false depth s) 1 (length (letters_text more)) (1 + length (letters_text more)) (string_closes depth rest some)
    (letters_read more depth s some p.1) refl in
    let inside = join (string_len false depth s) (length (letters_text inner)) (1 + length (letters_text more))
    (length (letters_text inner) + (1 + length (letters_text more))) (letters_read inner (depth + 1) (41 ∷ rest) (omega arith) p.0) behind refl in
    let regroup : (letters_text inner ++ (41 ∷ letters_text more)) ++ s ≡ letters_text inner ++ (41 ∷ rest) =
    append_assoc (letters_text inner) (41 ∷ letters_text more) s in
    ap (λ t. string_len false depth (40 ∷ t)) regroup ∙ join (string_len false depth s) 1 (length (letters_text inner) + (1 + length (letters_text more)))
    (length (40 ∷ (letters_text inner ++ (41 ∷ letters_text more)))) (string_opens depth (letters_text inner ++ (41 ∷ rest))) inside
    (omega (arith, length-append (letters_text inner) (41 ∷ letters_text more)))

pub string_last : (s : List ℕ) → string_len false 1 (41 ∷ s) ≡ Some 1
unfolding string_len
string_last s = refl

-- a string, after its first parenthesis
pub string_read : (l : Letters) (s : List ℕ) → are_letters l ≡ true → string_len false 1 ((letters_text l ++ (41 ∷ [])) ++ s)
    ≡ Some (length (letters_text l ++ (41 ∷ [])))
string_read l s h =
    ap (string_len false 1) (append_assoc (letters_text l) (41 ∷ []) s)
    ∙ letters_read l 1 (41 ∷ s) (omega arith) h
    ∙ ap (further (length (letters_text l))) (string_last s)
    ∙ ap Some (sym (length-append (letters_text l) (41 ∷ [])))

close_read : (bytes s : List ℕ) → list_all (λ b. not (b == 62)) bytes ≡ true → close_len ((bytes ++ (62 ∷ [])) ++ s) ≡ Some (length (bytes ++ (62 ∷ [])))
unfolding close_len
close_read [] s h = refl
close_read (b ∷ bytes) s h =
    let p = and_parts (not (b == 62)) (list_all (λ c. not (c == 62)) bytes) h in
    let other : (b == 62) ≡ false = grind (arith, nat_tests) in
    rw (other, close_read bytes s p.1) (ap Some (omega arith))

-- a hexadecimal string, after its `<`
pub angle_read : (bytes s : List ℕ) → are_hexadecimal bytes ≡ true → angle_len ((bytes ++ (62 ∷ [])) ++ s) ≡ Some (length (bytes ++ (62 ∷ [])))
unfolding angle_len
angle_read [] s h = close_read [] s refl
angle_read (b ∷ bytes) s h =
    let p = and_parts (not (b == 60)) (list_all (λ c. not (c == 62)) (b ∷ bytes)) h in
    let other : (b == 60) ≡ false = grind (arith, nat_tests) in
    rw (other) (close_read (b ∷ bytes) s p.1)
