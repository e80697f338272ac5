-- Codes without the digits at their end, byte by byte; and sets of rules, rule by rule.
use Rattle.std.proofs.Common.{◌≡◌, ◌<◌, ◌≤◌, ℕ, ◌+◌, ◌==◌, ◌&&◌, ◌||◌, Bool, true, false, true≢false, nat_eq, List, [], ◌∷◌, ◌++◌, drop, take, length, map, get_or, suc, inl, inr, refl, sym, ap, ◌∙◌, arith, add-one, append_assoc}
use Rattle.std.proofs.lemmas.Bool.{cases_lt}
use Rattle.std.proofs.lemmas.Bool.Decides.{nat_tests}
use Rattle.std.proofs.Math.Seq.{drop-cons, take-suc}
use Rattle.std.specs.List.{list_all, list_any}
use Rattle.t1_many.specs.Choice.{is_only, letters_of, picks}
use Rattle.t1_rules.proofs.Lemmas.Book.{one_rule}
use Rattle.t1_rules.specs.Book.{number_of}
use Rattle.t1_rules.specs.declared.rule.Rule.{Rule}
use Rattle.t1_scan.specs.Bytes.{is_decimal_digit}

-- digits alone have no letters
pub all_digits : (bytes : List ℕ) → list_all is_decimal_digit bytes ≡ true → letters_of bytes ≡ []
all_digits [] all = refl
all_digits (byte ∷ bytes) all = rw all refl

-- a byte from which on not all are digits is a letter
pub one_letter : (front : List ℕ) (byte : ℕ) (bytes : List ℕ) → list_all is_decimal_digit (byte ∷ bytes) ≡ false
    → front ++ letters_of (byte ∷ bytes) ≡ (front ++ byte ∷ []) ++ letters_of bytes
one_letter front byte bytes other = rw other (sym (append_assoc front (byte ∷ []) (letters_of bytes)))

-- one byte more of a code, from which on not all are digits
pub next_letter : (code : List ℕ) (at : ℕ) → at < length code → list_all is_decimal_digit (drop at code) ≡ false
    → letters_of code ≡ take at code ++ letters_of (drop at code) → letters_of code ≡ take (at + 1) code ++ letters_of (drop (at + 1) code)
next_letter code at less other before =
    let byte = get_or code at 0 in
    let split : drop at code ≡ byte ∷ drop (suc at) code = drop-cons code at 0 less in
    before ∙ ap (λ l. take at code ++ letters_of l) split
    ∙ one_letter (take at code) byte (drop (suc at) code) (sym (ap (list_all is_decimal_digit) split) ∙ other)
    ∙ ap (λ l. l ++ letters_of (drop (suc at) code)) (sym (take-suc code at 0 less))
    ∙ ap (λ n. take n code ++ letters_of (drop n code)) (sym (add-one at))

-- words by their values
pub picked_by : {X : Type 0} (value : X → List ℕ) (code : List ℕ) (words : List X)
    → list_any (λ word. picks code (value word)) words ≡ list_any (picks code) (map value words)
picked_by value code [] = refl
picked_by value code (word ∷ words) = ap (λ b. picks code (value word) || b) (picked_by value code words)

pub only_by : {X : Type 0} (value : X → List ℕ) (code : List ℕ) (words : List X) → nat_eq (length words) 0 ≡ false
    → list_any (λ word. picks code (value word)) words ≡ is_only (map value words) code
only_by value code [] some = absurd (true≢false some)
only_by value code (word ∷ words) some = picked_by value code (word ∷ words)

module _ (told : Rule → Bool) (old new : ℕ → Bool) (number : ℕ) (rule : Rule) (is : number_of rule ≡ number)
    (with : (n : ℕ) → new n ≡ (told rule && number_of rule == n || old n)) where
  -- one rule more
  pub set_next : ((r : Rule) → number_of r < number → old (number_of r) ≡ told r) → ((n : ℕ) → number ≤ n → old n ≡ false)
      → (r : Rule) → number_of r < number + 1 → new (number_of r) ≡ told r
  set_next set above r less = elim (cases_lt (number_of r) number) [
    | inl below ↦
        let other : (number_of rule == number_of r) ≡ false = grind (arith, nat_tests, below, is) in
        with (number_of r) ∙ rw other (left_false (told rule) (old (number_of r))) ∙ set r below
    | inr here ↦
        let same : rule ≡ r = one_rule rule r (omega (arith, is, less, here)) in
        let equal : (number_of rule == number_of r) ≡ true = grind (arith, nat_tests, is, less, here) in
        with (number_of r) ∙ rw (equal, above (number_of r) here) (last_false (told rule)) ∙ ap told same
  ]
    where
      left_false : (a b : Bool) → ((a && false) || b) ≡ b
      left_false true b = refl
      left_false false b = refl

      last_false : (a : Bool) → ((a && true) || false) ≡ a
      last_false true = refl
      last_false false = refl

  pub above_next : ((n : ℕ) → number ≤ n → old n ≡ false) → (n : ℕ) → number + 1 ≤ n → new n ≡ false
  above_next above n more =
      let other : (number_of rule == n) ≡ false = grind (arith, nat_tests, more, is) in
      with n ∙ rw (other, above n (omega (arith, more))) (none (told rule))
    where
      none : (a : Bool) → ((a && false) || false) ≡ false
      none true = refl
      none false = refl
