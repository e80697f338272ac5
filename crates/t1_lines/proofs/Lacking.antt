-- Which bytes the words of a line don't have.
use Rattle.std.proofs.Common.{◌≡◌, ◌≢◌, ◌<◌, ◌≤◌, ◌^◌, ℕ, zero, suc, Bool, true, false, ◌==◌, List, [], ◌∷◌, ◌++◌, refl, subst, inl, inr, arith, decimal, flat_map, slice_index_or}
use Rattle.std.proofs.lemmas.Bool.{cases_Bool, eqb-true}
use Rattle.std.proofs.lemmas.List.{append-nil}
use Rattle.std.proofs.Math.Pow.{pow_mono}
use Rattle.std.specs.List.{AllByRecursion, list_all}
use Rattle.std.specs.Str.Parse.{AllDigits}
use Rattle.std.proofs.lemmas.Str.Parse.{digit_from_value}
use Rattle.std.proofs.lemmas.Fmt.{decimal_is_IsNumeral}
use Rattle.t1_scan.specs.Bytes.{is_regular}
use Rattle.t1_rules.specs.Book.{code_of}
use Rattle.t1_rules.specs.Keys.{key_text_of, key_texts}
use Rattle.t1_rules.specs.declared.rule.Rule.{Rule}
use Rattle.t1_rules.specs.declared.rule.Rule.TheVariants.{F01}
use Rattle.t1_report.specs.Lines.{inner_text, path_text}
use Rattle.t1_lines.proofs.Cuts.{lacks}

pub lacks-append : (byte : ℕ) (a b : List ℕ) → lacks byte a ≡ true → lacks byte b ≡ true → lacks byte (a ++ b) ≡ true
lacks-append byte [] b first second = second
lacks-append byte (c ∷ a) b first second =
    elim (cases_Bool (c == byte)) [
      | inl e ↦ (let never : false ≡ true = rw e at first in cc)
      | inr e ↦ (let later : lacks byte a ≡ true = rw e at first in rw e (lacks-append byte a b later second))
    ]

pub lacks-digits : (byte : ℕ) (ds : List ℕ) → ((c : ℕ) → 48 ≤ c → c ≤ 57 → c ≢ byte) → AllDigits 10 ds → lacks byte ds ≡ true
lacks-digits byte [] apart all = refl
lacks-digits byte (c ∷ ds) apart all =
    let range = digit_from_value c all.0 in
    elim (cases_Bool (c == byte)) [
      | inl e ↦ absurd (apart c (omega (arith, range)) (omega (arith, range)) (eqb-true c byte e))
      | inr e ↦ rw e (lacks-digits byte ds apart all.1)
    ]

pub lacks-decimal : (byte n : ℕ) → n < 2 ^ 64 → ((c : ℕ) → 48 ≤ c → c ≤ 57 → c ≢ byte) → lacks byte (decimal n) ≡ true
lacks-decimal byte n small apart = lacks-digits byte (decimal n) apart (decimal_is_IsNumeral n small).0.1

pub lacks-inner : (byte : ℕ) (ns : List ℕ) → AllByRecursion (λ n. n < 2 ^ 32) ns → ((c : ℕ) → 48 ≤ c → c ≤ 57 → c ≢ byte) → 62 ≢ byte
    → lacks byte (flat_map inner_text ns) ≡ true
lacks-inner byte [] small apart off = refl
lacks-inner byte (n ∷ ns) small apart off =
    let nil = append-nil (decimal n) in
    let below : 2 ^ 32 ≤ 2 ^ 64 = pow_mono {i = 32} {j = 64} (omega arith) in
    let first : lacks byte (decimal n ++ []) ≡ true = rw nil (lacks-decimal byte n (omega (arith, below, small.0)) apart) in
    elim (cases_Bool (62 == byte)) [
      | inl e ↦ absurd (off (eqb-true 62 byte e))
      | inr e ↦ rw e (lacks-append byte (decimal n ++ []) (flat_map inner_text ns) first (lacks-inner byte ns small.1 apart off))
    ]

pub lacks-path : (byte n : ℕ) (ns : List ℕ) → AllByRecursion (λ n. n < 2 ^ 32) (n ∷ ns) → ((c : ℕ) → 48 ≤ c → c ≤ 57 → c ≢ byte) → 62 ≢ byte
    → lacks byte (path_text (n ∷ ns)) ≡ true
lacks-path byte n ns small apart off =
    let below : 2 ^ 32 ≤ 2 ^ 64 = pow_mono {i = 32} {j = 64} (omega arith) in
    lacks-append byte (decimal n) (flat_map inner_text ns) (lacks-decimal byte n (omega (arith, below, small.0)) apart) (lacks-inner byte ns small.1 apart off)

pub lacks-name : (name : List ℕ) → list_all is_regular name ≡ true → lacks 32 name ≡ true
lacks-name [] regular = refl
lacks-name (c ∷ name) regular =
    elim (cases_Bool (is_regular c)) [
      | inl e ↦ (
          let later : list_all is_regular name ≡ true = rw e at regular in
          elim (cases_Bool (c == 32)) [
            | inl is ↦ (let blank : c ≡ 32 = eqb-true c 32 is in let never : false ≡ true = subst (λ b. is_regular b ≡ true) blank e in cc)
            | inr is ↦ rw is (lacks-name name later)
          ])
      | inr e ↦ (let never : false ≡ true = rw e at regular in cc)
    ]

all_at : (p : List ℕ → Bool) (i : ℕ) (texts : List (List ℕ)) → list_all p texts ≡ true → p [] ≡ true → p (slice_index_or texts i []) ≡ true
all_at p i [] all past = past
all_at p zero (t ∷ texts) all past = elim (cases_Bool (p t)) [
  | inl e ↦ e
  | inr e ↦ (let never : false ≡ true = rw e at all in cc)
]
all_at p (suc i) (t ∷ texts) all past = elim (cases_Bool (p t)) [
  | inl e ↦ (let later : list_all p texts ≡ true = rw e at all in all_at p i texts later past)
  | inr e ↦ (let never : false ≡ true = rw e at all in cc)
]

pub lacks-key : (key : ℕ) → lacks 32 (key_text_of key) ≡ true
lacks-key key = all_at (lacks 32) key key_texts refl refl

pub lacks-code : (rule : Rule) → lacks 32 (code_of rule) ≡ true
lacks-code F01 = refl
lacks-code _ = refl
