-- A text that is cut at its first byte of a kind.
use Rattle.std.proofs.Common.{◌≡◌, ◌+◌, ℕ, suc, Bool, true, false, ◌==◌, List, [], ◌∷◌, ◌++◌, drop, take, length, refl, sym, ◌∙◌, inl, inr, arith, Option, Some, None, option_map}
use Rattle.std.proofs.lemmas.Bool.{cases_Bool, eqb-true}
use Rattle.std.specs.List.{list_all, prefix_len}
use Rattle.t1_lines.specs.Cutting.{cut}
use Rattle.t1_lines.specs.Private.Bytes.{differs}

-- No such byte is in the text.
abbrev pub lacks : ℕ → List ℕ → Bool
lacks byte text = list_all (differs byte) text

-- What is before it, and after it, by what there is from it on.
abbrev pub parts : List ℕ → List ℕ → Option (List ℕ × List ℕ)
parts front [] = None
parts front (c ∷ rest) = Some (front, rest)

parts-more : (c : ℕ) (front rest : List ℕ) → option_map (λ p. (c ∷ p.0, p.1)) (parts front rest) ≡ parts (c ∷ front) rest
parts-more c front [] = refl
parts-more c front (x ∷ rest) = refl

pub cut_by_front : (byte : ℕ) (text : List ℕ) → cut byte text ≡ parts (take (prefix_len (differs byte) text) text) (drop (prefix_len (differs byte) text) text)
cut_by_front byte [] = refl
cut_by_front byte (c ∷ text) =
    let n = prefix_len (differs byte) text in
    elim (cases_Bool (c == byte)) [
      | inl e ↦ rw e refl
      | inr e ↦ (let more : 1 + n ≡ suc n = omega arith in rw (e, more, cut_by_front byte text) (parts-more c (take n text) (drop n text)))
    ]

pub cut_there : (byte : ℕ) (text front rest more : List ℕ) (c n : ℕ) → n ≡ prefix_len (differs byte) text → front ≡ take n text → rest ≡ drop n text
    → rest ≡ c ∷ more → Some (front, more) ≡ cut byte text
cut_there byte text front rest more c n at is_front is_rest is_more =
    sym (cut_by_front byte text ∙ (rw (sym at, sym is_front, sym is_rest, is_more) refl))

empty : (rest : List ℕ) → length rest ≡ 0 → rest ≡ []
empty [] none = refl
empty (c ∷ rest) none = absurd (omega (arith, none))

pub cut_nowhere : (byte : ℕ) (text front rest : List ℕ) (n : ℕ) → n ≡ prefix_len (differs byte) text → rest ≡ drop n text → length rest ≡ 0
    → None ≡ cut byte text
cut_nowhere byte text front rest n at is_rest none =
    let is_empty = empty rest none in
    sym (cut_by_front byte text ∙ (rw (sym at, sym is_rest, is_empty) refl))

pub cut-append : (byte : ℕ) (front rest : List ℕ) → lacks byte front ≡ true → cut byte (front ++ (byte ∷ rest)) ≡ Some (front, rest)
cut-append byte [] rest none =
    let same : (byte == byte) ≡ true = grind arith in rw same refl
cut-append byte (c ∷ front) rest none =
    elim (cases_Bool (c == byte)) [
      | inl e ↦ (let no : false ≡ true = rw e at none in cc)
      | inr e ↦ (let later : lacks byte front ≡ true = rw e at none in rw (e, cut-append byte front rest later) refl)
    ]

pub some_same : {A : Type 0} (x y : A) → Some x ≡ Some y → x ≡ y
some_same x y e = cc

pub map_some : {A B P : Type 0} (f : A → B) (o : Option A) (y : B) → option_map f o ≡ Some y → ((x : A) → o ≡ Some x → f x ≡ y → P) → P
map_some f None y e k = cc
map_some f (Some x) y e k = k x refl (some_same (f x) y e)

-- What was cut is the text.
pub cut-joined : (byte : ℕ) (text : List ℕ) (p : List ℕ × List ℕ) → cut byte text ≡ Some p → text ≡ p.0 ++ (byte ∷ p.1)
cut-joined byte [] p e = cc
cut-joined byte (c ∷ text) p e =
    elim (cases_Bool (c == byte)) [
      | inl at ↦ (let here : Some ([], text) ≡ Some p = rw at at e in let same : c ≡ byte = eqb-true c byte at in let q : List ℕ × List ℕ = ([], text) in
          let is = some_same q p here in
          rw (sym is, same) refl)
      | inr at ↦ (
          let there : option_map (λ p. (c ∷ p.0, p.1)) (cut byte text) ≡ Some p = rw at at e in
          elim (cut byte text) as (λ o. cut byte text ≡ o → option_map (λ p. (c ∷ p.0, p.1)) o ≡ Some p → c ∷ text ≡ p.0 ++ (byte ∷ p.1)) [
            | None ↦ λ is got. cc
            | Some q ↦ λ is got. (let tail = cut-joined byte text q is in cc)
          ] refl there)
    ]
