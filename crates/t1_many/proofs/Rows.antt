-- A text is that of one row at most.
use Rattle.std.proofs.Common.{◌≡◌, ◌==◌, ℕ, true, true≢false, not, List, [], ◌∷◌, ◌++◌, codes, refl, sym, ap, ap₂, subst, ◌∙◌, arith, append_assoc, append-nil}
use Rattle.std.proofs.lemmas.Bool.{and_parts}
use Rattle.std.proofs.lemmas.Bool.Decides.{nat_tests}
use Rattle.std.proofs.lemmas.List.{append_cancel_right}
use Rattle.std.specs.List.{concat, list_all}
use Rattle.t1_scan.specs.Bytes.{is_decimal_digit}
use Rattle.t1_many.proofs.Texts.{all_by}
use Rattle.t1_many.specs.KnownFaults.{IsKind, RowValue, is_word}
use Rattle.t1_many.specs.KnownFaults.IsKind.{of_font, of_glyph, of_waiver}
use Rattle.t1_many.specs.Laws.{ATextIsOneRow}

-- ---- words

no_word : (byte : ℕ) (word : List ℕ) → byte ≡ 32 → is_word (byte ∷ word) ≡ true → ⊥
no_word byte word is word_is = true≢false (sym (subst (λ b. is_word (b ∷ word) ≡ true) is word_is))

-- what is before the first blank, and what after it
pub unjoin : (x y xs ys : List ℕ) → is_word x ≡ true → is_word y ≡ true → x ++ (32 ∷ xs) ≡ y ++ (32 ∷ ys) → (x ≡ y) × (xs ≡ ys)
unjoin [] [] xs ys word_x word_y e = let rest : xs ≡ ys = cc in (refl, rest)
unjoin [] (b ∷ y) xs ys word_x word_y e = let blank : b ≡ 32 = cc in absurd (no_word b y blank word_y)
unjoin (a ∷ x) [] xs ys word_x word_y e = let blank : a ≡ 32 = cc in absurd (no_word a x blank word_x)
unjoin (a ∷ x) (b ∷ y) xs ys word_x word_y e =
    let tails : x ++ (32 ∷ xs) ≡ y ++ (32 ∷ ys) = cc in
    let heads : a ≡ b = cc in
    let rest : (x ≡ y) × (xs ≡ ys) = unjoin x y xs ys (and_parts _ _ word_x).1 (and_parts _ _ word_y).1 tails in
    (ap₂ (λ c (cs : List ℕ). c ∷ cs) heads rest.0, rest.1)

-- ---- kinds

-- A kind with a blank and a rest after it, by its first two words.
pub record IsSplit (kind rest : List ℕ) : Type 0 where
  pub rule : List ℕ
  pub unit : List ℕ
  pub tail : List ℕ
  pub rule_is : is_word rule ≡ true
  pub unit_is : is_word unit ≡ true
  pub is : kind ++ (32 ∷ rest) ≡ rule ++ (32 ∷ (unit ++ (32 ∷ tail)))

-- one word after the unit's first
pub short : (rule unit word rest : List ℕ)
    → (rule ++ (32 ∷ (unit ++ (32 ∷ (word ++ []))))) ++ (32 ∷ rest) ≡ rule ++ (32 ∷ (unit ++ (32 ∷ (word ++ (32 ∷ rest)))))
short rule unit word rest =
    append_assoc rule (32 ∷ (unit ++ (32 ∷ (word ++ [])))) (32 ∷ rest)
    ∙ ap (λ t. rule ++ (32 ∷ t))
    (append_assoc unit (32 ∷ (word ++ [])) (32 ∷ rest) ∙ ap (λ w. unit ++ (32 ∷ (w ++ (32 ∷ rest)))) (append-nil word))

-- two words
pub long : (rule unit word waived rest : List ℕ)
    → (rule ++ (32 ∷ (unit ++ (32 ∷ (word ++ (32 ∷ (waived ++ []))))))) ++ (32 ∷ rest)
    ≡ rule ++ (32 ∷ (unit ++ (32 ∷ (word ++ (32 ∷ (waived ++ (32 ∷ rest)))))))
long rule unit word waived rest =
    append_assoc rule (32 ∷ (unit ++ (32 ∷ (word ++ (32 ∷ (waived ++ [])))))) (32 ∷ rest)
    ∙ ap (λ t. rule ++ (32 ∷ t))
    (append_assoc unit (32 ∷ (word ++ (32 ∷ (waived ++ [])))) (32 ∷ rest)
    ∙ ap (λ t. unit ++ (32 ∷ t))
    (append_assoc word (32 ∷ (waived ++ [])) (32 ∷ rest) ∙ ap (λ w. word ++ (32 ∷ (w ++ (32 ∷ rest)))) (append-nil waived)))

abbrev pub font_split : (kind rule key rest : List ℕ) → is_word rule ≡ true → kind ≡ concat (rule ∷ codes " font " ∷ key ∷ []) → IsSplit kind rest
font_split kind rule key rest rule_is is = record {
  rule = rule;
  unit = codes "font";
  tail = key ++ (32 ∷ rest);
  rule_is = rule_is;
  unit_is = refl;
  is = ap (λ k. k ++ (32 ∷ rest)) is ∙ short rule (codes "font") key rest;
}

abbrev pub glyph_split : (kind rule name rest : List ℕ) → is_word rule ≡ true → kind ≡ concat (rule ∷ codes " glyph " ∷ name ∷ []) → IsSplit kind rest
glyph_split kind rule name rest rule_is is = record {
  rule = rule;
  unit = codes "glyph";
  tail = name ++ (32 ∷ rest);
  rule_is = rule_is;
  unit_is = refl;
  is = ap (λ k. k ++ (32 ∷ rest)) is ∙ short rule (codes "glyph") name rest;
}

abbrev pub waiver_split : (kind rule name waived rest : List ℕ) → is_word rule ≡ true
    → kind ≡ concat (rule ∷ codes " waiver " ∷ name ∷ codes " " ∷ waived ∷ []) → IsSplit kind rest
waiver_split kind rule name waived rest rule_is is = record {
  rule = rule;
  unit = codes "waiver";
  tail = name ++ (32 ∷ (waived ++ (32 ∷ rest)));
  rule_is = rule_is;
  unit_is = refl;
  is = ap (λ k. k ++ (32 ∷ rest)) is ∙ long rule (codes "waiver") name waived rest;
}

-- the words of two splits of one text
pub record AreSame {kind kind' rest rest' : List ℕ} (a : IsSplit kind rest) (b : IsSplit kind' rest') : Type 0 where
  pub rule : a.rule ≡ b.rule
  pub unit : a.unit ≡ b.unit
  pub tail : a.tail ≡ b.tail

pub same_splits : {kind kind' rest rest' : List ℕ} (a : IsSplit kind rest) (b : IsSplit kind' rest') → kind ++ (32 ∷ rest) ≡ kind' ++ (32 ∷ rest')
    → AreSame a b
same_splits a b e =
    let rules = unjoin a.rule b.rule (a.unit ++ (32 ∷ a.tail)) (b.unit ++ (32 ∷ b.tail)) a.rule_is b.rule_is (sym a.is ∙ e ∙ b.is) in
    let units = unjoin a.unit b.unit a.tail b.tail a.unit_is b.unit_is rules.1 in
    record { rule = rules.0; unit = units.0; tail = units.1 }

pub font_glyph : codes "font" ≡ codes "glyph" → ⊥
font_glyph e = let no : ◌≡◌ {A = ℕ} 102 103 = cc in absurd (omega (arith, no))

pub font_waiver : codes "font" ≡ codes "waiver" → ⊥
font_waiver e = let no : ◌≡◌ {A = ℕ} 102 119 = cc in absurd (omega (arith, no))

pub glyph_waiver : codes "glyph" ≡ codes "waiver" → ⊥
glyph_waiver e = let no : ◌≡◌ {A = ℕ} 103 119 = cc in absurd (omega (arith, no))

-- a kind and what follows it
kinds : (a b rest rest' : List ℕ) → IsKind a → IsKind b → a ++ (32 ∷ rest) ≡ b ++ (32 ∷ rest') → (a ≡ b) × (rest ≡ rest')
kinds a b rest rest' (of_font rule key ra ka is) (of_font rule' key' rb kb is') e =
    let same = same_splits (font_split a rule key rest ra is) (font_split b rule' key' rest' rb is') e in
    let last = unjoin key key' rest rest' ka kb same.tail in
    (is ∙ ap (λ r. concat (r ∷ codes " font " ∷ key ∷ [])) same.rule ∙ ap (λ k. concat (rule' ∷ codes " font " ∷ k ∷ [])) last.0 ∙ sym is', last.1)
kinds a b rest rest' (of_glyph rule name ra na is) (of_glyph rule' name' rb nb is') e =
    let same = same_splits (glyph_split a rule name rest ra is) (glyph_split b rule' name' rest' rb is') e in
    let last = unjoin name name' rest rest' na nb same.tail in
    (is ∙ ap (λ r. concat (r ∷ codes " glyph " ∷ name ∷ [])) same.rule ∙ ap (λ n. concat (rule' ∷ codes " glyph " ∷ n ∷ [])) last.0 ∙ sym is', last.1)
kinds a b rest rest' (of_waiver rule name waived ra na wa is) (of_waiver rule' name' waived' rb nb wb is') e =
    let same = same_splits (waiver_split a rule name waived rest ra is) (waiver_split b rule' name' waived' rest' rb is') e in
    let names = unjoin name name' (waived ++ (32 ∷ rest)) (waived' ++ (32 ∷ rest')) na nb same.tail in
    let last = unjoin waived waived' rest rest' wa wb names.1 in (
      is ∙ ap (λ r. concat (r ∷ codes " waiver " ∷ name ∷ codes " " ∷ waived ∷ [])) same.rule
          ∙ ap (λ n. concat (rule' ∷ codes " waiver " ∷ n ∷ codes " " ∷ waived ∷ [])) names.0
          ∙ ap (λ w. concat (rule' ∷ codes " waiver " ∷ name' ∷ codes " " ∷ w ∷ [])) last.0 ∙ sym is',
      last.1,
    )
kinds a b rest rest' (of_font rule key ra ka is) (of_glyph rule' name' rb nb is') e =
    absurd (font_glyph (same_splits (font_split a rule key rest ra is) (glyph_split b rule' name' rest' rb is') e).unit)
kinds a b rest rest' (of_font rule key ra ka is) (of_waiver rule' name' waived' rb nb wb is') e =
    absurd (font_waiver (same_splits (font_split a rule key rest ra is) (waiver_split b rule' name' waived' rest' rb is') e).unit)
kinds a b rest rest' (of_glyph rule name ra na is) (of_font rule' key' rb kb is') e =
    absurd (font_glyph (sym (same_splits (glyph_split a rule name rest ra is) (font_split b rule' key' rest' rb is') e).unit))
kinds a b rest rest' (of_glyph rule name ra na is) (of_waiver rule' name' waived' rb nb wb is') e =
    absurd (glyph_waiver (same_splits (glyph_split a rule name rest ra is) (waiver_split b rule' name' waived' rest' rb is') e).unit)
kinds a b rest rest' (of_waiver rule name waived ra na wa is) (of_font rule' key' rb kb is') e =
    absurd (font_waiver (sym (same_splits (waiver_split a rule name waived rest ra is) (font_split b rule' key' rest' rb is') e).unit))
kinds a b rest rest' (of_waiver rule name waived ra na wa is) (of_glyph rule' name' rb nb is') e =
    absurd (glyph_waiver (sym (same_splits (waiver_split a rule name waived rest ra is) (glyph_split b rule' name' rest' rb is') e).unit))

-- ---- rows

digit_is_no_blank : (byte : ℕ) → is_decimal_digit byte ≡ true → not (byte == 32) ≡ true
digit_is_no_blank byte digit = grind (arith, nat_tests, digit)

pub digits_are_a_word : (digits : List ℕ) → list_all is_decimal_digit digits ≡ true → is_word digits ≡ true
digits_are_a_word digits all = all_by is_decimal_digit (λ byte. not (byte == 32)) digit_is_no_blank digits all

abbrev made : List ℕ → List ℕ → List ℕ → RowValue
made count kind font = record { count = count; kind = kind; font = font }

pub one_row : ATextIsOneRow
one_row a b is_a is_b e =
    let counts = unjoin a.count b.count (a.kind ++ (32 ∷ (a.font ++ (10 ∷ [])))) (b.kind ++ (32 ∷ (b.font ++ (10 ∷ []))))
    (digits_are_a_word a.count is_a.count) (digits_are_a_word b.count is_b.count) e in
    let kind = kinds a.kind b.kind (a.font ++ (10 ∷ [])) (b.font ++ (10 ∷ [])) is_a.kind is_b.kind counts.1 in
    let font : a.font ≡ b.font = append_cancel_right a.font b.font (10 ∷ []) kind.1 in
    ap (λ c. made c a.kind a.font) counts.0 ∙ ap (λ k. made b.count k a.font) kind.0 ∙ ap (λ f. made b.count b.kind f) font
