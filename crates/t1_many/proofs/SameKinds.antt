-- Two kinds are the same exactly where the test says so, and where their texts are the same.
use Rattle.std.proofs.Common.{◌≡◌, ◌<◌, ℕ, true, true≢false, nat_eq, List, [], ◌∷◌, ◌++◌, inl, inr, refl, sym, ap, ap₂, subst, ◌∙◌, arith}
use Rattle.std.proofs.lemmas.Bool.{and_parts, cases_Bool}
use Rattle.std.proofs.lemmas.Bool.Decides.{nat_tests}
use Rattle.std.proofs.lemmas.List.{append_cancel_right}
use Rattle.std.specs.Str.{bytes_eq}
use Rattle.t1_lines.proofs.Cuts.{some_same}
use Rattle.t1_lines.proofs.KeyTexts.{key-found, key_of}
use Rattle.t1_many.proofs.LineKinds.{code_is_a_word}
use Rattle.t1_many.proofs.Rows.{IsSplit, font_glyph, font_split, font_waiver, glyph_split, glyph_waiver, same_splits, unjoin, waiver_split}
use Rattle.t1_many.proofs.Texts.{equal, itself}
use Rattle.t1_many.specs.Kinds.{KindValue, UnitValue, kind_text, of_glyph, of_key, of_waiver, same_kind, same_unit}
use Rattle.t1_many.specs.Private.Counts.{IsUnit}
use Rattle.t1_rules.proofs.Lemmas.Book.{one_rule}
use Rattle.t1_rules.proofs.Lemmas.RuleCodes.{rule_is_found}
use Rattle.t1_rules.specs.Book.{code_of, number_of, rule_coded}
use Rattle.t1_rules.specs.Keys.{key_count, key_text_of}
use Rattle.t1_rules.specs.declared.rule.Rule.{Rule}

abbrev kind : Rule → UnitValue → KindValue
kind rule unit = record { rule = rule; unit = unit }

-- ---- by the test

same_number : (a b : Rule) → nat_eq (number_of a) (number_of b) ≡ true → a ≡ b
same_number a b same = one_rule a b (grind (arith, nat_tests, same))

own_number : (rule : Rule) → nat_eq (number_of rule) (number_of rule) ≡ true
own_number rule = grind (arith, nat_tests)

units_equal : (a b : UnitValue) → same_unit a b ≡ true → a ≡ b
units_equal (of_key a) (of_key b) same = (let is : a ≡ b = grind (arith, nat_tests, same) in ap of_key is)
units_equal (of_key a) (of_glyph b) same = absurd (true≢false (sym same))
units_equal (of_key a) (of_waiver b q) same = absurd (true≢false (sym same))
units_equal (of_glyph a) (of_key b) same = absurd (true≢false (sym same))
units_equal (of_glyph a) (of_glyph b) same = ap of_glyph (equal a b same)
units_equal (of_glyph a) (of_waiver b q) same = absurd (true≢false (sym same))
units_equal (of_waiver a p) (of_key b) same = absurd (true≢false (sym same))
units_equal (of_waiver a p) (of_glyph b) same = absurd (true≢false (sym same))
units_equal (of_waiver a p) (of_waiver b q) same =
    let parts = and_parts _ _ same in
    ap₂ of_waiver (equal a b parts.0) (same_number p q parts.1)

own_unit : (unit : UnitValue) → same_unit unit unit ≡ true
own_unit (of_key key) = grind (arith, nat_tests)
own_unit (of_glyph name) = itself name
own_unit (of_waiver name waived) = rw (itself name, own_number waived) refl

pub kinds_equal : (a b : KindValue) → same_kind a b ≡ true → a ≡ b
kinds_equal a b same =
    let parts = and_parts _ _ same in
    ap₂ kind (same_number a.rule b.rule parts.0) (units_equal a.unit b.unit parts.1)

pub own_kind : (a : KindValue) → same_kind a a ≡ true
own_kind a = rw (own_number a.rule, own_unit a.unit) refl

-- ---- by the text

same_rule : (a b : Rule) → code_of a ≡ code_of b → a ≡ b
same_rule a b codes_same = some_same a b (sym (rule_is_found a) ∙ ap rule_coded codes_same ∙ rule_is_found b)

same_key : (a b : ℕ) → a < key_count → b < key_count → key_text_of a ≡ key_text_of b → a ≡ b
same_key a b less_a less_b texts = some_same a b (sym (key-found a less_a) ∙ ap key_of texts ∙ key-found b less_b)

-- the words of a text
abbrev by_key : (rule : Rule) (key : ℕ) → IsSplit (kind_text (kind rule (of_key key))) []
by_key rule key = font_split (kind_text (kind rule (of_key key))) (code_of rule) (key_text_of key) [] (code_is_a_word rule) refl

abbrev by_name : (rule : Rule) (name : List ℕ) → IsSplit (kind_text (kind rule (of_glyph name))) []
by_name rule name = glyph_split (kind_text (kind rule (of_glyph name))) (code_of rule) name [] (code_is_a_word rule) refl

abbrev by_waiver : (rule : Rule) (name : List ℕ) (waived : Rule) → IsSplit (kind_text (kind rule (of_waiver name waived))) []
by_waiver rule name waived =
    waiver_split (kind_text (kind rule (of_waiver name waived))) (code_of rule) name (code_of waived) [] (code_is_a_word rule) refl

abbrev behind : List ℕ → List ℕ
behind text = text ++ (32 ∷ [])

texts_apart : (r s : Rule) (a b : UnitValue) → IsUnit a → IsUnit b → kind_text (kind r a) ≡ kind_text (kind s b) → kind r a ≡ kind s b
texts_apart r s (of_key a) (of_key b) is_a is_b same =
    let words = same_splits (by_key r a) (by_key s b) (ap behind same) in
    let keys = same_key a b is_a is_b (append_cancel_right _ _ (32 ∷ []) words.tail) in
    ap₂ kind (same_rule r s words.rule) (ap of_key keys)
texts_apart r s (of_glyph a) (of_glyph b) is_a is_b same =
    let words = same_splits (by_name r a) (by_name s b) (ap behind same) in
    let names = append_cancel_right _ _ (32 ∷ []) words.tail in
    ap₂ kind (same_rule r s words.rule) (ap of_glyph names)
texts_apart r s (of_waiver a p) (of_waiver b q) is_a is_b same =
    let words = same_splits (by_waiver r a p) (by_waiver s b q) (ap behind same) in
    let parts = unjoin a b (code_of p ++ (32 ∷ [])) (code_of q ++ (32 ∷ [])) is_a is_b words.tail in
    let waived = same_rule p q (append_cancel_right _ _ (32 ∷ []) parts.1) in
    ap₂ kind (same_rule r s words.rule) (ap₂ of_waiver parts.0 waived)
texts_apart r s (of_key a) (of_glyph b) is_a is_b same = absurd (font_glyph (same_splits (by_key r a) (by_name s b) (ap behind same)).unit)
texts_apart r s (of_key a) (of_waiver b q) is_a is_b same =
    absurd (font_waiver (same_splits (by_key r a) (by_waiver s b q) (ap behind same)).unit)
texts_apart r s (of_glyph a) (of_key b) is_a is_b same =
    absurd (font_glyph (sym (same_splits (by_name r a) (by_key s b) (ap behind same)).unit))
texts_apart r s (of_glyph a) (of_waiver b q) is_a is_b same =
    absurd (glyph_waiver (same_splits (by_name r a) (by_waiver s b q) (ap behind same)).unit)
texts_apart r s (of_waiver a p) (of_key b) is_a is_b same =
    absurd (font_waiver (sym (same_splits (by_waiver r a p) (by_key s b) (ap behind same)).unit))
texts_apart r s (of_waiver a p) (of_glyph b) is_a is_b same =
    absurd (glyph_waiver (sym (same_splits (by_waiver r a p) (by_name s b) (ap behind same)).unit))

-- the tests of kinds and of their texts are one
pub one_test : (a b : KindValue) → IsUnit a.unit → IsUnit b.unit → bytes_eq (kind_text a) (kind_text b) ≡ same_kind a b
one_test a b is_a is_b = elim (cases_Bool (same_kind a b)) [
  | inl same ↦
      subst (λ (k : KindValue). bytes_eq (kind_text a) (kind_text k) ≡ true) (kinds_equal a b same) (itself (kind_text a)) ∙ sym same
  | inr other ↦ elim (cases_Bool (bytes_eq (kind_text a) (kind_text b))) [
    | inl texts ↦
        let is : a ≡ b = texts_apart a.rule b.rule a.unit b.unit is_a is_b (equal (kind_text a) (kind_text b) texts) in
        absurd (true≢false (sym (own_kind a) ∙ ap (same_kind a) is ∙ other))
    | inr differ ↦ differ ∙ sym other
  ]
]
