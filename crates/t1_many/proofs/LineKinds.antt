-- The kind of a line's fault is one.
use Rattle.std.proofs.Common.{◌≡◌, ◌<◌, ◌==◌, ℕ, zero, suc, Bool, true, false, not, List, [], ◌∷◌, ◌++◌, codes, length, slice_index_or, refl, ap, arith}
use Rattle.std.proofs.lemmas.Bool.{and_parts}
use Rattle.std.proofs.lemmas.Bool.Decides.{nat_tests}
use Rattle.std.specs.List.{list_all}
use Rattle.t1_scan.specs.Bytes.{is_regular}
use Rattle.t1_rules.specs.Book.{code_of}
use Rattle.t1_rules.specs.Keys.{key_count, key_text_of, key_texts}
use Rattle.t1_rules.specs.declared.rule.Rule.{Rule}
use Rattle.t1_rules.specs.declared.rule.Rule.TheVariants.{F01}
use Rattle.t1_lines.specs.Lines.{IsPlace, PlaceValue, at_key, at_step, at_waiver}
use Rattle.t1_many.proofs.Texts.{all_by}
use Rattle.t1_many.specs.KnownFaults.{IsKind, is_word, kind_at, rule_of}
use Rattle.t1_many.specs.KnownFaults.IsKind.{of_font, of_glyph, of_waiver}
use Rattle.t1_many.specs.Laws.{KindsNameTheirRules, LinesHaveKinds}

pub code_is_a_word : (rule : Rule) → is_word (code_of rule) ≡ true
code_is_a_word F01 = refl
code_is_a_word _ = refl

regular_is_no_blank : (byte : ℕ) → is_regular byte ≡ true → not (byte == 32) ≡ true
regular_is_no_blank byte regular = grind (arith, nat_tests, regular)

pub name_is_a_word : (name : List ℕ) → list_all is_regular name ≡ true → is_word name ≡ true
name_is_a_word name all = all_by is_regular (λ byte. not (byte == 32)) regular_is_no_blank name all

each_text : (p : List ℕ → Bool) (texts : List (List ℕ)) (i : ℕ) (d : List ℕ) → list_all p texts ≡ true → i < length texts
    → p (slice_index_or texts i d) ≡ true
each_text p [] i d all less = absurd (omega arith)
each_text p (text ∷ texts) zero d all less = (and_parts _ _ all).0
each_text p (text ∷ texts) (suc i) d all less = each_text p texts i d (and_parts _ _ all).1 (omega arith)

pub key_is_a_word : (key : ℕ) → key < key_count → is_word (key_text_of key) ≡ true
key_is_a_word key less = each_text is_word key_texts key [] refl less

pub kinds_at : (rule : Rule) (place : PlaceValue) → IsPlace place rule → IsKind (kind_at rule place)
kinds_at rule (at_key key index) is = of_font (code_of rule) (key_text_of key) (code_is_a_word rule) (key_is_a_word key is.0) refl
kinds_at rule (at_step name path step) is = of_glyph (code_of rule) name (code_is_a_word rule) (name_is_a_word name is.0) refl
kinds_at rule (at_waiver name waived) is =
    of_waiver (code_of rule) name (code_of waived) (code_is_a_word rule) (name_is_a_word name is.0) (code_is_a_word waived) refl

-- ---- the code at the beginning

up_to_blank : (word rest : List ℕ) → is_word word ≡ true → rule_of (word ++ (32 ∷ rest)) ≡ word
up_to_blank [] rest all = refl
up_to_blank (b ∷ bytes) rest all =
    let parts = and_parts (not (b == 32)) (is_word bytes) all in
    let other : (b == 32) ≡ false = grind (arith, nat_tests, parts.0) in
    rw other (ap (λ (w : List ℕ). b ∷ w) (up_to_blank bytes rest parts.1))

in_front : (rule : Rule) (place : PlaceValue) → rule_of (kind_at rule place) ≡ code_of rule
in_front rule (at_key key index) = up_to_blank (code_of rule) (codes "font " ++ (key_text_of key ++ [])) (code_is_a_word rule)
in_front rule (at_step name path step) = up_to_blank (code_of rule) (codes "glyph " ++ (name ++ [])) (code_is_a_word rule)
in_front rule (at_waiver name waived) =
    up_to_blank (code_of rule) (codes "waiver " ++ (name ++ (32 ∷ (code_of waived ++ [])))) (code_is_a_word rule)

pub name_rules : KindsNameTheirRules
name_rules l = in_front l.rule l.place

pub have_kinds : LinesHaveKinds
have_kinds l is = kinds_at l.rule l.place is.place
