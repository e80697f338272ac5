-- Texts as XML.
use Rattle.std.proofs.Common.{◌≡◌, ◌==◌, ◌<◌, ◌≤◌, ℕ, suc, Bool, true, false, List, [], ◌∷◌, map, length, get_or, inl, inr, refl, sym, subst, ◌∙◌, arith, append-nil}
use Rattle.std.proofs.lemmas.Bool.{cases_Bool, cases_lt}
use Rattle.std.proofs.lemmas.Bool.Decides.{nat_tests}
use Rattle.std.proofs.lemmas.List.Concat.{concat_is}
use Rattle.std.proofs.lemmas.List.Folds.{flat_map-map, list_any-append}
use Rattle.std.proofs.lemmas.Str.{inside_one}
use Rattle.std.specs.List.{flat_map, list_all, list_any}
use Rattle.std.specs.Str.{chars}
use lib.Utf8.{encode}
use Rattle.t1_picture.specs.Laws.{AmpersandsBeginEntities, TextsHaveNoMarkup, is_markup, is_piece}
use Rattle.t1_forms.specs.Xml.{xml_char}

none_by_index : (test : ℕ → Bool) (xs : List ℕ) → ((k : ℕ) → k < length xs → test (get_or xs k 0) ≡ false) → list_any test xs ≡ false
none_by_index test [] none = refl
none_by_index test (x ∷ xs) none =
    rw (none 0 (omega arith), none_by_index test xs (λ k less. none (suc k) (omega (arith, less)))) refl

-- The bytes of a character are its own, or 128 and more.
none_encoded : (test : ℕ → Bool) (c : ℕ) → test c ≡ false → ((b : ℕ) → 128 ≤ b → test b ≡ false) → list_any test (encode c) ≡ false
none_encoded test c own high = none_by_index test (encode c) (λ k less. elim (cases_lt (get_or (encode c) k 0) 128) [
  | inl low ↦ subst (λ (b : ℕ). test b ≡ false) (inside_one c [] (encode c) k (sym (append-nil (encode c))) less low) own
  | inr above ↦ high (get_or (encode c) k 0) above
])

none_in_all : (test : ℕ → Bool) (text_of : ℕ → List ℕ) → ((c : ℕ) → list_any test (text_of c) ≡ false) → (cs : List ℕ)
    → list_any test (flat_map text_of cs) ≡ false
none_in_all test text_of none [] = refl
none_in_all test text_of none (c ∷ cs) =
    list_any-append test (text_of c) (flat_map text_of cs) ∙ rw (none c, none_in_all test text_of none cs) refl

no_markup : (c : ℕ) → list_any is_markup (xml_char c) ≡ false
no_markup c = elim (cases_Bool (c == 38)) [
  | inl y ↦ rw y refl
  | inr n38 ↦ elim (cases_Bool (c == 60)) [
    | inl y ↦ rw (n38, y) refl
    | inr n60 ↦ elim (cases_Bool (c == 62)) [
      | inl y ↦ rw (n38, n60, y) refl
      | inr n62 ↦ elim (cases_Bool (c == 34)) [
        | inl y ↦ rw (n38, n60, n62, y) refl
        | inr n34 ↦ rw (n38, n60, n62, n34) (none_encoded is_markup c (rw (n60, n62, n34) refl) (λ b above. grind (arith, nat_tests, above)))
      ]
    ]
  ]
]

a_piece : (c : ℕ) → is_piece (xml_char c) ≡ true
a_piece c = elim (cases_Bool (c == 38)) [
  | inl y ↦ rw y refl
  | inr n38 ↦ elim (cases_Bool (c == 60)) [
    | inl y ↦ rw (n38, y) refl
    | inr n60 ↦ elim (cases_Bool (c == 62)) [
      | inl y ↦ rw (n38, n60, y) refl
      | inr n62 ↦ elim (cases_Bool (c == 34)) [
        | inl y ↦ rw (n38, n60, n62, y) refl
        | inr n34 ↦
            let none : list_any (λ (b : ℕ). b == 38) (encode c) ≡ false =
            none_encoded (λ (b : ℕ). b == 38) c n38 (λ b above. grind (arith, nat_tests, above)) in
            rw (n38, n60, n62, n34, none) refl
      ]
    ]
  ]
]

pieces : (cs : List ℕ) → list_all is_piece (map xml_char cs) ≡ true
pieces [] = refl
pieces (c ∷ cs) = rw (a_piece c, pieces cs) refl

pub texts_have_no_markup : TextsHaveNoMarkup
texts_have_no_markup text = none_in_all is_markup xml_char no_markup (chars text)

pub ampersands_begin_entities : AmpersandsBeginEntities
ampersands_begin_entities text =
    (map xml_char (chars text), concat_is (map xml_char (chars text)) ∙ flat_map-map (λ (x : List ℕ). x) xml_char (chars text), pieces (chars text))
