-- What is in a result is read back.
use Rattle.std.proofs.Common.{◌≡◌, ◌≢◌, ◌<◌, ◌==◌, ◌/◌, ◌%◌, ◌*◌, ◌+◌, ℕ, true, false, List, [], ◌∷◌, ◌++◌, decimal, Some, inl, inr, refl, subst, arith}
use Rattle.std.proofs.lemmas.Bool.{cases_Bool}
use Rattle.std.proofs.lemmas.Bool.Decides.{nat_tests}
use Rattle.std.specs.List.{flat_map}
use Rattle.t1_lines.proofs.Lacking.{lacks-decimal}
use Rattle.t1_lines.proofs.Cuts.{lacks}
use Rattle.t1_rules.specs.Book.{code_of, text_of}
use Rattle.t1_lines.specs.Lines.{place_words, spaced}
use Rattle.t1_forms.proofs.ShownWords.{all_digits, digit_below}
use Rattle.t1_forms.specs.Percents.{decoded_behind, nothing}
use Rattle.t1_forms.specs.SarifDocuments.{MessagesHaveNoNumber, UrisAreReadBack}
use Rattle.t1_forms.specs.SarifObjects.{behind_colon, is_plain_in_uri, uri_byte}

-- ---- messages

behind_word : (word rest : List ℕ) → lacks 58 word ≡ true → behind_colon (word ++ (58 ∷ 32 ∷ rest)) ≡ rest
behind_word [] rest none = refl
behind_word (c ∷ word) rest none =
    elim (cases_Bool (c == 58)) [
      | inl e ↦ (let no : false ≡ true = rw e at none in cc)
      | inr e ↦ (let later : lacks 58 word ≡ true = rw e at none in rw e (behind_word word rest later))
    ]

pub messages : MessagesHaveNoNumber
messages l is =
    behind_word (decimal l.number) (spaced (place_words l.place (code_of l.rule)) (text_of l.rule))
    (lacks-decimal 58 l.number is.number (λ c low high same. absurd (omega (arith, low, high, same))))

-- ---- URIs

plain_other : (b : ℕ) → is_plain_in_uri b ≡ true → b ≢ 37
plain_other b plain same = let no : false ≡ true = subst (λ c. is_plain_in_uri c ≡ true) same plain in cc

uri_front : (b : ℕ) (rest text : List ℕ) → b < 256 → decoded_behind nothing rest ≡ Some text
    → decoded_behind nothing (uri_byte b ++ rest) ≡ Some (b ∷ text)
unfolding decoded_behind
uri_front b rest text small h = elim (cases_Bool (is_plain_in_uri b)) [
  | inl plain ↦
      let other = plain_other b plain in
      let no : (b == 37) ≡ false = grind (arith, nat_tests, other) in
      rw plain (rw (no, h) refl)
  | inr escaped ↦
      let high = digit_below 16 all_digits (b / 16) (omega arith) in
      let low = digit_below 16 all_digits (b % 16) (omega arith) in
      let whole : b / 16 * 16 + b % 16 ≡ b = omega arith in
      rw escaped (rw (high, low, h, whole) refl)
]

pub uris : UrisAreReadBack
unfolding decoded_behind
uris [] small = refl
uris (b ∷ path) small = uri_front b (flat_map uri_byte path) path small.0 (uris path small.1)
