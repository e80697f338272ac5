-- A line is read as a row exactly where it is one.
-- A row's words have no blank, so its first blanks cut it where it was joined.
use Rattle.std.proofs.Common.{◌≡◌, ◌-◌, ◌==◌, ℕ, true, false, List, [], ◌∷◌, ◌++◌, codes, length, take, Option, None, Some, option_map, inl, inr, refl, sym, ap, subst, ◌∙◌, arith, append_assoc, length-append}
use Rattle.std.proofs.lemmas.Bool.{cases_Bool}
use Rattle.std.proofs.lemmas.Bool.Decides.{nat_tests}
use Rattle.std.proofs.lemmas.List.{append_cancel_right}
use Rattle.std.proofs.lemmas.Option.{none-some}
use Rattle.std.specs.List.{concat, list_all}
use Rattle.std.specs.Option.{option_and_then}
use Rattle.std.specs.Prelude.{MatchOption}
use Rattle.std.specs.Str.{bytes_eq}
use Rattle.t1_lines.proofs.Cuts.{cut-append, cut-joined, some_same}
use Rattle.t1_lines.specs.Cutting.{cut}
use Rattle.t1_many.proofs.Rows.{digits_are_a_word, long, short}
use Rattle.t1_many.proofs.Texts.{equal}
use Rattle.t1_many.specs.KnownFaults.{IsKind, IsRow, RowValue, is_word, row_text}
use Rattle.t1_many.specs.KnownFaults.IsKind.{of_font, of_glyph, of_waiver}
use Rattle.t1_many.specs.Private.Rows.{front, kind_cut, row_if, row_read, unit_cut}
use Rattle.t1_many.specs.RowValues.{IsNoRow, row_value}
use Rattle.t1_many.specs.declared.row.Row.{Row}
use Rattle.t1_scan.specs.Bytes.{is_decimal_digit}

-- ---- words

word_cut : (word rest : List ℕ) → is_word word ≡ true → cut 32 (word ++ (32 ∷ rest)) ≡ Some (word, rest)
word_cut word rest is = cut-append 32 word rest is

-- what was cut off is one
cut_word : (text : List ℕ) (p : List ℕ × List ℕ) → cut 32 text ≡ Some p → is_word p.0 ≡ true
cut_word [] p e = cc
cut_word (c ∷ text) p e =
    elim (cases_Bool (c == 32)) [
      | inl at ↦ (let here : Some ([], text) ≡ Some p = rw at at e in let q : List ℕ × List ℕ = ([], text) in
          subst (λ (r : List ℕ × List ℕ). is_word r.0 ≡ true) (some_same q p here) refl)
      | inr at ↦ (
          let there : option_map (λ p. (c ∷ p.0, p.1)) (cut 32 text) ≡ Some p = rw at at e in
          elim (cut 32 text) as (λ o. cut 32 text ≡ o → option_map (λ p. (c ∷ p.0, p.1)) o ≡ Some p → is_word p.0 ≡ true) [
            | None ↦ λ is got. cc
            | Some q ↦ λ is got. (let r : List ℕ × List ℕ = (c ∷ q.0, q.1) in
                subst (λ (s : List ℕ × List ℕ). is_word s.0 ≡ true) (some_same r p got) (rw at (cut_word text q is)))
          ] refl there)
    ]

-- ---- kinds

take_kind : (kind rest : List ℕ) → take (length kind) (kind ++ rest) ≡ kind
take_kind [] rest = refl
take_kind (c ∷ kind) rest = ap (λ (l : List ℕ). c ∷ l) (take_kind kind rest)

front_is : (kind rest : List ℕ) → front (kind ++ (32 ∷ rest)) rest ≡ kind
front_is kind rest =
    let count : length (kind ++ (32 ∷ rest)) - length rest - 1 ≡ length kind = omega (arith, length-append kind (32 ∷ rest)) in
    ap (λ n. take n (kind ++ (32 ∷ rest))) count ∙ take_kind kind (32 ∷ rest)

finish : (kind rest text : List ℕ) (k : List ℕ × List ℕ) → IsKind kind → text ≡ kind ++ (32 ∷ rest) → Some (front text rest, rest) ≡ Some k
    → IsKind k.0 × (text ≡ k.0 ++ (32 ∷ k.1))
finish kind rest text k is split got =
    let q : List ℕ × List ℕ = (front text rest, rest) in
    let front_same : front text rest ≡ kind = ap (λ t. front t rest) split ∙ front_is kind rest in
    subst (λ (r : List ℕ × List ℕ). IsKind r.0 × (text ≡ r.0 ++ (32 ∷ r.1))) (some_same q k got)
    (subst IsKind (sym front_same) is, split ∙ ap (λ f. f ++ (32 ∷ rest)) (sym front_same))

unit_sound : (rule unit name rest text : List ℕ) (k : List ℕ × List ℕ) → is_word rule ≡ true → is_word name ≡ true
    → text ≡ rule ++ (32 ∷ (unit ++ (32 ∷ (name ++ (32 ∷ rest))))) → unit_cut text unit rest ≡ Some k
    → IsKind k.0 × (text ≡ k.0 ++ (32 ∷ k.1))
unfolding unit_cut
unit_sound rule unit name rest text k rule_is name_is split e =
    elim (cases_Bool (bytes_eq unit (codes "font"))) [
      | inl font ↦ finish (concat (rule ∷ codes " font " ∷ name ∷ [])) rest text k (of_font rule name rule_is name_is refl)
          (named (codes "font") font ∙ sym (short rule (codes "font") name rest)) (rw font at e)
      | inr not_font ↦ elim (cases_Bool (bytes_eq unit (codes "glyph"))) [
        | inl glyph ↦ finish (concat (rule ∷ codes " glyph " ∷ name ∷ [])) rest text k (of_glyph rule name rule_is name_is refl)
            (named (codes "glyph") glyph ∙ sym (short rule (codes "glyph") name rest)) (rw (not_font, glyph) at e)
        | inr not_glyph ↦ elim (cases_Bool (bytes_eq unit (codes "waiver"))) [
          | inl waiver ↦ waived waiver (rw (not_font, not_glyph, waiver) at e)
          | inr other ↦ (let none : None ≡ Some k = rw (not_font, not_glyph, other) at e in cc)
        ]
      ]
    ]
  where
    named : (word : List ℕ) → bytes_eq unit word ≡ true → text ≡ rule ++ (32 ∷ (word ++ (32 ∷ (name ++ (32 ∷ rest)))))
    named word same = split ∙ ap (λ u. rule ++ (32 ∷ (u ++ (32 ∷ (name ++ (32 ∷ rest)))))) (equal unit word same)

    waived : bytes_eq unit (codes "waiver") ≡ true → option_map (λ p. (front text p.1, p.1)) (cut 32 rest) ≡ Some k
        → IsKind k.0 × (text ≡ k.0 ++ (32 ∷ k.1))
    waived same there =
        elim (cut 32 rest) as (λ o. cut 32 rest ≡ o → option_map (λ p. (front text p.1, p.1)) o ≡ Some k
        → IsKind k.0 × (text ≡ k.0 ++ (32 ∷ k.1))) [
          | None ↦ λ is got. cc
          | Some p ↦ λ is got. finish (concat (rule ∷ codes " waiver " ∷ name ∷ codes " " ∷ p.0 ∷ [])) p.1 text k
              (of_waiver rule name p.0 rule_is name_is (cut_word rest p is) refl)
              (named (codes "waiver") same ∙ ap (λ r. rule ++ (32 ∷ (codes "waiver" ++ (32 ∷ (name ++ (32 ∷ r)))))) (cut-joined 32 rest p is)
              ∙ sym (long rule (codes "waiver") name p.0 p.1)) got
        ] refl there

abbrev KindIs : List ℕ → List ℕ × List ℕ → Type 0
KindIs text k = IsKind k.0 × (text ≡ k.0 ++ (32 ∷ k.1))

kind_sound : (text : List ℕ) (k : List ℕ × List ℕ) → kind_cut text ≡ Some k → IsKind k.0 × (text ≡ k.0 ++ (32 ∷ k.1))
unfolding kind_cut
kind_sound text k e =
    elim (cut 32 text) as (λ o. cut 32 text ≡ o
    → option_and_then (λ p. option_and_then (λ q. option_and_then (λ r. unit_cut text q.0 r.1) (cut 32 q.1)) (cut 32 p.1)) o ≡ Some k → KindIs text k) [
      | None ↦ λ is got. cc
      | Some p ↦ λ is got. second p is got
    ] refl e
  where
    third : (p q : List ℕ × List ℕ) → cut 32 text ≡ Some p → cut 32 p.1 ≡ Some q
        → option_and_then (λ r. unit_cut text q.0 r.1) (cut 32 q.1) ≡ Some k → KindIs text k
    third p q p_is q_is there =
        elim (cut 32 q.1) as (λ o. cut 32 q.1 ≡ o → option_and_then (λ r. unit_cut text q.0 r.1) o ≡ Some k → KindIs text k) [
          | None ↦ λ is got. cc
          | Some r ↦ λ is got. unit_sound p.0 q.0 r.0 r.1 text k (cut_word text p p_is) (cut_word q.1 r is)
              (cut-joined 32 text p p_is ∙ ap (λ t. p.0 ++ (32 ∷ t)) (cut-joined 32 p.1 q q_is)
              ∙ ap (λ t. p.0 ++ (32 ∷ (q.0 ++ (32 ∷ t)))) (cut-joined 32 q.1 r is)) got
        ] refl there

    second : (p : List ℕ × List ℕ) → cut 32 text ≡ Some p
        → option_and_then (λ q. option_and_then (λ r. unit_cut text q.0 r.1) (cut 32 q.1)) (cut 32 p.1) ≡ Some k → KindIs text k
    second p p_is there =
        elim (cut 32 p.1) as (λ o. cut 32 p.1 ≡ o
        → option_and_then (λ q. option_and_then (λ r. unit_cut text q.0 r.1) (cut 32 q.1)) o ≡ Some k → KindIs text k) [
          | None ↦ λ is got. cc
          | Some q ↦ λ is got. third p q p_is is got
        ] refl there

kind_read : (kind rest : List ℕ) → IsKind kind → kind_cut (kind ++ (32 ∷ rest)) ≡ Some (kind, rest)
unfolding kind_cut unit_cut
kind_read kind rest (of_font rule key rule_is key_is is) =
    let first : cut 32 (kind ++ (32 ∷ rest)) ≡ Some (rule, codes "font" ++ (32 ∷ (key ++ (32 ∷ rest)))) =
    ap (λ k. cut 32 (k ++ (32 ∷ rest))) is ∙ ap (cut 32) (short rule (codes "font") key rest)
    ∙ word_cut rule (codes "font" ++ (32 ∷ (key ++ (32 ∷ rest)))) rule_is in
    rw (first, word_cut key rest key_is) (ap (λ k. Some (k, rest)) (front_is kind rest))
kind_read kind rest (of_glyph rule name rule_is name_is is) =
    let first : cut 32 (kind ++ (32 ∷ rest)) ≡ Some (rule, codes "glyph" ++ (32 ∷ (name ++ (32 ∷ rest)))) =
    ap (λ k. cut 32 (k ++ (32 ∷ rest))) is ∙ ap (cut 32) (short rule (codes "glyph") name rest)
    ∙ word_cut rule (codes "glyph" ++ (32 ∷ (name ++ (32 ∷ rest)))) rule_is in
    rw (first, word_cut name rest name_is) (ap (λ k. Some (k, rest)) (front_is kind rest))
kind_read kind rest (of_waiver rule name waived rule_is name_is waived_is is) =
    let first : cut 32 (kind ++ (32 ∷ rest)) ≡ Some (rule, codes "waiver" ++ (32 ∷ (name ++ (32 ∷ (waived ++ (32 ∷ rest)))))) =
    ap (λ k. cut 32 (k ++ (32 ∷ rest))) is ∙ ap (cut 32) (long rule (codes "waiver") name waived rest)
    ∙ word_cut rule (codes "waiver" ++ (32 ∷ (name ++ (32 ∷ (waived ++ (32 ∷ rest)))))) rule_is in
    rw (first, word_cut name (waived ++ (32 ∷ rest)) name_is, word_cut waived rest waived_is) (ap (λ k. Some (k, rest)) (front_is kind rest))

-- ---- rows

joined : (count kind font : List ℕ)
    → (count ++ (32 ∷ (kind ++ (32 ∷ font)))) ++ (10 ∷ []) ≡ count ++ (32 ∷ (kind ++ (32 ∷ (font ++ (10 ∷ [])))))
joined count kind font =
    append_assoc count (32 ∷ (kind ++ (32 ∷ font))) (10 ∷ []) ∙ ap (λ t. count ++ (32 ∷ t)) (append_assoc kind (32 ∷ font) (10 ∷ []))

complete : (line : List ℕ) (row : RowValue) → IsRow row → row_text row ≡ line ++ (10 ∷ []) → row_read line ≡ Some row
unfolding row_read
complete line row is text =
    let split : line ≡ row.count ++ (32 ∷ (row.kind ++ (32 ∷ row.font))) =
    append_cancel_right line (row.count ++ (32 ∷ (row.kind ++ (32 ∷ row.font)))) (10 ∷ []) (sym text ∙ sym (joined row.count row.kind row.font)) in
    let first : cut 32 line ≡ Some (row.count, row.kind ++ (32 ∷ row.font)) =
    ap (cut 32) split ∙ word_cut row.count (row.kind ++ (32 ∷ row.font)) (digits_are_a_word row.count is.count) in
    let counts : (length row.count == 0) ≡ false = grind (arith, nat_tests, is.counts) in
    let font : (length row.font == 0) ≡ false = grind (arith, nat_tests, is.font) in
    rw (first, kind_read row.kind row.font is.kind, counts, font, is.count) refl

abbrev made : List ℕ × List ℕ → List ℕ × List ℕ → RowValue
made p k = record { count = p.0; kind = k.0; font = k.1 }

abbrev RowIs : List ℕ → RowValue → Type 0
RowIs line row = IsRow row × (row_text row ≡ line ++ (10 ∷ []))

row_sound : (line : List ℕ) (row : RowValue) (p k : List ℕ × List ℕ) → cut 32 line ≡ Some p → kind_cut p.1 ≡ Some k
    → row_if p.0 k ≡ Some row → IsRow row × (row_text row ≡ line ++ (10 ∷ []))
row_sound line row p k p_is k_is e =
    elim (cases_Bool (length p.0 == 0)) [
      | inl none ↦ (let never : None ≡ Some row = rw none at e in cc)
      | inr counts ↦ elim (cases_Bool (length k.1 == 0)) [
        | inl none ↦ (let never : None ≡ Some row = rw (counts, none) at e in cc)
        | inr font ↦ elim (cases_Bool (list_all is_decimal_digit p.0)) [
          | inl digits ↦ (let got : Some (made p k) ≡ Some row = rw (counts, font, digits) at e in
              subst (λ (r : RowValue). IsRow r × (row_text r ≡ line ++ (10 ∷ []))) (some_same (made p k) row got) (
                record {
                  counts = grind (arith, nat_tests, counts);
                  count = digits;
                  kind = kind.0;
                  font = grind (arith, nat_tests, font);
                },
                text,
              ))
          | inr other ↦ (let never : None ≡ Some row = rw (counts, font, other) at e in cc)
        ]
      ]
    ]
  where
    kind : IsKind k.0 × (p.1 ≡ k.0 ++ (32 ∷ k.1))
    kind = kind_sound p.1 k k_is

    text : row_text (made p k) ≡ line ++ (10 ∷ [])
    text = sym (joined p.0 k.0 k.1)
        ∙ ap (λ l. l ++ (10 ∷ [])) (sym (cut-joined 32 line p p_is ∙ ap (λ t. p.0 ++ (32 ∷ t)) kind.1))

sound : (line : List ℕ) (row : RowValue) → row_read line ≡ Some row → IsRow row × (row_text row ≡ line ++ (10 ∷ []))
unfolding row_read
sound line row e =
    elim (cut 32 line) as (λ o. cut 32 line ≡ o → option_and_then (λ p. option_and_then (row_if p.0) (kind_cut p.1)) o ≡ Some row → RowIs line row) [
      | None ↦ λ is got. cc
      | Some p ↦ λ is got. elim (kind_cut p.1) as (λ o. kind_cut p.1 ≡ o → option_and_then (row_if p.0) o ≡ Some row → RowIs line row) [
        | None ↦ λ at there. cc
        | Some k ↦ λ at there. row_sound line row p k is at there
      ] refl got
    ] refl e

pub exact : (line : List ℕ) (o : Option Row) → option_map row_value o ≡ row_read line
    → MatchOption o (IsNoRow line) (λ row. IsRow (row_value row) × (row_text (row_value row) ≡ line ++ codes "\n"))
exact line None e = λ row is text. absurd (none-some row (e ∙ complete line row is text))
exact line (Some row) e = sound line (row_value row) (sym e)
