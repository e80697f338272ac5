-- A text is one line: each of its words ends at a byte that it doesn't have, so equal texts have equal words.
use Rattle.std.proofs.Common.{◌≡◌, ◌≢◌, ◌<◌, ◌≤◌, ◌^◌, ℕ, true, false, true≢false, ◌==◌, List, [], ◌∷◌, ◌++◌, length, refl, sym, ap, ◌∙◌, inl, inr, arith, Some, None, decimal, codes, flat_map}
use Rattle.std.proofs.lemmas.Bool.{cases_Bool}
use Rattle.std.proofs.lemmas.Fmt.{decimal_injective}
use Rattle.std.proofs.lemmas.List.{append-nil, append_cancel_right}
use Rattle.std.proofs.Math.Pow.{pow_mono}
use Rattle.std.specs.List.{AllByRecursion}
use Rattle.t1_rules.specs.Book.{code_of, rule_coded, text_of}
use Rattle.t1_rules.specs.Keys.{index_count, key_count, key_text_of}
use Rattle.t1_rules.specs.declared.rule.Rule.{Rule}
use Rattle.t1_rules.proofs.Lemmas.RuleCodes.{rule_is_found}
use Rattle.t1_report.specs.Lines.{inner_text, path_text}
use Rattle.t1_lines.specs.Cutting.{cut}
use Rattle.t1_lines.specs.Laws.{APrintedLineSplitsOnce, ATextIsOneLine, AWrittenLineTellsOneFault}
use Rattle.t1_lines.specs.Lines.{IsPlace, PlaceValue, at_key, at_step, at_waiver, fault_spelled, line_in, place_words, spaced}
use Rattle.t1_lines.proofs.Cuts.{cut-append, lacks, some_same}
use Rattle.t1_lines.proofs.KeyTexts.{key-found, key_of}
use Rattle.t1_lines.proofs.Lacking.{lacks-code, lacks-decimal, lacks-key, lacks-name, lacks-path}
use Rattle.t1_lines.proofs.LinesWritten.{line-written, place-is}

-- Two texts in front of a byte that neither has.
record AreSame (a b s t : List ℕ) : Type 0 where
  pub front : a ≡ b
  pub rest : s ≡ t

same_front : (byte : ℕ) (a b rest more : List ℕ) → lacks byte a ≡ true → lacks byte b ≡ true → a ++ (byte ∷ rest) ≡ b ++ (byte ∷ more)
    → AreSame a b rest more
same_front byte a b rest more one other e =
    let both : Some (a, rest) ≡ Some (b, more) = sym (cut-append byte a rest one) ∙ ap (cut byte) e ∙ cut-append byte b more other in
    let same = some_same (a, rest) (b, more) both in
    record { front = ap (λ p. p.0) same; rest = ap (λ p. p.1) same }

-- First words of other lengths.
other_word : (a b s t : List ℕ) → lacks 32 a ≡ true → lacks 32 b ≡ true → (length a ≡ length b → ⊥) → a ++ (32 ∷ s) ≡ b ++ (32 ∷ t) → ⊥
other_word a b s t one other apart e = apart (ap length (same_front 32 a b s t one other e).front)

-- A text without a byte isn't cut at it.
cut_none : (byte : ℕ) (text : List ℕ) → lacks byte text ≡ true → cut byte text ≡ None
cut_none byte [] none = refl
cut_none byte (c ∷ text) none =
    elim (cases_Bool (c == byte)) [
      | inl e ↦ (let never : false ≡ true = rw e at none in cc)
      | inr e ↦ (let later : lacks byte text ≡ true = rw e at none in rw (e, cut_none byte text later) refl)
    ]

never_cut : (byte : ℕ) (a b rest : List ℕ) → lacks byte a ≡ true → lacks byte b ≡ true → a ≡ b ++ (byte ∷ rest) → (x y : List ℕ) → x ≡ y
never_cut byte a b rest one other e x y =
    let none : cut byte a ≡ None = cut_none byte a one in
    let some : cut byte a ≡ Some (b, rest) = ap (cut byte) e ∙ cut-append byte b rest other in cc

abbrev IsSmallNumber : ℕ → Type 0
IsSmallNumber n = n < 2 ^ 32

wide : (n : ℕ) → IsSmallNumber n → n < 2 ^ 64
wide n small = let below : 2 ^ 32 ≤ 2 ^ 64 = pow_mono {i = 32} {j = 64} (omega arith) in omega (arith, below, small)

no_angle : (n : ℕ) → IsSmallNumber n → lacks 62 (decimal n) ≡ true
no_angle n small = lacks-decimal 62 n (wide n small) (λ c low high same. omega (arith, low, high, same))

no_blank : (n : ℕ) → n < 2 ^ 64 → lacks 32 (decimal n) ≡ true
no_blank n small = lacks-decimal 32 n small (λ c low high same. omega (arith, low, high, same))

-- Numbers with `>` between them.
same_numbers : (n m : ℕ) (ns ms : List ℕ) → AllByRecursion IsSmallNumber (n ∷ ns) → AllByRecursion IsSmallNumber (m ∷ ms)
    → decimal n ++ flat_map inner_text ns ≡ decimal m ++ flat_map inner_text ms → n ∷ ns ≡ m ∷ ms
same_numbers n m [] [] one other e =
    let same : decimal n ≡ decimal m = sym (append-nil (decimal n)) ∙ e ∙ append-nil (decimal m) in
    ap (λ k. k ∷ []) (decimal_injective n m (wide n one.0) (wide m other.0) same)
same_numbers n m [] (j ∷ js) one other e =
    never_cut 62 (decimal n) (decimal m) _ (no_angle n one.0) (no_angle m other.0) (sym (append-nil (decimal n)) ∙ e) _ _
same_numbers n m (k ∷ ks) [] one other e =
    never_cut 62 (decimal m) (decimal n) _ (no_angle m other.0) (no_angle n one.0) (sym (append-nil (decimal m)) ∙ sym e) _ _
same_numbers n m (k ∷ ks) (j ∷ js) one other e =
    let parts = same_front 62 (decimal n) (decimal m) _ _ (no_angle n one.0) (no_angle m other.0) e in
    let rest : decimal k ++ flat_map inner_text ks ≡ decimal j ++ flat_map inner_text js =
    ap (λ d. d ++ flat_map inner_text ks) (sym (append-nil (decimal k))) ∙ parts.rest ∙ ap (λ d. d ++ flat_map inner_text js) (append-nil (decimal j)) in
    let first = decimal_injective n m (wide n one.0) (wide m other.0) parts.front in
    ap (λ x. x ∷ k ∷ ks) first ∙ ap (λ xs. m ∷ xs) (same_numbers k j ks js one.1 other.1 rest)

-- `-` is no number.
no_dash : (n : ℕ) (ns : List ℕ) → AllByRecursion IsSmallNumber (n ∷ ns) → codes "-" ≡ path_text (n ∷ ns) → ⊥
no_dash n ns small e =
    let none = lacks-path 45 n ns small (λ c low high same. omega (arith, low, high, same)) (λ same. omega (arith, same)) in
    true≢false (sym none ∙ ap (lacks 45) (sym e))

same_path : (a b : List ℕ) → AllByRecursion IsSmallNumber a → AllByRecursion IsSmallNumber b → path_text a ≡ path_text b → a ≡ b
same_path [] [] one other e = refl
same_path [] (m ∷ ms) one other e = absurd (no_dash m ms other e)
same_path (n ∷ ns) [] one other e = absurd (no_dash n ns one (sym e))
same_path (n ∷ ns) (m ∷ ms) one other e = same_numbers n m ns ms one other e

blankless_path : (path : List ℕ) → AllByRecursion IsSmallNumber path → lacks 32 (path_text path) ≡ true
blankless_path [] small = refl
blankless_path (n ∷ ns) small = lacks-path 32 n ns small (λ c low high same. omega (arith, low, high, same)) (λ same. omega (arith, same))

same_rule : (a b : Rule) → code_of a ≡ code_of b → a ≡ b
same_rule a b e = some_same a b (sym (rule_is_found a) ∙ ap rule_coded e ∙ rule_is_found b)

same_key : (a b : ℕ) → a < key_count → b < key_count → key_text_of a ≡ key_text_of b → a ≡ b
same_key a b one other e = some_same a b (sym (key-found a one) ∙ ap key_of e ∙ key-found b other)

-- A place and a rule, by the words behind the number.
record ArePlaced (a b : PlaceValue) (one other : Rule) : Type 0 where
  pub place : a ≡ b
  pub rule : one ≡ other

abbrev behind : PlaceValue → Rule → List ℕ
behind place rule = spaced (place_words place (code_of rule)) (text_of rule)

same_words : (a b : PlaceValue) (one other : Rule) → IsPlace a one → IsPlace b other → behind a one ≡ behind b other → ArePlaced a b one other
same_words (at_key k i) (at_key j h) one other p q e =
    let first = same_front 32 (codes "font") (codes "font") _ _ refl refl e in
    let key = same_front 32 (key_text_of k) (key_text_of j) _ _ (lacks-key k) (lacks-key j) first.rest in
    let small : index_count ≤ 2 ^ 64 = pow_mono {i = 16} {j = 64} (omega arith) in
    let i_small : i < 2 ^ 64 = omega (arith, small, p.1) in
    let h_small : h < 2 ^ 64 = omega (arith, small, q.1) in
    let index = same_front 32 (decimal i) (decimal h) _ _ (no_blank i i_small) (no_blank h h_small) key.rest in
    let code = same_front 32 (code_of one) (code_of other) _ _ (lacks-code one) (lacks-code other) index.rest in
    let is_key = same_key k j p.0 q.0 key.front in
    let is_index = decimal_injective i h i_small h_small index.front in
    record { place = ap (λ x. at_key x i) is_key ∙ ap (at_key j) is_index; rule = same_rule one other code.front }
same_words (at_step n s t) (at_step m r u) one other p q e =
    let first = same_front 32 (codes "glyph") (codes "glyph") _ _ refl refl e in
    let name = same_front 32 n m _ _ (lacks-name n p.0) (lacks-name m q.0) first.rest in
    let path = same_front 32 (path_text s) (path_text r) _ _ (blankless_path s p.2) (blankless_path r q.2) name.rest in
    let step = same_front 32 (decimal t) (decimal u) _ _ (no_blank t (wide t p.3)) (no_blank u (wide u q.3)) path.rest in
    let code = same_front 32 (code_of one) (code_of other) _ _ (lacks-code one) (lacks-code other) step.rest in
    let is_path = same_path s r p.2 q.2 path.front in
    let is_step = decimal_injective t u (wide t p.3) (wide u q.3) step.front in
    record {
      place = ap (λ x. at_step x s t) name.front ∙ ap (λ x. at_step m x t) is_path ∙ ap (at_step m r) is_step;
      rule = same_rule one other code.front;
    }
same_words (at_waiver n r) (at_waiver m s) one other p q e =
    let first = same_front 32 (codes "waiver") (codes "waiver") _ _ refl refl e in
    let name = same_front 32 n m _ _ (lacks-name n p.0) (lacks-name m q.0) first.rest in
    let waived = same_front 32 (code_of r) (code_of s) _ _ (lacks-code r) (lacks-code s) name.rest in
    let is = same_rule r s waived.front in
    record { place = ap (λ x. at_waiver x r) name.front ∙ ap (at_waiver m) is; rule = p.1 ∙ sym q.1 }
same_words (at_key k i) (at_step m r u) one other p q e =
    absurd (other_word (codes "font") (codes "glyph") _ _ refl refl (λ (is : 4 ≡ 5). omega (arith, is)) e)
same_words (at_key k i) (at_waiver m s) one other p q e =
    absurd (other_word (codes "font") (codes "waiver") _ _ refl refl (λ (is : 4 ≡ 6). omega (arith, is)) e)
same_words (at_step n s t) (at_key j h) one other p q e =
    absurd (other_word (codes "glyph") (codes "font") _ _ refl refl (λ (is : 5 ≡ 4). omega (arith, is)) e)
same_words (at_step n s t) (at_waiver m r) one other p q e =
    absurd (other_word (codes "glyph") (codes "waiver") _ _ refl refl (λ (is : 5 ≡ 6). omega (arith, is)) e)
same_words (at_waiver n r) (at_key j h) one other p q e =
    absurd (other_word (codes "waiver") (codes "font") _ _ refl refl (λ (is : 6 ≡ 4). omega (arith, is)) e)
same_words (at_waiver n r) (at_step m s u) one other p q e =
    absurd (other_word (codes "waiver") (codes "glyph") _ _ refl refl (λ (is : 6 ≡ 5). omega (arith, is)) e)

pub one_line : ATextIsOneLine
one_line a b one other e =
    let no_colon : (n : ℕ) → n < 2 ^ 64 → lacks 58 (decimal n) ≡ true = λ n small. lacks-decimal 58 n small (λ c low high same. omega (arith, low, high, same)) in
    let number = same_front 58 (decimal a.number) (decimal b.number) _ _ (no_colon a.number one.number) (no_colon b.number other.number) e in
    let words : behind a.place a.rule ≡ behind b.place b.rule = (let tail = number.rest in cc) in
    let same = same_words a.place b.place a.rule b.rule one.place other.place words in
    let is_number = decimal_injective a.number b.number one.number other.number number.front in
    ap (λ n. record { number = n; place = a.place; rule = a.rule }) is_number
    ∙ ap (λ p. record { number = b.number; place = p; rule = a.rule }) same.place
    ∙ ap (λ r. record { number = b.number; place = b.place; rule = r }) same.rule

pub one_fault : AWrittenLineTellsOneFault
one_fault font waivers a b glyphs names there there' small small' e =
    let line : fault_spelled (line_in font waivers a) ++ codes "\n" ≡ fault_spelled (line_in font waivers b) ++ codes "\n" =
    sym (line-written font waivers a there) ∙ e ∙ line-written font waivers b there' in
    one_line (line_in font waivers a) (line_in font waivers b)
    (record { number = small.number; place = place-is font waivers a glyphs names there small })
    (record { number = small'.number; place = place-is font waivers b glyphs names there' small' })
    (append_cancel_right _ _ (codes "\n") line)

-- Two bytes that differ, and a text in which the second is nowhere behind the first.
abbrev LacksPair : ℕ → ℕ → List ℕ → Type 0
LacksPair x y name = (front rest : List ℕ) → name ≡ front ++ (x ∷ y ∷ rest) → ⊥

later : (x y c : ℕ) (name : List ℕ) → LacksPair x y (c ∷ name) → LacksPair x y name
later x y c name lacks front rest is = lacks (c ∷ front) rest (ap (λ t. c ∷ t) is)

not_empty : (x y : ℕ) (name line more : List ℕ) → x ≢ y → LacksPair x y name → x ∷ y ∷ line ≡ name ++ (x ∷ y ∷ more) → name ≡ []
not_empty x y [] line more apart lacks e = refl
not_empty x y (c ∷ []) line more apart lacks e = let same : y ≡ x = cc in absurd (apart (sym same))
not_empty x y (c ∷ d ∷ rest) line more apart lacks e = let is : c ∷ d ∷ rest ≡ x ∷ y ∷ rest = cc in absurd (lacks [] rest is)

split : (x y : ℕ) (name other line more : List ℕ) → x ≢ y → LacksPair x y name → LacksPair x y other
    → name ++ (x ∷ y ∷ line) ≡ other ++ (x ∷ y ∷ more) → AreSame name other line more
split x y [] other line more apart one two e =
    let none = not_empty x y other line more apart two e in
    let rest : x ∷ y ∷ line ≡ x ∷ y ∷ more = e ∙ ap (λ t. t ++ (x ∷ y ∷ more)) none in
    record { front = sym none; rest = cc }
split x y (c ∷ name) [] line more apart one two e =
    let none = not_empty x y (c ∷ name) more line apart one (sym e) in
    let rest : x ∷ y ∷ line ≡ x ∷ y ∷ more = ap (λ t. t ++ (x ∷ y ∷ line)) (sym none) ∙ e in
    record { front = none; rest = cc }
split x y (c ∷ name) (d ∷ other) line more apart one two e =
    let first : c ≡ d = cc in
    let tail : name ++ (x ∷ y ∷ line) ≡ other ++ (x ∷ y ∷ more) = cc in
    let same = split x y name other line more apart (later x y c name one) (later x y d other two) tail in
    record { front = ap (λ b. b ∷ name) first ∙ ap (λ t. d ∷ t) same.front; rest = same.rest }

-- `NAME: LINE`.
pub one_split : APrintedLineSplitsOnce
one_split name other line more one two e =
    let same = split 58 32 name other line more (λ is. omega (arith, is)) one two e in (same.front, same.rest)
