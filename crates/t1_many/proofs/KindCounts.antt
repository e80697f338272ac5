-- Kinds that are counted, and the same by their texts.
use Rattle.std.proofs.Common.{◌≡◌, ℕ, ◌||◌, Bool, true, false, true≢false, List, [], ◌∷◌, cond, map, inl, inr, refl, sym, ap, ap₂, subst, ◌∙◌}
use Rattle.std.proofs.lemmas.Bool.{cases_Bool}
use Rattle.std.specs.List.{AllByRecursion}
use Rattle.std.specs.Str.{bytes_eq}
use Rattle.indexmap.specs.IndexMap.{insert_entry}
use Rattle.t1_many.proofs.DistinctKinds.{has_text}
use Rattle.t1_many.proofs.SameKinds.{kinds_equal, one_test, own_kind}
use Rattle.t1_many.proofs.TextCounts.{among_distinct, count_at, found_at}
use Rattle.t1_many.specs.Counts.{count_in, has_kind, text_counts}
use Rattle.t1_many.specs.Kinds.{KindValue, kind_text, same_kind}
use Rattle.t1_many.specs.KnownFaults.{distinct, found_count, is_among}
use Rattle.t1_many.specs.Private.Counts.{AreCounts, IsUnit}

abbrev AreUnits : List (KindValue × ℕ) → Type 0
AreUnits counts = AllByRecursion (λ c. IsUnit c.0.unit) counts

-- ---- one kind more

pub units_inserted : (counts : List (KindValue × ℕ)) (kind : KindValue) (n : ℕ) → AreUnits counts → IsUnit kind.unit
    → AreUnits (insert_entry same_kind counts kind n)
units_inserted [] kind n all is = (is, tt)
units_inserted (c ∷ counts) kind n all is = elim (cases_Bool (same_kind kind c.0)) [
  | inl same ↦ rw same all
  | inr other ↦ rw other (all.0, units_inserted counts kind n all.1 is)
]

pub texts_inserted : (counts : List (KindValue × ℕ)) (kind : KindValue) (n : ℕ) → AreUnits counts → IsUnit kind.unit
    → text_counts (insert_entry same_kind counts kind n) ≡ insert_entry bytes_eq (text_counts counts) (kind_text kind) n
texts_inserted [] kind n all is = refl
texts_inserted (c ∷ counts) kind n all is = elim (cases_Bool (same_kind kind c.0)) [
  | inl same ↦ (let texts : bytes_eq (kind_text kind) (kind_text c.0) ≡ true = one_test kind c.0 is all.0 ∙ same in rw (same, texts) refl)
  | inr other ↦
      let texts : bytes_eq (kind_text kind) (kind_text c.0) ≡ false = one_test kind c.0 is all.0 ∙ other in
      rw (other, texts) (ap (λ (cs : List (List ℕ × ℕ)). (kind_text c.0, c.1) ∷ cs) (texts_inserted counts kind n all.1 is))
]

turned : (a b : KindValue) → same_kind a b ≡ false → same_kind b a ≡ false
turned a b other = elim (cases_Bool (same_kind b a)) [
  | inl same ↦
      let is : b ≡ a = kinds_equal b a same in
      absurd (true≢false (sym (own_kind a) ∙ subst (λ (k : KindValue). same_kind a k ≡ false) is other))
  | inr differ ↦ differ
]

-- what is counted after it
pub count_inserted : (counts : List (KindValue × ℕ)) (kind : KindValue) (n : ℕ) (q : KindValue)
    → count_in (insert_entry same_kind counts kind n) q ≡ cond (same_kind q kind) n (count_in counts q)
count_inserted [] kind n q = refl
count_inserted (c ∷ counts) kind n q = elim (cases_Bool (same_kind kind c.0)) [
  | inl same ↦
      let is : kind ≡ c.0 = kinds_equal kind c.0 same in
      rw same (ap (λ (b : Bool). cond b n (count_in counts q)) (ap (same_kind q) (sym is)) ∙ hidden (same_kind q kind) (same_kind q c.0) (ap (same_kind q) is))
  | inr other ↦ elim (cases_Bool (same_kind q c.0)) [
    | inl here ↦
        let is : q ≡ c.0 = kinds_equal q c.0 here in
        let differ : same_kind q kind ≡ false = subst (λ (k : KindValue). same_kind k kind ≡ false) (sym is) (turned kind c.0 other) in
        rw (other, here, differ) refl
    | inr later ↦ rw (other, later) (count_inserted counts kind n q)
  ]
]
  where
    hidden : (a b : Bool) → a ≡ b → cond a n (count_in counts q) ≡ cond a n (cond b c.1 (count_in counts q))
    hidden true b same = refl
    hidden false b same = ap (λ t. cond t c.1 (count_in counts q)) same

-- ---- by texts

pub counted_by_text : (counts : List (KindValue × ℕ)) (kind : KindValue) → AreUnits counts → IsUnit kind.unit
    → count_in counts kind ≡ count_at (text_counts counts) (kind_text kind)
counted_by_text [] kind all is = refl
counted_by_text (c ∷ counts) kind all is =
    ap₂ (λ b k. cond b c.1 k) (sym (one_test kind c.0 is all.0)) (counted_by_text counts kind all.1 is)

had_by_text : (counts : List (KindValue × ℕ)) (kind : KindValue) → AreUnits counts → IsUnit kind.unit
    → has_kind counts kind ≡ has_text (text_counts counts) (kind_text kind)
had_by_text [] kind all is = refl
had_by_text (c ∷ counts) kind all is = ap₂ (λ a b. a || b) (sym (one_test kind c.0 is all.0)) (had_by_text counts kind all.1 is)

text_among : (f : List ℕ → ℕ) (texts : List (List ℕ)) (text : List ℕ)
    → has_text (map {B = List ℕ × ℕ} (λ (t : List ℕ). (t, f t)) texts) text ≡ is_among texts text
text_among f [] text = refl
text_among f (x ∷ texts) text = ap (λ b. bytes_eq text x || b) (text_among f texts text)

module _ (kinds : List (List ℕ)) (counts : List (KindValue × ℕ)) (are : AreCounts kinds counts) (kind : KindValue) (is : IsUnit kind.unit) where
  -- a kind was counted as often as its text was found
  pub count_is_found : count_in counts kind ≡ found_count kinds (kind_text kind)
  count_is_found =
      counted_by_text counts kind are.units is ∙ ap (λ cs. count_at cs (kind_text kind)) are.texts ∙ found_at kinds (kind_text kind)

  -- one that was found was counted
  pub found_is_had : is_among kinds (kind_text kind) ≡ true → has_kind counts kind ≡ true
  found_is_had among =
      had_by_text counts kind are.units is ∙ ap (λ cs. has_text cs (kind_text kind)) are.texts
      ∙ text_among (found_count kinds) (distinct kinds) (kind_text kind) ∙ among_distinct (kind_text kind) kinds ∙ among
