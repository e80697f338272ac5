-- How often kinds are known, kind by kind.
use Rattle.std.proofs.Common.{◌≡◌, ◌+◌, ◌||◌, ℕ, Bool, true, false, true≢false, Some, List, [], ◌∷◌, cond, slice_get, take, inl, inr, refl, sym, ap, ◌∙◌}
use Rattle.std.proofs.lemmas.Bool.{cases_Bool}
use Rattle.std.proofs.lemmas.List.Folds.{list_any-append}
use Rattle.indexmap.specs.IndexMap.{insert_entry}
use Rattle.t1_many.proofs.KindCounts.{count_inserted}
use Rattle.t1_many.proofs.ReadKinds.{up_to}
use Rattle.t1_many.proofs.SameKinds.{kinds_equal}
use Rattle.t1_many.specs.Counts.{count_in, has_kind}
use Rattle.t1_many.specs.Kinds.{KindValue, kind_text, same_kind}
use Rattle.t1_many.specs.Known.{key_of}
use Rattle.t1_many.specs.Private.Counts.{AreKnown}

first_of : (a b : Bool) → (a || (b || false)) ≡ true → b ≡ false → a ≡ true
first_of true b either other = refl
first_of false true either other = absurd (true≢false other)
first_of false false either other = absurd (true≢false (sym either))

-- one kind more
pub one_known : (known : List ℕ → ℕ) (name : List ℕ) (found : List (KindValue × ℕ)) (place : ℕ) (kind : KindValue) (count : ℕ)
    → slice_get found place ≡ Some (kind, count) → (counts : List (KindValue × ℕ)) (value : ℕ) → value ≡ known (key_of (kind_text kind) name)
    → AreKnown known name (take place found) counts → AreKnown known name (take (place + 1) found) (insert_entry same_kind counts kind value)
one_known known name found place kind count at counts value value_is before q among =
    let split : (has_kind (take place found) q || (same_kind q kind || false)) ≡ true =
    sym (list_any-append (λ (c : KindValue × ℕ). same_kind q c.0) (take place found) ((kind, count) ∷ []))
    ∙ ap (λ (cs : List (KindValue × ℕ)). has_kind cs q) (sym (up_to found place (kind, count) at)) ∙ among in
    elim (cases_Bool (same_kind q kind)) [
      | inl same ↦
          count_inserted counts kind value q ∙ ap (λ b. cond b value (count_in counts q)) same ∙ value_is
          ∙ ap (λ (k : KindValue). known (key_of (kind_text k) name)) (sym (kinds_equal q kind same))
      | inr other ↦
          count_inserted counts kind value q ∙ ap (λ b. cond b value (count_in counts q)) other
          ∙ before q (first_of (has_kind (take place found) q) (same_kind q kind) split other)
    ]
