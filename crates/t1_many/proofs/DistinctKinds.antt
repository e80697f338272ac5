-- Kinds that are counted once each.
use Rattle.std.proofs.Common.{◌≡◌, ℕ, zero, suc, Bool, true, false, true≢false, not, List, [], ◌∷◌, None, Some, inl, inr, map, slice_get, take, refl, sym, ap, subst}
use Rattle.std.proofs.lemmas.Bool.{cases_Bool}
use Rattle.std.proofs.lemmas.Option.{none-some}
use Rattle.std.specs.Global.{Global}
use Rattle.std.specs.List.{AllByRecursion, IsDistinct, filter, list_any}
use Rattle.std.specs.Map.{lookup}
use Rattle.std.specs.Str.{bytes_eq}
use Rattle.std.specs.declared.vec.Vec.{Vec}
use Rattle.t1_lines.proofs.Cuts.{some_same}
use Rattle.t1_many.proofs.Texts.{apart}
use Rattle.t1_many.specs.KnownFaults.{counts_of, distinct, found_count}
use Rattle.t1_many.specs.Readings.{counts_in}

unlike-filter : (p : List ℕ → Bool) (a : List ℕ) (kinds : List (List ℕ)) → AllByRecursion (λ b. bytes_eq a b ≡ false) kinds
    → AllByRecursion (λ b. bytes_eq a b ≡ false) (filter p kinds)
unlike-filter p a [] all = tt
unlike-filter p a (kind ∷ kinds) all = elim (cases_Bool (p kind)) [
  | inl kept ↦ rw kept (all.0, unlike-filter p a kinds all.1)
  | inr out ↦ rw out (unlike-filter p a kinds all.1)
]

distinct-filter : (p : List ℕ → Bool) (kinds : List (List ℕ)) → IsDistinct bytes_eq kinds → IsDistinct bytes_eq (filter p kinds)
unfolding IsDistinct
distinct-filter p [] once = tt
distinct-filter p (kind ∷ kinds) once = elim (cases_Bool (p kind)) [
  | inl kept ↦ rw kept (unlike-filter p kind kinds once.0, distinct-filter p kinds once.1)
  | inr out ↦ rw out (distinct-filter p kinds once.1)
]

filtered_out : (a : List ℕ) (kinds : List (List ℕ)) → AllByRecursion (λ b. bytes_eq a b ≡ false) (filter (λ other. not (bytes_eq a other)) kinds)
filtered_out a [] = tt
filtered_out a (kind ∷ kinds) = elim (cases_Bool (bytes_eq a kind)) [
  | inl same ↦ rw same (filtered_out a kinds)
  | inr other ↦ rw other (other, filtered_out a kinds)
]

pub kinds_once : (kinds : List (List ℕ)) → IsDistinct bytes_eq (distinct kinds)
unfolding IsDistinct
kinds_once [] = tt
kinds_once (kind ∷ kinds) =
    (filtered_out kind (distinct kinds), distinct-filter (λ other. not (bytes_eq kind other)) (distinct kinds) (kinds_once kinds))

-- ---- counts by kinds

kinds_stay : (f : List ℕ → ℕ) (kinds : List (List ℕ)) → map (λ (c : List ℕ × ℕ). c.0) (map {B = List ℕ × ℕ} (λ kind. (kind, f kind)) kinds) ≡ kinds
kinds_stay f [] = refl
kinds_stay f (kind ∷ kinds) = ap (λ (ks : List (List ℕ)). kind ∷ ks) (kinds_stay f kinds)

pub counts_once : (kinds : List (List ℕ)) → IsDistinct bytes_eq (map (λ (c : List ℕ × ℕ). c.0) (counts_of kinds))
counts_once kinds = subst (IsDistinct bytes_eq) (sym (kinds_stay (found_count kinds) (distinct kinds))) (kinds_once kinds)

-- A kind is counted.
abbrev pub has_text : List (List ℕ × ℕ) → List ℕ → Bool
has_text counts kind = list_any (λ (c : List ℕ × ℕ). bytes_eq kind c.0) counts

unlike_at : (a : List ℕ) (counts : List (List ℕ × ℕ)) (i : ℕ) (c : List ℕ × ℕ)
    → AllByRecursion (λ b. bytes_eq a b ≡ false) (map (λ (d : List ℕ × ℕ). d.0) counts) → slice_get counts i ≡ Some c → bytes_eq a c.0 ≡ false
unlike_at a [] i c all at = absurd (none-some c at)
unlike_at a (d ∷ counts) zero c all at = subst (λ (e : List ℕ × ℕ). bytes_eq a e.0 ≡ false) (some_same d c at) all.0
unlike_at a (d ∷ counts) (suc i) c all at = unlike_at a counts i c all.1 at

-- the kind at a place is none of those before it
pub new_at : (counts : List (List ℕ × ℕ)) (i : ℕ) (c : List ℕ × ℕ) → IsDistinct bytes_eq (map (λ (d : List ℕ × ℕ). d.0) counts)
    → slice_get counts i ≡ Some c → has_text (take i counts) c.0 ≡ false
unfolding IsDistinct
new_at [] i c once at = absurd (none-some c at)
new_at (d ∷ counts) zero c once at = refl
new_at (d ∷ counts) (suc i) c once at =
    let other : bytes_eq c.0 d.0 ≡ false = apart d.0 c.0 (unlike_at d.0 counts i c once.0 at) in
    rw other (new_at counts i c once.1 at)

pub nowhere : (entries : List (Vec ℕ Global × ℕ)) (kind : List ℕ) → has_text (counts_in entries) kind ≡ false
    → lookup (λ (k : Vec ℕ Global). bytes_eq kind k.items) entries ≡ None
nowhere [] kind out = refl
nowhere (e ∷ entries) kind out = elim (cases_Bool (bytes_eq kind e.0.items)) [
  | inl same ↦ (let there : true ≡ false = rw same at out in absurd (true≢false there))
  | inr other ↦ (let later : has_text (counts_in entries) kind ≡ false = rw other at out in rw other (nowhere entries kind later))
]
