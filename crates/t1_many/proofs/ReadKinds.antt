-- How often kinds were found, by their texts, kind by kind.
use Rattle.std.proofs.Common.{◌≡◌, ◌+◌, ◌++◌, ◌∷◌, [], ℕ, zero, suc, false, List, Some, map, slice_get, take, sym, ap, ap₂, ◌∙◌, add-one}
use Rattle.indexmap.proofs.CallerLemmas.{insert_entry-new}
use Rattle.indexmap.specs.IndexMap.{IndexMap, insert_entry}
use Rattle.std.proofs.Math.Seq.{take-suc}
use Rattle.std.proofs.lemmas.List.{map-append}
use Rattle.std.proofs.lemmas.Option.{get_or_from_slice_get, none-some, slice_get_within}
use Rattle.std.specs.Global.{Global}
use Rattle.std.specs.Str.{bytes_eq}
use Rattle.std.specs.declared.vec.Vec.{Vec}
use Rattle.t1_lines.proofs.Cuts.{some_same}
use Rattle.t1_many.proofs.DistinctKinds.{counts_once, has_text, new_at, nowhere}
use Rattle.t1_many.specs.KnownFaults.{counts_of}
use Rattle.t1_many.specs.Readings.{counts_in}

pub up_to : {X : Type 0} (xs : List X) (i : ℕ) (x : X) → slice_get xs i ≡ Some x → take (i + 1) xs ≡ take i xs ++ x ∷ []
up_to xs i x is =
    ap (λ n. take n xs) (add-one i) ∙ take-suc xs i x (slice_get_within xs i x is)
    ∙ ap (λ y. take i xs ++ y ∷ []) (get_or_from_slice_get xs i x x is)

pub at_map : {X Y : Type 0} (f : X → Y) (xs : List X) (i : ℕ) (x : X) → slice_get xs i ≡ Some x → slice_get (map f xs) i ≡ Some (f x)
at_map f [] i x is = absurd (none-some x is)
at_map f (y ∷ xs) zero x is = ap (λ z. Some (f z)) (some_same y x is)
at_map f (y ∷ xs) (suc i) x is = at_map f xs i x is

-- the kind at a place is counted by its text
pub one_read : {S : Type 0} (kinds : List (List ℕ)) (place : ℕ) (text : List ℕ) (count : ℕ)
    → slice_get (counts_of kinds) place ≡ Some (text, count)
    → (m : IndexMap (Vec ℕ Global) ℕ S) (new : List (Vec ℕ Global × ℕ)) (key : Vec ℕ Global)
    → key.items ≡ text → counts_in m.entries ≡ take place (counts_of kinds)
    → new ≡ insert_entry (λ a b. bytes_eq a.items b.items) m.entries key count → counts_in new ≡ take (place + 1) (counts_of kinds)
one_read kinds place text count at m new key key_is before inserted =
    let out : has_text (counts_in m.entries) key.items ≡ false =
    ap₂ has_text before key_is ∙ new_at (counts_of kinds) place (text, count) (counts_once kinds) at in
    ap counts_in (inserted ∙ insert_entry-new (λ (a b : Vec ℕ Global). bytes_eq a.items b.items) m key count (nowhere m.entries key.items out))
    ∙ map-append (λ (e : Vec ℕ Global × ℕ). (e.0.items, e.1)) m.entries ((key, count) ∷ [])
    ∙ ap₂ (λ (cs : List (List ℕ × ℕ)) (k : List ℕ). cs ++ (k, count) ∷ []) before key_is ∙ sym (up_to (counts_of kinds) place (text, count) at)
