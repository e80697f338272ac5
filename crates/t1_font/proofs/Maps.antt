-- The entries of a font's maps, seen as pairs of a font's value.
use Rattle.std.proofs.Common.{◌≡◌, Bool, true, false, cond, ◌||◌, Some, List, [], ◌∷◌, map, refl, ap, is_some}
use Rattle.std.specs.Map.{lookup}
use Rattle.indexmap.specs.IndexMap.{insert_entry}
use Rattle.t1_font.specs.Puts.{put_pair}
use Rattle.t1_font.specs.PrivateText.{has_key}

abbrev pub pair_by : {K K' V V' : Type 0} → (K → K') → (V → V') → K × V → K' × V'
pair_by f g e = (f e.0, g e.1)

module _ {K K' V V' : Type 0} (eq : K → K → Bool) (eq' : K' → K' → Bool) (f : K → K') (g : V → V') (same : (a b : K) → eq a b ≡ eq' (f a) (f b)) where
  pub entries_put : (es : List (K × V)) (k : K) (v : V) → map (pair_by f g) (insert_entry eq es k v) ≡ put_pair eq' (map (pair_by f g) es) (f k) (g v)
  entries_put [] k v = refl
  entries_put (e ∷ es) k v =
      rw (same k e.0)
      (elim (eq' (f k) (f e.0)) as (λ b. map (pair_by f g) (cond b ((e.0, v) ∷ es) (e ∷ insert_entry eq es k v)) ≡ cond b ((f e.0, g v) ∷ map (pair_by f g) es)
      (pair_by f g e ∷ put_pair eq' (map (pair_by f g) es) (f k) (g v))) [
        | true ↦ refl
        | false ↦ ap (λ ps. pair_by f g e ∷ ps) (entries_put es k v)
      ])

  pub has_entry : (es : List (K × V)) (k : K) → is_some (lookup (eq k) es) ≡ has_key eq' (map (pair_by f g) es) (f k)
  has_entry [] k = refl
  has_entry (e ∷ es) k =
      rw (same k e.0)
      (elim (eq' (f k) (f e.0)) as (λ b. is_some (cond b (Some e.1) (lookup (eq k) es)) ≡ (b || has_key eq' (map (pair_by f g) es) (f k))) [
        | true ↦ refl
        | false ↦ has_entry es k
      ])
