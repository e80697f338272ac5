-- Printers that are seen by what is known of them, of which something stays as it is.
use Rattle.std.proofs.Common.{◌≡◌, List, [], ◌∷◌, Option, inl, inr, ap, subst}
use Rattle.t1_many.specs.Handing.{Handed, HandsOn}
use Rattle.t1_many.specs.declared.policy.Lost.{Lost}

module _ {F X B : Type 0} (takes : X → B → B → Handed → Option Lost → Type 0) (kept : F → X) (view : X → F → B) where
  abbrev pub takes_on : F → F → Handed → Option Lost → Type 0
  takes_on old new handed lost = (kept new ≡ kept old) × takes (kept old) (view (kept old) old) (view (kept old) new) handed lost

  pub handed_seen : (old new : F) (handed : List Handed) (lost : Option Lost) → HandsOn takes_on old new handed lost
      → HandsOn (takes (kept old)) (view (kept old) old) (view (kept old) new) handed lost
  handed_seen old new [] lost (same, none) = (ap (view (kept old)) same, none)
  handed_seen old new (handed ∷ more) lost (inl (next, (same, took), rest)) =
      inl (
        view (kept old) next,
        took,
        subst (λ (k : X). HandsOn (takes k) (view k next) (view k new) more lost) same (handed_seen next new more lost rest),
      )
  handed_seen old new (handed ∷ more) lost (inr (reason, (same, took), is)) = inr (reason, took, is)
