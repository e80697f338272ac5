-- Things that are handed on one after another.
use Rattle.std.proofs.Common.{List, [], ◌∷◌, ◌++◌, Option, None, Some, inl, inr, refl, sym, subst}
use Rattle.std.proofs.lemmas.Option.{none-some}
use Rattle.t1_many.specs.Handing.{Handed, HandsOn}
use Rattle.t1_many.specs.declared.policy.Lost.{Lost}

module _ {F : Type 0} (takes : F → F → Handed → Option Lost → Type 0) where
  -- all of some, and then others
  pub handed-append : (a b c : F) (xs ys : List Handed) (lost : Option Lost) → HandsOn takes a b xs None → HandsOn takes b c ys lost
      → HandsOn takes a c (xs ++ ys) lost
  handed-append a b c [] ys lost (same, none) more = subst (λ s. HandsOn takes s c ys lost) same more
  handed-append a b c (x ∷ xs) ys lost (inl (next, took, rest)) more = inl (next, took, handed-append next b c xs ys lost rest more)
  handed-append a b c (x ∷ xs) ys lost (inr (reason, took, none)) more = absurd (none-some reason none)

  -- one alone
  pub handed-one : (a b : F) (x : Handed) (lost : Option Lost) → takes a b x lost → HandsOn takes a b (x ∷ []) lost
  handed-one a b x None took = inl (b, took, (refl, refl))
  handed-one a b x (Some reason) took = inr (reason, took, refl)

  -- where it stopped, nothing more counts
  pub handed-stopped : (a b : F) (xs ys : List Handed) (reason : Lost) → HandsOn takes a b xs (Some reason)
      → HandsOn takes a b (xs ++ ys) (Some reason)
  handed-stopped a b [] ys reason (same, none) = absurd (none-some reason (sym none))
  handed-stopped a b (x ∷ xs) ys reason (inl (next, took, rest)) = inl (next, took, handed-stopped next b xs ys reason rest)
  handed-stopped a b (x ∷ xs) ys reason (inr (other, took, is)) = inr (other, took, is)
