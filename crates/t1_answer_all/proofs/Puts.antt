-- Files that are put one after another.
use Rattle.std.proofs.Common.{◌≡◌, ◌++◌, ◌&&◌, ℕ, Bool, true, false, List, [], ◌∷◌, ap, inr, refl, subst, ◌∙◌}
use Rattle.t1_answer_all.specs.Replacing.{IsKeptBack, PutsEach, PutsWaiversOf}
use Rattle.t1_answer_all.specs.Stores.{Putting, Replacing}
use Rattle.t1_io.specs.Devices.{SinkState}
use Rattle.t1_waiving.specs.FontTexts.{FontText}

-- The files and standard error between two states.
abbrev from : {F : Type 0} → F → F → SinkState → SinkState → Putting F
from f g a b = record { files = f; files' = g; errors = a; errors' = b }

module _ {F : Type 0} (store : Replacing F) (overwrites : Bool) where
  -- the waivers of one font more
  pub each-push : (fonts : List FontText) (font : FontText) (f g h : F) (a b c : SinkState) (done one : Bool)
      → PutsEach store overwrites fonts (from f g a b) done → PutsWaiversOf store overwrites font (from g h b c) one
      → PutsEach store overwrites (fonts ++ font ∷ []) (from f h a c) (done && one)
  each-push [] font f g h a b c done one ((same, same_errors), all) put = (
    h,
    c,
    one,
    true,
    subst (λ (s : F). PutsWaiversOf store overwrites font (from s h a c) one) same
        (subst (λ (s : SinkState). PutsWaiversOf store overwrites font (from g h s c) one) same_errors put),
    ((refl, refl), refl),
    ap (λ d. d && one) all ∙ and-true one,
  )
    where
      and-true : (b : Bool) → (true && b) ≡ (b && true)
      and-true true = refl
      and-true false = refl
  each-push (first ∷ fonts) font f g h a b c done one (next, behind, this, others, put_first, rest, is) put = (
    next,
    behind,
    this,
    others && one,
    put_first,
    each-push fonts font next g h behind b c others one rest put,
    ap (λ d. d && one) is ∙ and-assoc this others one,
  )
    where
      and-assoc : (x y z : Bool) → ((x && y) && z) ≡ (x && (y && z))
      and-assoc true y z = refl
      and-assoc false y z = refl

  -- whether waivers are kept back, by what is there
  pub kept_back : (old new : F) (name : List ℕ) (there : Bool) → overwrites ≡ false → store.Has old new name there
      → IsKeptBack store.Has overwrites old new name there
  kept_back old new name true kept has = (kept, has)
  kept_back old new name false kept has = inr (kept, has)
