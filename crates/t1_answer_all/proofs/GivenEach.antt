-- What is given to a formatter, one thing after another.
use Rattle.std.proofs.Common.{◌≡◌, ◌+◌, ◌<◌, ℕ, zero, suc, List, [], ◌∷◌, ◌++◌, Option, None, Some, get_or, length, map, replicate, take, drop, inl, inr, refl, sym, ap, subst, ◌∙◌, arith, add-one}
use Rattle.std.proofs.lemmas.List.{map-append, take-append-drop, take_more}
use Rattle.std.proofs.lemmas.Option.{none-some}
use Rattle.t1_answer_all.specs.Unlisted.{GivesEach}
use Rattle.t1_forms.specs.Tellings.{ToldValue}
use Rattle.t1_many.specs.declared.policy.Lost.{Lost}
use Rattle.t1_printers.specs.Formatting.{Output}

module _ {T : Type 0} (writes : Output T → Output T → ToldValue → Option Lost → Type 0) where
  -- all of some, and then others
  pub given-append : (a b c : Output T) (xs ys : List ToldValue) (lost : Option Lost) → GivesEach writes a b xs None → GivesEach writes b c ys lost
      → GivesEach writes a c (xs ++ ys) lost
  given-append a b c [] ys lost (same, none) more = subst (λ (s : Output T). GivesEach writes s c ys lost) same more
  given-append a b c (x ∷ xs) ys lost (inl (next, wrote, rest)) more = inl (next, wrote, given-append next b c xs ys lost rest more)
  given-append a b c (x ∷ xs) ys lost (inr (reason, wrote, none)) more = absurd (none-some reason none)

  -- one alone
  pub given-one : (a b : Output T) (x : ToldValue) (lost : Option Lost) → writes a b x lost → GivesEach writes a b (x ∷ []) lost
  given-one a b x None wrote = inl (b, wrote, (refl, refl))
  given-one a b x (Some reason) wrote = inr (reason, wrote, refl)

  -- where it stopped, nothing more counts
  pub given-stopped : (a b : Output T) (xs ys : List ToldValue) (reason : Lost) → GivesEach writes a b xs (Some reason)
      → GivesEach writes a b (xs ++ ys) (Some reason)
  given-stopped a b [] ys reason (same, none) = absurd (none-some reason (sym none))
  given-stopped a b (x ∷ xs) ys reason (inl (next, wrote, rest)) = inl (next, wrote, given-stopped next b xs ys reason rest)
  given-stopped a b (x ∷ xs) ys reason (inr (other, wrote, is)) = inr (other, wrote, is)

  -- one more
  pub given-more : (a b c : Output T) (xs all : List ToldValue) (x : ToldValue) → all ≡ xs ++ x ∷ [] → GivesEach writes a b xs None
      → writes b c x None → GivesEach writes a c all None
  given-more a b c xs all x is before wrote =
      subst (λ (ts : List ToldValue). GivesEach writes a c ts None) (sym is)
      (given-append a b c xs (x ∷ []) None before (given-one b c x None wrote))

  -- one more, at which it stopped
  pub given-up-to : (a b c : Output T) (xs ys all : List ToldValue) (x : ToldValue) (reason : Lost) (lost : Option Lost)
      → all ≡ (xs ++ x ∷ []) ++ ys → lost ≡ Some reason → GivesEach writes a b xs None → writes b c x (Some reason) → GivesEach writes a c all lost
  given-up-to a b c xs ys all x reason lost is stopped before wrote =
      subst (λ (l : Option Lost). GivesEach writes a c all l) (sym stopped)
      (subst (λ (ts : List ToldValue). GivesEach writes a c ts (Some reason)) (sym is)
      (given-stopped a c (xs ++ x ∷ []) ys reason (given-append a b c xs (x ∷ []) (Some reason) before (given-one b c x (Some reason) wrote))))

-- ---- one more of a list

replicate-more : {A : Type 0} (n : ℕ) (x : A) → replicate (suc n) x ≡ replicate n x ++ x ∷ []
replicate-more zero x = refl
replicate-more (suc n) x = ap (λ (xs : List _). x ∷ xs) (replicate-more n x)

pub replicate-push : {A : Type 0} (n : ℕ) (x : A) → replicate (n + 1) x ≡ replicate n x ++ x ∷ []
replicate-push n x = ap (λ (m : ℕ). replicate m x) (add-one n) ∙ replicate-more n x

pub replicate-within : {A : Type 0} (n m : ℕ) (x : A) → n < m → (rest : List A) × (replicate m x ≡ (replicate n x ++ x ∷ []) ++ rest)
replicate-within n zero x less = absurd (omega (arith, less))
replicate-within zero (suc m) x less = (replicate m x, refl)
replicate-within (suc n) (suc m) x less =
    let more = replicate-within n m x (omega (arith, less)) in
    (more.0, ap (λ (xs : List _). x ∷ xs) more.1)

pub map-push : {A B : Type 0} (f : A → B) (xs : List A) (i : ℕ) (x : A) → i < length xs → x ≡ get_or xs i x
    → map f (take (i + 1) xs) ≡ map f (take i xs) ++ f x ∷ []
map-push f xs i x within is =
    ap (map f) (take_more xs i x within ∙ ap (λ y. take i xs ++ y ∷ []) (sym is)) ∙ map-append f (take i xs) (x ∷ [])

pub map-within : {A B : Type 0} (f : A → B) (xs : List A) (i : ℕ) → map f xs ≡ map f (take i xs) ++ map f (drop i xs)
map-within f xs i = ap (map f) (sym (take-append-drop i xs)) ∙ map-append f (take i xs) (drop i xs)

pub map-both : {A B C : Type 0} (f : B → C) (g : A → B) (xs : List A) → map f (map g xs) ≡ map (λ x. f (g x)) xs
map-both f g [] = refl
map-both f g (x ∷ xs) = ap (λ (ys : List _). f (g x) ∷ ys) (map-both f g xs)
